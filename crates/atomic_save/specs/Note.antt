-- How a request to a folder is noted as a call, and how the note is coded.
use Rattle.std.specs.Prelude.{◌≡◌, ℕ, ◌==◌, Bool, List, [], refl, if◌then◌else◌}
use Rattle.std.specs.Coded.{Coded, code_by, coded×, coded_ℕ, coded_bool, coded_list}
use Rattle.atomic_save.specs.Crash.{Call, name_locked, looked, folder_opened, listed, seized, claimed, compared, removed, made, access_set, wrote, synced}
use Rattle.atomic_save.specs.Crash.{renamed, folder_synced}
use Rattle.atomic_save.specs.declared.request.Request.{Request}
use Rattle.atomic_save.specs.declared.request.Request.TheVariants.{LockName, Access, OpenFolder, LeftOvers, Seize, Claim, Compare, Remove, Create}
use Rattle.atomic_save.specs.declared.request.Request.TheVariants.{SetAccess, Write, Sync, Rename, SyncFolder}

-- the call of a request, and whether it was answered that it is done
abbrev pub call_of : Request → Bool → Call
call_of (LockName path) ok = name_locked path.now ok
call_of (Access path) ok = looked path.now ok
call_of OpenFolder ok = folder_opened ok
call_of LeftOvers ok = listed ok
call_of (Seize path) ok = seized path.now ok
call_of (Claim path) ok = claimed path.now ok
call_of (Compare path bytes) ok = compared path.now bytes.now ok
call_of (Remove path) ok = removed path.now ok
call_of (Create path) ok = made path.now ok
call_of SetAccess ok = access_set ok
call_of (Write bytes) ok = wrote bytes.now ok
call_of Sync ok = synced ok
call_of (Rename from to) ok = renamed from.now to.now ok
call_of SyncFolder ok = folder_synced ok

-- ---- a call as its kind's number, its outcome and its two texts
abbrev pub Parts : Type 0
Parts = ℕ × (Bool × (List ℕ × List ℕ))

abbrev pub parts_of : Call → Parts
parts_of (looked path ok) = (0, (ok, (path, [])))
parts_of (folder_opened ok) = (1, (ok, ([], [])))
parts_of (listed ok) = (2, (ok, ([], [])))
parts_of (seized path ok) = (3, (ok, (path, [])))
parts_of (claimed path ok) = (4, (ok, (path, [])))
parts_of (compared path bytes ok) = (5, (ok, (path, bytes)))
parts_of (removed path ok) = (6, (ok, (path, [])))
parts_of (made path ok) = (7, (ok, (path, [])))
parts_of (access_set ok) = (8, (ok, ([], [])))
parts_of (wrote bytes ok) = (9, (ok, (bytes, [])))
parts_of (synced ok) = (10, (ok, ([], [])))
parts_of (renamed from to ok) = (11, (ok, (from, to)))
parts_of (folder_synced ok) = (12, (ok, ([], [])))
parts_of (name_locked path ok) = (13, (ok, (path, [])))

abbrev pub from_parts : Parts → Call
from_parts p =
    let ok : Bool = p.1.0 in
    let one : List ℕ = p.1.1.0 in
    let other : List ℕ = p.1.1.1 in
    if p.0 == 0 then looked one ok
    else if p.0 == 1 then folder_opened ok
    else if p.0 == 2 then listed ok
    else if p.0 == 3 then seized one ok
    else if p.0 == 4 then claimed one ok
    else if p.0 == 5 then compared one other ok
    else if p.0 == 6 then removed one ok
    else if p.0 == 7 then made one ok
    else if p.0 == 8 then access_set ok
    else if p.0 == 9 then wrote one ok
    else if p.0 == 10 then synced ok
    else if p.0 == 11 then renamed one other ok
    else if p.0 == 12 then folder_synced ok
    else name_locked one ok

pub from_parts_of : (call : Call) → from_parts (parts_of call) ≡ call
from_parts_of (looked path ok) = refl
from_parts_of (folder_opened ok) = refl
from_parts_of (listed ok) = refl
from_parts_of (seized path ok) = refl
from_parts_of (claimed path ok) = refl
from_parts_of (compared path bytes ok) = refl
from_parts_of (removed path ok) = refl
from_parts_of (made path ok) = refl
from_parts_of (access_set ok) = refl
from_parts_of (wrote bytes ok) = refl
from_parts_of (synced ok) = refl
from_parts_of (renamed from to ok) = refl
from_parts_of (folder_synced ok) = refl
from_parts_of (name_locked path ok) = refl

abbrev pub coded_call : Coded Call
coded_call = code_by Parts (coded× coded_ℕ (coded× coded_bool (coded× (coded_list coded_ℕ) (coded_list coded_ℕ)))) parts_of from_parts from_parts_of
