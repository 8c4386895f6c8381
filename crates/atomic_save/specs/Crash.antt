-- What is found in a folder where the machine stops, by the calls that were made on it: those of a file system that keeps the order of what is done to
-- names, renames in one step, and is sure of what a file holds only once the file is synced.
use Rattle.std.specs.Prelude.{◌≡◌, ◌⊎◌, ℕ, ◌+◌, ◌==◌, Bool, true, false, not, ◌&&◌}
use Rattle.std.specs.Prelude.{List, [], ◌∷◌, ◌++◌, length, Option, Some, None, option_map, bytes_eq, if◌then◌else◌}

-- A call on a folder, and whether it was answered that it is done. A write and a sync are of the file that was opened last.
pub data Call : Type 0 where
  -- the file under a path is opened and locked, so that other saves of the path wait
  name_locked : List ℕ → Bool → Call
  -- a look at the access bits of the file under a path
  looked : List ℕ → Bool → Call
  folder_opened : Bool → Call
  -- the names in the folder
  listed : Bool → Call
  -- a file that is there is opened and locked
  seized : List ℕ → Bool → Call
  -- the file that was made last is locked, and its path looked at
  claimed : List ℕ → Bool → Call
  -- a file is opened, and has these bytes and no others
  compared : List ℕ → List ℕ → Bool → Call
  removed : List ℕ → Bool → Call
  -- a file is made and opened where there was none
  made : List ℕ → Bool → Call
  access_set : Bool → Call
  wrote : List ℕ → Bool → Call
  synced : Bool → Call
  renamed : List ℕ → List ℕ → Bool → Call
  folder_synced : Bool → Call

abbrev pub is_done : Call → Bool
is_done (name_locked path ok) = ok
is_done (looked path ok) = ok
is_done (folder_opened ok) = ok
is_done (listed ok) = ok
is_done (seized path ok) = ok
is_done (claimed path ok) = ok
is_done (compared path bytes ok) = ok
is_done (removed path ok) = ok
is_done (made path ok) = ok
is_done (access_set ok) = ok
is_done (wrote bytes ok) = ok
is_done (synced ok) = ok
is_done (renamed from to ok) = ok
is_done (folder_synced ok) = ok

abbrev pub is_folder_sync : Call → Bool
is_folder_sync (folder_synced ok) = ok
is_folder_sync call = false

-- 1 for a call that a save needs and that was refused
abbrev pub refusal : Call → ℕ
refusal (looked path ok) = if ok then 0 else 1
refusal (folder_opened ok) = if ok then 0 else 1
refusal (claimed path ok) = if ok then 0 else 1
refusal (made path ok) = if ok then 0 else 1
refusal (access_set ok) = if ok then 0 else 1
refusal (wrote bytes ok) = if ok then 0 else 1
refusal (synced ok) = if ok then 0 else 1
refusal (renamed from to ok) = if ok then 0 else 1
refusal (folder_synced ok) = if ok then 0 else 1
refusal call = 0

-- how many calls that a save needs were refused
abbrev pub refusals : List Call → ℕ
refusals [] = 0
refusals (call ∷ earlier) = refusal call + refusals earlier

-- no write and no sync was refused
abbrev pub none_refused : List Call → Bool
none_refused [] = true
none_refused (wrote bytes ok ∷ earlier) = ok && none_refused earlier
none_refused (synced ok ∷ earlier) = ok && none_refused earlier
none_refused (folder_synced ok ∷ earlier) = ok && none_refused earlier
none_refused (call ∷ earlier) = none_refused earlier

-- What stands under a path: the file that stood under this path at first, the file that the call of this number made, or nothing.
pub data Standing : Type 0 where
  first : List ℕ → Standing
  file : ℕ → Standing
  nothing : Standing

abbrev pub Names : Type 0
Names = List ℕ → Standing

-- these names, and that under one path
abbrev pub with_name : List ℕ → Standing → Names → Names
with_name path standing names = λ other. if bytes_eq other path then standing else names other

-- the names after a call of this number that was done
abbrev pub after_call : Call → ℕ → Names → Names
after_call (removed path ok) number names = with_name path nothing names
after_call (made path ok) number names = with_name path (file number) names
after_call (renamed from to ok) number names = with_name from nothing (with_name to (names from) names)
after_call call number names = names

-- what is found under each path: a file's bytes, or none
abbrev pub Found : Type 0
Found = List ℕ → Option (List ℕ)

-- what each file that a call made holds where the machine stops
abbrev pub Disk : Type 0
Disk = ℕ → List ℕ

-- what is found where that stands, of the files that were there at first and of those that were made
abbrev pub held : Found → Disk → Standing → Option (List ℕ)
held start disk (first path) = start path
held start disk (file number) = Some (disk number)
held start disk nothing = None

-- What a call shows: a file that was read as these bytes, and synced then, holds them, if no write and no sync had been refused.
abbrev pub Shows : Found → Disk → Call → List Call → Names → Type 0
Shows start disk (synced true) (compared path bytes true ∷ earlier) names = none_refused earlier ≡ true → held start disk (names path) ≡ Some bytes
Shows start disk call earlier names = Unit {0}

-- whether the file that was opened last is one that a call made
abbrev pub is_newest_made : List Call → Bool
is_newest_made [] = false
is_newest_made (made path ok ∷ earlier) = true
is_newest_made (seized path ok ∷ earlier) = false
is_newest_made (compared path bytes ok ∷ earlier) = false
is_newest_made (call ∷ earlier) = is_newest_made earlier

-- a write to a file that no call made, or new access bits of it
abbrev pub spoils : Call → List Call → Bool
spoils (access_set ok) earlier = not (is_newest_made earlier)
spoils (wrote bytes ok) earlier = not (is_newest_made earlier)
spoils call earlier = false

-- The names after these calls, of which the newest comes first. A call that was answered by an error may have been done all the same. Once a file that was
-- there before was written to, anything may stand under any path.
abbrev pub Stand : Found → Disk → List Call → Names → Type 0
Stand start disk [] names = names ≡ first
Stand start disk (call ∷ earlier) names =
    (before : Names) × Stand start disk earlier before × Shows start disk call earlier before
    × ((names ≡ after_call call (length earlier) before) ⊎ ((is_done call ≡ false) × (names ≡ before)) ⊎ (spoils call earlier ≡ true))

-- The names that are found where the machine stops: those after all of the calls, or after fewer of them, but none fewer than came before a sync of the folder.
abbrev pub MayStand : Found → Disk → List Call → Names → Type 0
MayStand start disk [] names = names ≡ first
MayStand start disk (call ∷ earlier) names = Stand start disk (call ∷ earlier) names ⊎ ((is_folder_sync call ≡ false) × MayStand start disk earlier names)

-- The number of the call that opened the file that was opened last. Only one that made a file has the number of a file.
abbrev pub newest : List Call → ℕ
newest [] = 0
newest (made path ok ∷ earlier) = length earlier
newest (seized path ok ∷ earlier) = length earlier
newest (compared path bytes ok ∷ earlier) = length earlier
newest (call ∷ earlier) = newest earlier

-- what was written to a file, where that is sure: not once a write or a sync of it was refused
abbrev pub written : ℕ → List Call → Option (List ℕ)
written number [] = None
written number (made path ok ∷ earlier) = if length earlier == number then Some [] else written number earlier
written number (wrote bytes ok ∷ earlier) =
    if newest earlier == number then if ok then option_map (λ before. before ++ bytes) (written number earlier) else None else written number earlier
written number (synced ok ∷ earlier) = if newest earlier == number then if ok then written number earlier else None else written number earlier
written number (call ∷ earlier) = written number earlier

-- what a file holds where the machine stops, where that is sure: all that was written to it, and synced since
abbrev pub kept : ℕ → List Call → Option (List ℕ)
kept number [] = None
kept number (wrote bytes ok ∷ earlier) = if newest earlier == number then None else kept number earlier
kept number (synced ok ∷ earlier) = if newest earlier == number then if ok then written number earlier else None else kept number earlier
kept number (call ∷ earlier) = kept number earlier

-- a disk holds what is sure of each file, and anything where nothing is
abbrev pub IsDisk : Disk → List Call → Type 0
IsDisk disk calls = (number : ℕ) (sure : List ℕ) → kept number calls ≡ Some sure → disk number ≡ sure

-- This may be found where the machine stops after these calls, the newest first, if the files that were there before them hold then what `start` says.
pub record MayBeFound (start : Found) (calls : List Call) (found : Found) : Type 0 where
  pub disk : Disk
  pub names : Names
  pub sure : IsDisk disk calls
  pub stand : MayStand start disk calls names
  pub each : (path : List ℕ) → found path ≡ held start disk (names path)
