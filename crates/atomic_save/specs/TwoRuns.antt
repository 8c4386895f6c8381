-- Two runs that save in one folder at once: what may be found there, whichever calls of the one come between those of the other.
use Rattle.std.specs.Prelude.{◌≡◌, ◌≢◌, ◌⊎◌, ℕ, Bool, true, false, not}
use Rattle.std.specs.Prelude.{List, [], ◌∷◌, ◌++◌, length, Contains, Option, Some, None, is_some, bytes_eq, if◌then◌else◌}
use Rattle.atomic_save.specs.Crash.{folder_opened, looked, name_locked, access_set}
use Rattle.atomic_save.specs.Crash.{Call, seized, claimed, compared, removed, made, wrote, synced}
use Rattle.atomic_save.specs.Crash.{renamed, folder_synced, is_done, is_folder_sync, Found, Disk, IsDisk, is_newest_made, newest, kept}

-- A call, and which of the two runs made it. Of a list of them the newest comes first.
abbrev pub Turn : Type 0
Turn = Bool × Call

-- the calls of one run
abbrev pub own : Bool → List Turn → List Call
own run [] = []
own true ((true, call) ∷ earlier) = call ∷ own true earlier
own true ((false, call) ∷ earlier) = own true earlier
own false ((true, call) ∷ earlier) = own false earlier
own false ((false, call) ∷ earlier) = call ∷ own false earlier

-- What stands under a path: the file that stood there at first, the file that a run made after so many calls of its own, or nothing.
pub data Place : Type 0 where
  first : List ℕ → Place
  made_by : Bool → ℕ → Place
  nothing : Place

-- what stands under each path, and the file that each run has locked
pub record Scene : Type 0 where
  pub names : List ℕ → Place
  pub lock : Bool → Place

abbrev pub with_name : List ℕ → Place → (List ℕ → Place) → List ℕ → Place
with_name path place names other = if bytes_eq other path then place else names other

abbrev pub with_lock : Bool → Place → (Bool → Place) → Bool → Place
with_lock true place lock true = place
with_lock true place lock false = lock false
with_lock false place lock true = lock true
with_lock false place lock false = place

abbrev pub names_after : Bool → ℕ → Call → (List ℕ → Place) → List ℕ → Place
names_after run number (removed path ok) names = with_name path nothing names
names_after run number (made path ok) names = with_name path (made_by run number) names
names_after run number (renamed from to ok) names = with_name from nothing (with_name to (names from) names)
names_after run number call names = names

-- A run has a file locked from its claim or seizure until it opens another one, takes it away or renames it. It may hold the lock for longer.
abbrev pub lock_after : Bool → Call → Scene → Bool → Place
lock_after run (claimed path true) s = with_lock run (s.names path) s.lock
lock_after run (claimed path false) s = with_lock run nothing s.lock
lock_after run (seized path true) s = with_lock run (s.names path) s.lock
lock_after run (seized path false) s = with_lock run nothing s.lock
lock_after run (compared path bytes ok) s = with_lock run nothing s.lock
lock_after run (made path ok) s = with_lock run nothing s.lock
lock_after run (removed path ok) s = with_lock run nothing s.lock
lock_after run (renamed from to ok) s = with_lock run nothing s.lock
lock_after run call s = s.lock

-- what an answer shows: a run locks no file that the other has locked, and claims the file that it made last
abbrev pub ShowsLock : Bool → Call → List Call → Scene → Type 0
ShowsLock run (claimed path true) earlier s =
    (is_newest_made earlier ≡ true → s.names path ≡ made_by run (newest earlier)) × (s.names path ≢ nothing) × (s.names path ≢ s.lock (not run))
ShowsLock run (seized path true) earlier s = (s.names path ≢ nothing) × (s.names path ≢ s.lock (not run))
ShowsLock run call earlier s = Unit {0}

-- a file is made only where there is none
abbrev pub MayBeDone : Call → Scene → Type 0
MayBeDone (made path ok) s = s.names path ≡ nothing
MayBeDone call s = Unit {0}

-- what a call that was done, or was answered by an error and may have been done all the same, leaves
abbrev pub Leaves : Bool → Call → ℕ → Scene → Scene → Type 0
Leaves run call number before after =
    (MayBeDone call before × (after.names ≡ names_after run number call before.names)) ⊎ ((is_done call ≡ false) × (after.names ≡ before.names))

-- what stands under each path before any call
abbrev pub at_first : Found → List ℕ → Place
at_first start path = if is_some (start path) then first path else nothing

-- what stands in the folder after these calls of the two runs
abbrev pub Stands : Found → List Turn → Scene → Type 0
Stands start [] s = (s.names ≡ at_first start) × ((run : Bool) → s.lock run ≡ nothing)
Stands start ((run, call) ∷ earlier) s =
    (before : Scene) × Stands start earlier before × ShowsLock run call (own run earlier) before × (s.lock ≡ lock_after run call before)
    × Leaves run call (length (own run earlier)) before s

-- what stands where the machine stops: after all of the calls, or after fewer, but none fewer than came before a sync of the folder
abbrev pub MayStandThen : Found → List Turn → Scene → Type 0
MayStandThen start [] s = Stands start [] s
MayStandThen start ((run, call) ∷ earlier) s =
    Stands start ((run, call) ∷ earlier) s ⊎ ((is_folder_sync call ≡ false) × MayStandThen start earlier s)

-- what is found where that stands
abbrev pub held_there : Found → (Bool → Disk) → Place → Option (List ℕ)
held_there start disk (first path) = start path
held_there start disk (made_by run number) = Some (disk run number)
held_there start disk nothing = None

-- this may be found where the machine stops after these calls of the two runs
pub record MayBeFoundThen (start : Found) (turns : List Turn) (found : Found) : Type 0 where
  pub disk : Bool → Disk
  pub scene : Scene
  pub sure : (run : Bool) → IsDisk (disk run) (own run turns)
  pub stand : MayStandThen start turns scene
  pub each : (path : List ℕ) → found path ≡ held_there start disk (scene.names path)

-- the turns of a save by one run, to a path of which it can lock no file
abbrev pub first_save : List ℕ → List ℕ → List ℕ → List Turn
first_save beside path bytes =
    (true, folder_synced true) ∷ (true, renamed beside path true) ∷ (true, synced true) ∷ (true, wrote bytes true) ∷ (true, access_set true)
    ∷ (true, claimed beside true) ∷ (true, made beside true) ∷ (true, folder_opened true) ∷ (true, looked path true) ∷ (true, name_locked path false) ∷ []

-- ---- what a run promises the other
-- the path under which the file stands that a run has locked
abbrev pub locked_path : List Call → Option (List ℕ)
locked_path [] = None
locked_path (claimed path true ∷ earlier) = Some path
locked_path (claimed path false ∷ earlier) = None
locked_path (seized path true ∷ earlier) = Some path
locked_path (seized path false ∷ earlier) = None
locked_path (compared path bytes ok ∷ earlier) = None
locked_path (made path ok ∷ earlier) = None
locked_path (removed path ok ∷ earlier) = None
locked_path (renamed from to ok ∷ earlier) = None
locked_path (call ∷ earlier) = locked_path earlier

-- whether the file that was opened last is one that a call made, and that was not renamed since
abbrev pub is_filling : List Call → Bool
is_filling [] = false
is_filling (made path ok ∷ earlier) = true
is_filling (seized path ok ∷ earlier) = false
is_filling (compared path bytes ok ∷ earlier) = false
is_filling (renamed from to ok ∷ earlier) = false
is_filling (call ∷ earlier) = is_filling earlier

-- `is_new` tells the paths of new files. A run makes, claims and seizes only such files, and writes only to one that it has made and not renamed yet. It takes
-- away and renames only a file that it has locked. What it puts in the place of another it has written and synced.
module _ (is_new : List ℕ → Bool) where
  abbrev pub IsCareful : Call → List Call → Type 0
  IsCareful (claimed path ok) earlier = is_new path ≡ true
  IsCareful (seized path ok) earlier = is_new path ≡ true
  IsCareful (made path ok) earlier = is_new path ≡ true
  IsCareful (removed path ok) earlier = locked_path earlier ≡ Some path
  IsCareful (access_set ok) earlier = is_filling earlier ≡ true
  IsCareful (wrote bytes ok) earlier = is_filling earlier ≡ true
  IsCareful (synced ok) earlier = is_newest_made earlier ≡ true → is_filling earlier ≡ true
  IsCareful (renamed from to ok) earlier =
      (is_new to ≡ false) × (is_filling earlier ≡ true) × (locked_path earlier ≡ Some from)
      × ((bytes : List ℕ) × (kept (newest earlier) earlier ≡ Some bytes) × Contains earlier (wrote bytes true))
  IsCareful call earlier = Unit {0}

  abbrev pub AreCareful : List Call → Type 0
  AreCareful [] = Unit {0}
  AreCareful (call ∷ earlier) = IsCareful call earlier × AreCareful earlier

-- A run that was careful is so still: where the paths beside a file are those of new files, and the file's own is none.
abbrev pub StaysCareful : (List ℕ → Type 0) → List ℕ → List Call → List Call → Type 0
StaysCareful IsBeside path old new =
    (is_new : List ℕ → Bool) → ((at : List ℕ) → IsBeside at → is_new at ≡ true) → is_new path ≡ false → AreCareful is_new old → AreCareful is_new new

-- the path has the file that it had at first, or whole bytes that one of the runs has written
abbrev pub IsWhole : Found → List Turn → List ℕ → Found → Type 0
IsWhole start turns path found =
    (found path ≡ start path) ⊎ ((run : Bool) × (bytes : List ℕ) × Contains (own run turns) (wrote bytes true) × (found path ≡ Some bytes))

-- ---- the file that was put in place last
-- these turns put no file under the path
abbrev pub PutNone : List ℕ → List Turn → Type 0
PutNone path [] = Unit {0}
PutNone path ((run, renamed from to ok) ∷ earlier) = (to ≢ path) × PutNone path earlier
PutNone path (turn ∷ earlier) = PutNone path earlier

-- a run put a file with these bytes under the path, and synced the folder then; nobody has put another there since
pub record HasPutLast (run : Bool) (path bytes : List ℕ) (turns : List Turn) : Type 0 where
  pub from : List ℕ
  pub earlier : List Turn
  pub middle : List Turn
  pub later : List Turn
  pub all : turns ≡ later ++ ((run, folder_synced true) ∷ (middle ++ ((run, renamed from path true) ∷ earlier)))
  pub filled : kept (newest (own run earlier)) (own run earlier) ≡ Some bytes
  pub none_between : PutNone path middle
  pub none_later : PutNone path later

-- the last call has put a file with these bytes under the path
abbrev pub IsRenamed : List ℕ → List ℕ → List Call → Type 0
IsRenamed path bytes calls =
    (from : List ℕ) × (earlier : List Call) × (calls ≡ renamed from path true ∷ earlier) × (kept (newest earlier) earlier ≡ Some bytes)

-- a save that is done has put its bytes under the path, and synced the folder; or it has found them there, and synced both
abbrev pub IsPut : List ℕ → List ℕ → List Call → Type 0
IsPut path bytes calls =
    ((before : List Call) × (calls ≡ folder_synced true ∷ before) × IsRenamed path bytes before)
    ⊎ ((earlier : List Call) × (calls ≡ folder_synced true ∷ synced true ∷ compared path bytes true ∷ earlier))
