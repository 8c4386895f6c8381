-- What a save leaves, wherever the machine stops.
use Rattle.std.specs.Prelude.{◌≡◌, ◌≢◌, ◌⊎◌, ℕ, ◌<◌, ◌≤◌, List, ◌∷◌, ◌++◌, length, Some, true}
use Rattle.atomic_save.specs.Crash.{Call, made, Found, Disk, held, IsDisk, Names, Stand, MayBeFound, refusals}
use Rattle.atomic_save.specs.declared.saves.SaveError.{SaveError}
use Rattle.atomic_save.specs.declared.saves.SaveError.TheVariants.{Refused, Memory}

-- Under the path stands what stood there or the new bytes, whole. Nothing else is changed but what is beside it.
pub record IsOldOrNew (IsBeside : List ℕ → Type 0) (path bytes : List ℕ) (before found : Found) : Type 0 where
  pub whole : (found path ≡ before path) ⊎ (found path ≡ Some bytes)
  pub others : (other : List ℕ) → other ≢ path → (IsBeside other → ⊥) → found other ≡ before other

-- Calls were made. Wherever the machine stopped at them, before the first, between two or after the last, no file is lost: what is found could have been found
-- before the first call, but for the new bytes under the path and what is beside it.
pub record LosesNothing (IsBeside : List ℕ → Type 0) (path bytes : List ℕ) (old new : List Call) : Type 0 where
  pub calls : (more : List Call) × (new ≡ more ++ old)
  pub each : (later sofar : List Call) → new ≡ later ++ sofar → length old ≤ length sofar → (start found : Found) → MayBeFound start sofar found
      → (before : Found) × MayBeFound start old before × IsOldOrNew IsBeside path bytes before found

-- wherever the machine stops from now on, the new bytes stand under the path
abbrev pub IsKept : List ℕ → List ℕ → List Call → Type 0
IsKept path bytes calls = (start found : Found) → MayBeFound start calls found → found path ≡ Some bytes

-- the new bytes stand under the path, if the machine goes on: where it stops, another file may be found there
abbrev pub IsInPlace : List ℕ → List ℕ → List Call → Type 0
IsInPlace path bytes calls = (start : Found) (disk : Disk) (names : Names) → IsDisk disk calls → Stand start disk calls names
    → held start disk (names path) ≡ Some bytes

-- this path, and no other
abbrev pub Only : List ℕ → List ℕ → Type 0
Only path other = other ≡ path

abbrev pub NoPath : List ℕ → Type 0
NoPath path = ⊥

-- a path that begins so
abbrev pub IsBeside : List ℕ → List ℕ → Type 0
IsBeside front path = (rest : List ℕ) × (path ≡ front ++ rest)

-- the last call made a file
abbrev pub IsMade : List ℕ → List Call → Type 0
IsMade path calls = (earlier : List Call) × (calls ≡ made path true ∷ earlier)

-- A save ends with an error only where a call that it needs was refused in it, or a path found no memory. A name that is taken refuses a call, too.
abbrev pub IsReason : SaveError → List Call → List Call → Type 0
IsReason (Refused error) old new = refusals old < refusals new
IsReason (Memory error) old new = Unit {0}
