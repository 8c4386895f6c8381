-- Files by name, and what a store keeps.
use Rattle.std.specs.Prelude.{◌≡◌, ◌≢◌, ℕ, ◌-◌, ◌^◌, ◌<◌, ◌≤◌, ◌⊎◌, List, Bool, IsTrue}
use Rattle.std.specs.Ordering.{nat_cmp}
use Rattle.std.specs.Cmp.Lexicographic.{slice_cmp}
use Rattle.std.specs.FinMap.{FinMap, get}

-- from names to bytes
abbrev pub Files : Type 0
Files = FinMap (slice_cmp nat_cmp) (List ℕ)

-- what a store keeps: its files, how often it has failed, and whether it does with its files what it says
pub record StoreParts : Type 0 where
  pub files : Files
  pub failures : ℕ
  pub honest : Bool

-- every file but that one is as before
abbrev pub SameOthers : List ℕ → Files → Files → Type 0
SameOthers name old new = (other : List ℕ) → other ≢ name → get new other ≡ get old other

-- the count of failures rose, or stood at its last value
abbrev pub HasFailed : StoreParts → StoreParts → Type 0
HasFailed old new = (old.failures < new.failures) ⊎ (old.failures ≡ 2 ^ 64 - 1)

-- The store may have been called. The count of failures has not fallen; a store that is honest stays so, and this holds of its files
-- before and after.
pub record IsCalled (Leaves : Files → Files → Type 0) (before after : StoreParts) : Type 0 where
  pub count : before.failures ≤ after.failures
  pub honest : IsTrue before.honest → IsTrue after.honest
  pub files : IsTrue before.honest → Leaves before.files after.files
