-- Runs of cells.
use Rattle.std.specs.Prelude.{◌≡◌, ℕ, ◌+◌, ◌^◌, ◌<◌, ◌≤◌, ◌⊎◌, Bool, true, false, ◌&&◌, List, [], ◌∷◌, nat_eq, nat_le, nat_lt}
use Rattle.std.specs.List.{list_any}
use Rattle.region.specs.declared.runs.Run.{Run}

-- a run has a cell, and the column behind its last cell is a number of 32 bits
pub record IsRun (r : Run) : Type 0 where
  pub some : 1 ≤ r.len
  pub fits : r.x + r.len < 2 ^ 32

-- the first run ends before the second one, and there is a cell between them
abbrev pub EndsBefore : Run → Run → Type 0
EndsBefore r s = (r.y < s.y) ⊎ ((r.y ≡ s.y) × (r.x + r.len < s.x))

-- a run ends before the first of the runs
abbrev pub EndsBeforeAll : Run → List Run → Type 0
EndsBeforeAll r [] = Unit {0}
EndsBeforeAll r (s ∷ rs) = EndsBefore r s

-- runs in row order, of which no two of a row touch or overlap
abbrev pub IsMaximalRuns : List Run → Type 0
IsMaximalRuns [] = Unit {0}
IsMaximalRuns (r ∷ rs) = IsRun r × EndsBeforeAll r rs × IsMaximalRuns rs

-- whether a cell, its column and its row, is in a run, or in one of several
abbrev pub in_run : Run → ℕ × ℕ → Bool
in_run r q = nat_eq r.y q.1 && (nat_le r.x q.0 && nat_lt q.0 (r.x + r.len))

abbrev pub in_runs : List Run → ℕ × ℕ → Bool
in_runs rs q = list_any (λ r. in_run r q) rs

-- the run has the next cells of a row that pass the test: the first from a column on, before an end, and those that follow
-- it side by side
pub record IsNextRun (has : ℕ × ℕ → Bool) (y from end : ℕ) (r : Run) : Type 0 where
  pub row : r.y ≡ y
  pub start : from ≤ r.x
  pub some : 1 ≤ r.len
  pub fits : r.x + r.len ≤ end
  pub before : (x : ℕ) → from ≤ x → x < r.x → has (x, y) ≡ false
  pub cells : (x : ℕ) → r.x ≤ x → x < r.x + r.len → has (x, y) ≡ true
  pub whole : r.x + r.len < end → has (r.x + r.len, y) ≡ false

-- no cell of a row passes the test from a column on, before an end
abbrev pub HasNone : (ℕ × ℕ → Bool) → ℕ → ℕ → ℕ → Type 0
HasNone has y from end = (x : ℕ) → from ≤ x → x < end → has (x, y) ≡ false
