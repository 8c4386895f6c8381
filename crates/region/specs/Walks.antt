-- What the steps of a walk over two lists of runs say.
use Rattle.std.specs.Prelude.{◌≡◌, ℤ, pos, negsuc, ◌+ℤ◌, ◌-ℤ◌, ◌≤ℤ◌, ℕ, ◌+◌, ◌<◌, ◌≤◌, ◌⊎◌, Bool, true, false, ◌&&◌, ◌||◌, nat_eq, nat_le, nat_lt, List, []}
use Rattle.std.specs.Prelude.{◌∷◌, ◌++◌, Option, Some, None}
use Rattle.region.specs.declared.runs.Run.{Run}
use Rattle.std.specs.List.{list_any}
use Rattle.region.specs.Cells.{IsFrom}
use Rattle.region.specs.Runs.{in_run}

-- each cell of the first run comes after each cell of the second one
abbrev pub LiesBehind : Run → Run → Type 0
LiesBehind r s = (s.y < r.y) ⊎ ((s.y ≡ r.y) × (s.x + s.len ≤ r.x))

-- the first run lies within the second one
pub record LiesWithin (p r : Run) : Type 0 where
  pub row : p.y ≡ r.y
  pub start : r.x ≤ p.x
  pub end : p.x + p.len ≤ r.x + r.len
  pub some : 1 ≤ p.len

-- the first run lies within the second one, moved by dx columns and dy rows
pub record LiesWithinMoved (dx dy : ℤ) (p r : Run) : Type 0 where
  pub row : pos p.y ≡ pos r.y +ℤ dy
  pub start : (pos r.x +ℤ dx) ≤ℤ pos p.x
  pub end : pos (p.x + p.len) ≤ℤ (pos (r.x + r.len) +ℤ dx)
  pub some : 1 ≤ p.len

-- whether a cell is in the run, if there is one
abbrev pub in_option : Option Run → ℕ × ℕ → Bool
in_option None q = false
in_option (Some r) q = in_run r q

-- whether a cell comes before a run, or after it
abbrev pub is_before : ℕ × ℕ → Run → Bool
is_before q r = nat_lt q.1 r.y || (nat_eq q.1 r.y && nat_lt q.0 r.x)

abbrev pub is_after : ℕ × ℕ → Run → Bool
is_after q r = nat_lt r.y q.1 || (nat_eq r.y q.1 && nat_le (r.x + r.len) q.0)

-- each run ends before a cell
abbrev pub HaveEnded : ℕ × ℕ → List Run → Type 0
HaveEnded q [] = Unit {0}
HaveEnded q (r ∷ rs) = (is_after q r ≡ true) × HaveEnded q rs

-- each run ends before the first of the others starts
abbrev pub EndBeforeFirst : List Run → List Run → Type 0
EndBeforeFirst rs [] = Unit {0}
EndBeforeFirst rs (s ∷ ss) = HaveEnded (s.x, s.y) rs

-- a cell stands where the first of the runs starts, or behind it
abbrev pub IsFromFirst : ℕ × ℕ → List Run → Type 0
IsFromFirst q [] = ⊥
IsFromFirst q (r ∷ rs) = IsFrom q (r.x, r.y)

-- the first run does not end before a cell
abbrev pub LastsTo : ℕ × ℕ → List Run → Type 0
LastsTo q [] = Unit {0}
LastsTo q (r ∷ rs) = is_after q r ≡ false

-- runs in two lists: those of the prefix end before a cell, and the first of the rest does not
pub record AreSplitAt (q : ℕ × ℕ) (runs prefix rest : List Run) : Type 0 where
  pub whole : runs ≡ prefix ++ rest
  pub ended : HaveEnded q prefix
  pub lasts : LastsTo q rest

-- whether a run has the cell at a column and a row, none of which is negative
abbrev pub in_run_at : Run → ℤ → ℤ → Bool
in_run_at r (pos x) (pos y) = in_run r (x, y)
in_run_at r (pos x) (negsuc y) = false
in_run_at r (negsuc x) y = false

-- whether a cell lies within a width and a height, and moving it back gives a cell of the run
abbrev pub in_moved_run : Run → ℤ → ℤ → ℕ → ℕ → ℕ × ℕ → Bool
in_moved_run r dx dy w h q = (nat_lt q.0 w && nat_lt q.1 h) && in_run_at r (pos q.0 -ℤ dx) (pos q.1 -ℤ dy)

-- whether a cell lies within a width and a height, and moving it back gives a cell of one of the runs
abbrev pub in_moved_runs : List Run → ℤ → ℤ → ℕ → ℕ → ℕ × ℕ → Bool
in_moved_runs rs dx dy w h q = list_any (λ r. in_moved_run r dx dy w h q) rs
