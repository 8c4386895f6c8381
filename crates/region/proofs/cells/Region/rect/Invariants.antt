use Rattle.std.proofs.Common.{◌≡◌, ℕ, ◌+◌, ◌-◌, ◌≤◌, vec_len, vec_capacity}
use Rattle.region.specs.Cells.{in_rectangle}
use Rattle.region.specs.Runs.{IsMaximalRuns, in_runs}
use Rattle.region.specs.Walks.{HaveEnded}
use Rattle.region.proofs.cells.Region.rect.Given as goal

abbrev pub invariant-loop-row : goal.invariant-loop-row
invariant-loop-row l = record {
  room : vec_len l.runs + (l.h - l.row) ≤ vec_capacity l.runs;
  runs : IsMaximalRuns l.runs.items;
  cells : (q : ℕ × ℕ) → in_runs l.runs.items q ≡ in_rectangle l.x l.y l.w l.row q;
  ended : HaveEnded (l.x, l.y + l.row) l.runs.items;
}
