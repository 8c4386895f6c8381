use Rattle.std.proofs.Common.{◌≡◌, ℕ, ◌+◌, ◌-◌, ◌≤◌, ◌||◌, length, drop, vec_len, vec_capacity}
use Rattle.region.specs.Runs.{IsMaximalRuns, in_runs}
use Rattle.region.specs.Walks.{in_moved_runs}
use Rattle.region.proofs.Moving.{IsClear}
use Rattle.region.proofs.walks.moved_runs.Given as goal

abbrev pub invariant-loop-run : goal.invariant-loop-run
invariant-loop-run l = record {
  room : vec_len l.out + (length l.runs - l.run-index) ≤ vec_capacity l.out;
  order : IsMaximalRuns l.out.items;
  clear : IsClear l.dx l.dy l.out.items (drop l.run-index l.runs);
  cells : (q : ℕ × ℕ) → (in_runs l.out.items q || in_moved_runs (drop l.run-index l.runs) l.dx l.dy l.w l.h q) ≡ in_moved_runs l.runs l.dx l.dy l.w l.h q;
}
