use Rattle.std.proofs.Common.{◌≡◌, ℕ, ◌+◌, ◌≤◌, ◌||◌, ◌&&◌, not, length, vec_len, vec_capacity}
use Rattle.region.specs.Cells.{IsFrom}
use Rattle.region.specs.Runs.{IsMaximalRuns, in_run, in_runs}
use Rattle.region.specs.Walks.{LiesWithin, HaveEnded}
use Rattle.region.proofs.walks.push_gaps.Given as goal

abbrev pub invariant-loop-cut : goal.invariant-loop-cut
invariant-loop-cut l = record {
  room : vec_len l.out + length l.rest ≤ vec_len l.fn.out + length l.fn.others;
  capacity : vec_capacity l.fn.out ≤ vec_capacity l.out;
  runs : IsMaximalRuns l.out.items;
  others : IsMaximalRuns l.rest;
  within : LiesWithin l.left l.fn.run;
  order : HaveEnded (l.left.x, l.left.y) l.out.items;
  cells : (q : ℕ × ℕ) → (in_runs l.out.items q || (in_run l.left q && not (in_runs l.rest q)))
      ≡ (in_runs l.fn.out.items q || (in_run l.fn.run q && not (in_runs l.fn.others q)));
  later : (q : ℕ × ℕ) → IsFrom q (l.fn.run.x + l.fn.run.len, l.fn.run.y) → in_runs l.rest q ≡ in_runs l.fn.others q;
}

abbrev pub decreases-loop-cut : goal.decreases-loop-cut
decreases-loop-cut l = length l.rest
