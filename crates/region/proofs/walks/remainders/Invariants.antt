use Rattle.std.proofs.Common.{◌≡◌, ℕ, ◌+◌, ◌≤◌, ◌||◌, ◌&&◌, not, length, vec_len, vec_capacity}
use Rattle.region.specs.Runs.{IsMaximalRuns, in_runs}
use Rattle.region.specs.Walks.{EndBeforeFirst}
use Rattle.region.proofs.walks.remainders.Given as goal

abbrev pub invariant-loop-cut : goal.invariant-loop-cut
invariant-loop-cut l = record {
  room : vec_len l.out + (length l.runs + length l.cuts) ≤ vec_capacity l.out;
  out : IsMaximalRuns l.out.items;
  first : IsMaximalRuns l.runs;
  second : IsMaximalRuns l.cuts;
  order : EndBeforeFirst l.out.items l.runs;
  cells : (q : ℕ × ℕ) → (in_runs l.out.items q || (in_runs l.runs q && not (in_runs l.cuts q))) ≡ (in_runs l.a q && not (in_runs l.b q));
}

abbrev pub decreases-loop-cut : goal.decreases-loop-cut
decreases-loop-cut l = length l.runs
