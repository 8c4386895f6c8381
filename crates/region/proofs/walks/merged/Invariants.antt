use Rattle.std.proofs.Common.{◌≡◌, ℕ, ◌+◌, ◌≤◌, ◌||◌, length, vec_len, vec_capacity}
use Rattle.region.specs.Runs.{IsMaximalRuns, in_runs}
use Rattle.region.specs.Walks.{EndBeforeFirst}
use Rattle.region.proofs.walks.merged.Given as goal

abbrev pub invariant-loop-next : goal.invariant-loop-next
invariant-loop-next l = record {
  room : vec_len l.out + (length l.first + length l.second) ≤ vec_capacity l.out;
  out : IsMaximalRuns l.out.items;
  first : IsMaximalRuns l.first;
  second : IsMaximalRuns l.second;
  before_first : EndBeforeFirst l.out.items l.first;
  before_second : EndBeforeFirst l.out.items l.second;
  cells : (q : ℕ × ℕ) → (in_runs l.out.items q || (in_runs l.first q || in_runs l.second q)) ≡ (in_runs l.a q || in_runs l.b q);
}

abbrev pub decreases-loop-next : goal.decreases-loop-next
decreases-loop-next l = length l.second
