use Rattle.std.proofs.Common.{◌≡◌, ℕ, ◌+◌, ◌≤◌, ◌||◌, ◌&&◌, length, vec_len, vec_capacity}
use Rattle.region.specs.Runs.{IsMaximalRuns, in_runs}
use Rattle.region.specs.Walks.{HaveEnded, IsFromFirst}
use Rattle.region.proofs.walks.overlaps.Given as goal

abbrev pub invariant-loop-next : goal.invariant-loop-next
invariant-loop-next l = record {
  room : vec_len l.out + (length l.first + length l.second) ≤ vec_capacity l.out;
  out : IsMaximalRuns l.out.items;
  first : IsMaximalRuns l.first;
  second : IsMaximalRuns l.second;
  order : (q : ℕ × ℕ) → IsFromFirst q l.first → IsFromFirst q l.second → HaveEnded q l.out.items;
  cells : (q : ℕ × ℕ) → (in_runs l.out.items q || (in_runs l.first q && in_runs l.second q)) ≡ (in_runs l.a q && in_runs l.b q);
}

abbrev pub decreases-loop-next : goal.decreases-loop-next
decreases-loop-next l = length l.second
