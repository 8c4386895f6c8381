use Rattle.std.proofs.Common.{◌+◌, ◌≤◌, length}
use Rattle.session.specs.Words.{size_left}
use Rattle.session.proofs.Counting.{Counts}
use Rattle.session.proofs.gids.Gids.of_word.Given as goal

abbrev pub invariant-loop-rest : goal.invariant-loop-rest
invariant-loop-rest l = record {
  counts : Counts l.word l.rest l.len;
  fits : l.len + size_left l.rest ≤ length l.word + 1;
}

abbrev pub decreases-loop-rest : goal.decreases-loop-rest
decreases-loop-rest l = size_left l.rest
