use Rattle.std.proofs.Common.{arith}
use Rattle.session.proofs.Counting.{counts_more}
use Rattle.session.proofs.gids.Gids.of_word.Goals as goal

pub loop-rest-preserved : goal.loop-rest-preserved
loop-rest-preserved c =
    let counts = rw c.in-Some.is at c.loop-rest.invariant.counts in
    let fits = rw c.in-Some.is at c.loop-rest.invariant.fits in
    record {
      counts = counts_more _ _ _ _ _ counts c.in_ok-others.ensures.number;
      fits = omega (arith, fits, c.in_ok-others.ensures.shorter);
    }
