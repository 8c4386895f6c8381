use Rattle.tiled_maps.proofs.LookTokens.{ArePlain-TextNeedsNothing}
use Rattle.tiled_maps.proofs.LookBytes.{nothing_left}
use Rattle.tiled_maps.proofs.look.needs_nothing.Goals as goal

pub returns : goal.returns
returns c e =
    let l = c.loop-at in
    ArePlain-TextNeedsNothing c.args.text.now (l.invariant.1 (nothing_left c.args.text.now l.at c.loop-at-test.false))
