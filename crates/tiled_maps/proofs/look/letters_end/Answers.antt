use Rattle.std.proofs.Common.{◌∙◌, arith}
use Rattle.tiled_maps.proofs.LookBytes.{letter_passed}
use Rattle.tiled_maps.proofs.look.letters_end.Goals as goal

pub loop-at-preserved : goal.loop-at-preserved
loop-at-preserved c =
    let l = c.loop-at in
    (letter_passed c.args.text.now l.at c.loop-at-test.true c.if-text-at-ge97.true c.if-text-at-le122.true ∙ l.invariant.0, omega arith, omega arith)
