use Rattle.std.proofs.Common.{sym, ◌∙◌, arith}
use Rattle.infinite_maps.proofs.Refusals.{overlap_at}
use Rattle.infinite_maps.proofs.pasting.overlaps_before.Goals as goal

pub returns-then-do_overlap : goal.returns-then-do_overlap
returns-then-do_overlap c = λ _.
    overlap_at c.args.chunks.now.items c.loop-before.before c.args.at c.index.result.now c.index-in-loop-before.result.now c.loop-before-test.true
    (omega (arith, c.if-at-len.false, c.len.ensures)) c.index.ensures c.index-in-loop-before.ensures (sym c.do_overlap.ensures ∙ c.if-do_overlap.true)
