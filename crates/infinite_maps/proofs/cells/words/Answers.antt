use Rattle.std.proofs.Common.{◌*◌, sym, ◌∙◌, arith, length-drop}
use Rattle.infinite_maps.proofs.Words.{one_more_word, all_words}
use Rattle.infinite_maps.proofs.cells.words.Goals as goal

pub loop-i-preserved : goal.loop-i-preserved
loop-i-preserved c =
    rw c.in_ok-push.ensures.items (one_more_word c.loop-i.found.items c.args.bytes.now c.loop-i.i c.word.result (omega arith) c.word.ensures
    ∙ c.loop-i.invariant)

pub returns : goal.returns
returns c =
    sym (all_words c.loop-i.found.items c.args.bytes.now c.loop-i.i (omega (arith, length-drop (4 * c.loop-i.i) c.args.bytes.now))) ∙ c.loop-i.invariant
