use Rattle.std.proofs.Common.{sym, ◌∙◌, arith}
use Rattle.map_values.proofs.Words.{one_more_word, all_words}
use Rattle.map_values.proofs.cells.words.Goals as goal

pub loop-i-preserved : goal.loop-i-preserved
loop-i-preserved c =
    rw c.in_ok-push.ensures.items (one_more_word c.loop-i.found.items c.args.bytes.now c.loop-i.i c.from_le_bytes.result (omega arith) c.from_le_bytes.ensures
    ∙ c.loop-i.invariant)

pub returns : goal.returns
returns c = sym (all_words c.loop-i.found.items c.args.bytes.now c.loop-i.i (omega arith)) ∙ c.loop-i.invariant
