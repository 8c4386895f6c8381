use Rattle.std.proofs.Common.{nat_eq, ap, ◌∙◌, arith}
use Rattle.std.specs.Int.{bit_at}
use Rattle.std.proofs.lemmas.List.{get_or_read}
use Rattle.edits.proofs.Marking.{has_bit-at}
use Rattle.edits.proofs.marks.Marks.word.Goals as goal

pub returns : goal.returns
returns c i l =
    let words = c.args.self.now.words.items in
    ap (λ w. nat_eq (bit_at w i) 1) (get_or_read words c.args.word c.index.result.now (omega arith) c.index.ensures 0) ∙ has_bit-at words c.args.word i l
