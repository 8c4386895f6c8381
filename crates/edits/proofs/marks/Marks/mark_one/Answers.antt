use Rattle.std.proofs.Common.{◌*◌, ◌/◌, ◌%◌, ◌^◌, set, ap, ◌∙◌, arith}
use Rattle.std.specs.Prelude.{bit_or}
use Rattle.std.proofs.lemmas.List.{get_or_read}
use Rattle.edits.specs.Marks.{has_bit}
use Rattle.edits.proofs.Marking.{has_bit-set_one}
use Rattle.edits.proofs.marks.Marks.mark_one.Goals as goal

pub returns-clause-marks : goal.returns-clause-marks
returns-clause-marks c k =
    let words = c.args.self.now.words.items in
    let number = c.args.number in
    let word = get_or_read words (number / 64) c.index_mut.result.now (omega arith) c.index_mut.ensures.value 0 in
    ap (λ v. has_bit (set words (number / 64) (bit_or v (1 * 2 ^ (number % 64) % 2 ^ 64))) k) word ∙ has_bit-set_one words number k (omega arith)
