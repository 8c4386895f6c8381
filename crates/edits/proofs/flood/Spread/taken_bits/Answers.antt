use Rattle.std.proofs.Common.{◌+◌, ◌*◌, not, ◌&&◌, nat_eq, w64, refl, ap, ◌∙◌, sym, arith}
use Rattle.std.specs.Int.{bit_at, bit_not}
use Rattle.edits.specs.Marks.{is_marked}
use Rattle.edits.proofs.Marking.{has_and, has_not}
use Rattle.edits.proofs.Spreading.{taken-two}
use Rattle.edits.proofs.flood.Spread.taken_bits.Goals as goal

pub returns : goal.returns
returns c i l =
    let s = c.args.self.now in
    let number = 64 * c.args.word + i in
    let taken = c.word.result in
    let opened = c.word-2.result in
    has_and taken (bit_not w64 opened) i
    ∙ ap (λ b. b && nat_eq (bit_at (bit_not w64 opened) i) 1) (c.word.ensures i l)
    ∙ ap (λ b. is_marked s.taken number && b) (has_not opened i (omega arith) l ∙ ap not (c.word-2.ensures i l))
    ∙ sym (taken-two s number (is_marked s.open number) (is_marked s.taken number) refl refl)
