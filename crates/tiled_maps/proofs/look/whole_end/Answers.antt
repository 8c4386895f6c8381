use Rattle.std.proofs.Common.{arith}
use Rattle.tiled_maps.proofs.LookBytes.{whole_plain, digits_begin, ends_leads}
use Rattle.tiled_maps.proofs.look.whole_end.Goals as goal

pub returns : goal.returns
returns c =
    let text = c.args.text.now in
    let at = c.args.at in
    let end = c.digits_end-end.result in
    let digit = c.requires.digit in
    ends_leads text at end c.after_word.result (omega (arith, digits_begin text at digit.0 digit.1, c.digits_end-end.ensures.value))
    (λ ended rest. whole_plain text at end c.digits_end-end.ensures.value c.if-end-at-gt-MAX_DIGITS.false digit.0 digit.1 ended rest) c.after_word.ensures
