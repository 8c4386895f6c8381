use Rattle.std.proofs.Common.{◌+◌, refl, arith}
use Rattle.tiled_maps.proofs.LookBytes.{negative_plain, digits_begin, ends_leads}
use Rattle.tiled_maps.proofs.look.negative_end.Goals as goal

pub returns : goal.returns
returns c =
    let text = c.args.text.now in
    let at = c.args.at in
    let end = c.digits_end-end.result in
    let low = c.if-text-from-lt49.false in
    let high = c.if-text-from-gt57.false in
    ends_leads text at end c.after_word.result (omega (arith, digits_begin text (at + 1) low high, c.digits_end-end.ensures.value))
    (λ ended rest.
    negative_plain text (at + 1) end c.digits_end-end.ensures.value c.if-end-from-gt-MAX_DIGITS.false low high ended rest at refl c.requires.within
    c.requires.minus)
    c.after_word.ensures
