use Rattle.std.proofs.Common.{◌<◌, ◌≡◌, length, get_or, arith}
use Rattle.std.proofs.lemmas.Str.{lead_after_ascii}
use Rattle.session.proofs.Signs.{minus_inside}
use Rattle.session.proofs.words.behind_minus.Goals as goal

pub range_from-requires : goal.range_from-requires
range_from-requires c =
    let text = c.args.text.now in
    let at : get_or text 0 0 ≡ 45 = rw c.as_bytes-bytes.ensures.value at c.if-bytes-ne45.false in
    let inside : 0 < length text = minus_inside text at in
    let small : get_or text 0 0 < 128 = omega (arith, at) in
    λ h. (omega (arith, inside), λ l k. lead_after_ascii text 0 c.utf8.text small l k)
