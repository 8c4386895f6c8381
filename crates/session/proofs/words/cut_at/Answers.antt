use Rattle.std.proofs.Common.{◌<◌, ◌≡◌, ◌-◌, take, get_or, arith, ap, ◌∙◌}
use Rattle.std.proofs.lemmas.Str.{lead_after_ascii}
use Rattle.session.proofs.Cutting.{cut_some, cut_none, at_cut}
use Rattle.session.proofs.words.cut_at.Goals as goal

pub range_from-requires : goal.range_from-requires
range_from-requires c =
    let n = c.in-Some.n in
    let text = c.args.text.now in
    let inside = rw c.in-Some.is at c.requires.within in
    let halves = rw c.in-Some.is at c.requires.found in
    let small : get_or text n 0 < 128 = omega (arith, at_cut c.args.separator n text inside halves.1, c.requires.ascii) in
    λ h. (omega (arith, inside), λ l k. lead_after_ascii text n c.utf8.text small l k)

pub returns-in-Some-clause-pieces : goal.returns-in-Some-clause-pieces
returns-in-Some-clause-pieces c =
    let halves = rw c.in-Some.is at c.requires.found in
    let zero_off : c.in-Some.n - 0 ≡ c.in-Some.n = omega arith in
    let prefix = c.range.ensures.value ∙ ap (λ m. take m c.args.text.now) zero_off in
    rw (prefix, c.range_from.ensures.value) (cut_some _ _ _ _ halves.1 halves.0)

pub returns-in-None-clause-pieces : goal.returns-in-None-clause-pieces
returns-in-None-clause-pieces c = cut_none _ _ (rw c.in-None.is at c.requires.none)
