use Rattle.std.proofs.Common.{◌≡◌, ◌-◌, Bor, Option, Some, None, is_some, refl, sym, ap, ◌∙◌, arith}
use Rattle.std.specs.Option.{option_copied}
use Rattle.map_model.specs.declared.limits.TheConstants.{MAX_GROUPS}
use Rattle.map_model.specs.declared.parts.Layer.{Layer}
use Rattle.map_model.specs.Groups.{find_one, layer_among}
use Rattle.map_model.proofs.Walks.{find_one-group, holds-no_group, holds-own}
use Rattle.map_model.proofs.parts.Layer.holds.Goals as goal

pub returns-then-self-id : goal.returns-then-self-id
returns-then-self-id c = holds-own c.args.id MAX_GROUPS c.args.self.now c.if-self-id.true

is_some-copied : (o : Option (Bor Layer)) → is_some o ≡ is_some (option_copied o)
is_some-copied None = refl
is_some-copied (Some l) = refl

pub returns-in-Some : goal.returns-in-Some
returns-in-Some c =
    let l = c.args.self.now in
    let ks = c.in-Some.inside.now in
    let found : layer_among c.args.id (MAX_GROUPS - 1) ks ≡ find_one c.args.id MAX_GROUPS l =
    find_one-group c.args.id MAX_GROUPS l ks c.if-self-id.false (λ z. omega (arith, z)) (sym c.layers.ensures ∙ ap option_copied c.in-Some.is) in
    c.is_some.ensures ∙ is_some-copied c.find_in.result ∙ ap is_some (c.find_in.ensures ∙ found)

pub returns-in-None : goal.returns-in-None
returns-in-None c = holds-no_group c.args.id MAX_GROUPS c.args.self.now c.if-self-id.false (sym c.layers.ensures ∙ ap option_copied c.in-None.is)
