use Rattle.std.proofs.Common.{◌≡◌, ℕ, Bool, [], sym, ap, ◌∙◌}
use Rattle.std.specs.List.{list_any}
use Rattle.std.specs.Option.{option_copied}
use Rattle.map_model.specs.declared.parts.Layer.{Layer}
use Rattle.map_model.specs.Groups.{bare}
use Rattle.map_model.specs.Keeping.{layer_tier}
use Rattle.map_model.specs.Tilesets.{values_of}
use Rattle.map_model.specs.Uses.{is_between}
use Rattle.map_model.proofs.GroupBodies.{values_in-with}
use Rattle.map_model.proofs.TreeWalks.{any-own, any-no_groups, any-no_group, any-group}
use Rattle.map_model.proofs.tilesets.+uses.Goals as goal

abbrev passes : ℕ → ℕ → ℕ × Layer → Bool
passes low end d = list_any (is_between low end) (values_of d)

passes-bare : (low end a b : ℕ) (l : Layer) → passes low end (a, bare l) ≡ passes low end (b, l)
passes-bare low end a b l = ap (list_any (is_between low end)) (values_in-with (λ ls. []) l.body)

pub is_in_layer-returns-then-is_in_body : goal.is_in_layer-returns-then-is_in_body
is_in_layer-returns-then-is_in_body t c =
    any-own (passes c.args.low c.args.end) (passes-bare c.args.low c.args.end) c.args.groups layer_tier c.args.layer.now
    (sym c.is_in_body.ensures ∙ c.if-is_in_body.true)

pub is_in_layer-returns-then-groups-eq0 : goal.is_in_layer-returns-then-groups-eq0
is_in_layer-returns-then-groups-eq0 t c =
    any-no_groups (passes c.args.low c.args.end) (passes-bare c.args.low c.args.end) c.args.groups layer_tier c.args.layer.now
    (sym c.is_in_body.ensures ∙ c.if-is_in_body.false) c.if-groups-eq0.true

pub is_in_layer-returns-in-Some : goal.is_in_layer-returns-in-Some
is_in_layer-returns-in-Some t c =
    c.is_in_layers.ensures
    ∙ any-group (passes c.args.low c.args.end) (passes-bare c.args.low c.args.end) c.args.groups c.args.layer.now c.in-Some.inside.now
    (sym c.is_in_body.ensures ∙ c.if-is_in_body.false) c.if-groups-eq0.false
    (sym c.layers.ensures ∙ ap option_copied c.in-Some.is)

pub is_in_layer-returns-in-None : goal.is_in_layer-returns-in-None
is_in_layer-returns-in-None t c =
    any-no_group (passes c.args.low c.args.end) (passes-bare c.args.low c.args.end) c.args.groups layer_tier c.args.layer.now
    (sym c.is_in_body.ensures ∙ c.if-is_in_body.false) (sym c.layers.ensures ∙ ap option_copied c.in-None.is)
