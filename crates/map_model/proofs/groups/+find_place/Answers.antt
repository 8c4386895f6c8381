use Rattle.std.proofs.Common.{◌≡◌, ◌-◌, Some, None, sym, ap, ◌∙◌}
use Rattle.std.specs.Option.{option_copied}
use Rattle.map_model.specs.Layers.{place_inside}
use Rattle.map_model.proofs.Walks.{place_among-no_groups, place_among-own, place_among-within, place_inside-group, place_inside-no_group}
use Rattle.map_model.proofs.groups.+find_place.Goals as goal

pub returns-in-Some : goal.returns-in-Some
returns-in-Some t c =
    place_among-own c.args.id c.args.groups c.args.parent c.args.layers.now c.in-Some.at (sym c.own_place.ensures ∙ c.in-Some.is)

pub returns-then-groups-eq0 : goal.returns-then-groups-eq0
returns-then-groups-eq0 t c =
    place_among-no_groups c.args.id c.args.groups c.args.parent c.args.layers.now c.if-groups-eq0.true (sym c.own_place.ensures ∙ c.in_default.is)

pub returns-in-Some-find_place : goal.returns-in-Some-find_place
returns-in-Some-find_place t c =
    let l = c.in-Some-layer.layer.now in
    let within = place_among-within c.args.id c.args.groups c.args.parent c.args.layers.now c.if-groups-eq0.false (sym c.own_place.ensures ∙ c.in_default.is) in
    let inside : place_inside c.args.id (c.args.groups - 1) l ≡ Some c.in-Some-find_place.place =
    sym (c.find_place.ensures
    ∙ place_inside-group c.args.id (c.args.groups - 1) l c.in-Some-layers.inside.now (sym c.layers.ensures ∙ ap option_copied c.in-Some-layers.is))
    ∙ c.in-Some-find_place.is in
    (rw inside at (rw c.in-Some-layer.ensures.steps at c.loop-layer.invariant)) ∙ within

pub loop-layer-preserved : goal.loop-layer-preserved
loop-layer-preserved t c =
    let none : place_inside c.args.id (c.args.groups - 1) c.in-Some-layer.layer.now ≡ None =
    place_inside-no_group c.args.id (c.args.groups - 1) c.in-Some-layer.layer.now (sym c.layers.ensures ∙ ap option_copied c.in_default-layers.is) in
    rw none at (rw c.in-Some-layer.ensures.steps at c.loop-layer.invariant)

pub returns : goal.returns
returns t c =
    let within = place_among-within c.args.id c.args.groups c.args.parent c.args.layers.now c.if-groups-eq0.false (sym c.own_place.ensures ∙ c.in_default.is) in
    (rw c.in-None.ensures.steps.0 at c.loop-layer.invariant) ∙ within
