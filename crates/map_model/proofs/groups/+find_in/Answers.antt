use Rattle.std.proofs.Common.{◌≡◌, Some, None, sym, ap, ◌∙◌}
use Rattle.std.specs.Option.{option_copied}
use Rattle.map_model.specs.Groups.{find_one}
use Rattle.map_model.proofs.Walks.{find_one-own, find_one-no_groups, find_one-no_group, find_one-group}
use Rattle.map_model.proofs.groups.+find_in.Goals as goal

pub returns-then-layer-id : goal.returns-then-layer-id
returns-then-layer-id t c =
    let own : find_one c.args.id c.args.groups c.in-Some.layer.now ≡ Some c.in-Some.layer.now =
    sym (find_one-own c.args.id c.args.groups c.in-Some.layer.now c.if-layer-id.true) in
    rw own at (rw c.in-Some.ensures.steps at c.loop-layer.invariant)

pub returns-in-Some-find_in : goal.returns-in-Some-find_in
returns-in-Some-find_in t c =
    let within = find_one-group c.args.id c.args.groups c.in-Some.layer.now c.in-Some-layers.inside.now c.if-layer-id.false
    c.if-groups-eq0.false (sym c.layers.ensures ∙ ap option_copied c.in-Some-layers.is) in
    let own : find_one c.args.id c.args.groups c.in-Some.layer.now ≡ Some c.in-Some-find_in.found.now =
    sym (c.find_in.ensures ∙ within) ∙ ap option_copied c.in-Some-find_in.is in
    rw own at (rw c.in-Some.ensures.steps at c.loop-layer.invariant)

pub loop-layer-preserved-then-groups-eq0 : goal.loop-layer-preserved-then-groups-eq0
loop-layer-preserved-then-groups-eq0 t c =
    let none : find_one c.args.id c.args.groups c.in-Some.layer.now ≡ None =
    sym (find_one-no_groups c.args.id c.args.groups c.in-Some.layer.now c.if-layer-id.false c.if-groups-eq0.true) in
    rw none at (rw c.in-Some.ensures.steps at c.loop-layer.invariant)

pub loop-layer-preserved-in_default-find_in : goal.loop-layer-preserved-in_default-find_in
loop-layer-preserved-in_default-find_in t c =
    let within = find_one-group c.args.id c.args.groups c.in-Some.layer.now c.in-Some-layers.inside.now c.if-layer-id.false c.if-groups-eq0.false
    (sym c.layers.ensures ∙ ap option_copied c.in-Some-layers.is) in
    let none : find_one c.args.id c.args.groups c.in-Some.layer.now ≡ None = sym (c.find_in.ensures ∙ within) ∙ ap option_copied c.in_default-find_in.is in
    rw none at (rw c.in-Some.ensures.steps at c.loop-layer.invariant)

pub loop-layer-preserved : goal.loop-layer-preserved
loop-layer-preserved t c =
    let none : find_one c.args.id c.args.groups c.in-Some.layer.now ≡ None =
    sym (find_one-no_group c.args.id c.args.groups c.in-Some.layer.now c.if-layer-id.false (sym c.layers.ensures ∙ ap option_copied c.in_default.is)) in
    rw none at (rw c.in-Some.ensures.steps at c.loop-layer.invariant)
