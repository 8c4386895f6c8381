use Rattle.std.proofs.Common.{sym, ap, ◌∙◌}
use Rattle.std.specs.Option.{option_copied}
use Rattle.edits.proofs.ResizedTrees.{stay-first, stay-gone, stay-group, stay-no_group, stay-no_groups}
use Rattle.edits.proofs.resizing.+stay.Goals as goal

pub layer_stays-returns-then-not-all_stay : goal.layer_stays-returns-then-not-all_stay
layer_stays-returns-then-not-all_stay t c =
    stay-gone c.args.shift.now.right c.args.shift.now.down c.args.groups c.args.layer.now (sym c.all_stay.ensures ∙ c.if-not-all_stay.true)

pub layer_stays-returns-then-groups-eq0 : goal.layer_stays-returns-then-groups-eq0
layer_stays-returns-then-groups-eq0 t c =
    stay-no_groups c.args.shift.now.right c.args.shift.now.down c.args.groups c.args.layer.now c.if-groups-eq0.true (sym c.all_stay.ensures
    ∙ c.if-not-all_stay.false)

pub layer_stays-returns-in-Some : goal.layer_stays-returns-in-Some
layer_stays-returns-in-Some t c =
    c.layers_stay.ensures
    ∙ stay-group c.args.shift.now.right c.args.shift.now.down c.args.groups c.args.layer.now c.in-Some.inside.now c.if-groups-eq0.false
    (sym c.layers.ensures ∙ ap option_copied c.in-Some.is) (sym c.all_stay.ensures ∙ c.if-not-all_stay.false)

pub layer_stays-returns-in-None : goal.layer_stays-returns-in-None
layer_stays-returns-in-None t c =
    stay-no_group c.args.shift.now.right c.args.shift.now.down c.args.groups c.args.layer.now
    (sym c.layers.ensures ∙ ap option_copied c.in-None.is) (sym c.all_stay.ensures ∙ c.if-not-all_stay.false)

pub layers_stay-returns-then-not-layer_stays : goal.layers_stay-returns-then-not-layer_stays
layers_stay-returns-then-not-layer_stays t c =
    stay-first c.args.shift.now.right c.args.shift.now.down c.args.groups c.in-Some.layer.now _ (sym c.layer_stays.ensures ∙ c.if-not-layer_stays.true)
    ∙ (rw c.in-Some.ensures.steps at c.loop-layer.invariant)
