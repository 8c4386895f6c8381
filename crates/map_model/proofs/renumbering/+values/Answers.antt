use Rattle.std.proofs.Common.{◌≡◌, ◌+◌, ◌≤◌, suc, length, sym, ap, ◌∙◌, arith}
use Rattle.std.specs.List.{slice_get}
use Rattle.map_model.specs.Renumbering.{KeepsTileset, one_with_values, value_moved}
use Rattle.map_model.specs.Keeping.{layer_tier}
use Rattle.map_model.specs.Lists.{Each}
use Rattle.map_model.specs.Tilesets.{values_of}
use Rattle.map_model.proofs.CanvasSteps.{Each-tree_at}
use Rattle.map_model.proofs.RenumberedCells.{changed_up, changed_up-all, get-changed_up, set-changed_up, within-changed_up}
use Rattle.map_model.proofs.RenumberedTrees.{alone-is, below-is, inside-values_of, own-values}
use Rattle.map_model.proofs.renumbering.+values.Goals as goal

pub move_layer-move_body-requires-clause-keep : goal.move_layer-move_body-requires-clause-keep
move_layer-move_body-requires-clause-keep t c =
    own-values (KeepsTileset c.args.by.low c.args.by.end c.args.by.to) c.args.groups layer_tier c.args.layer.now c.requires.keep

pub move_layer-returns-then-groups-eq0 : goal.move_layer-returns-then-groups-eq0
move_layer-returns-then-groups-eq0 t c =
    alone-is c.args.groups (value_moved c.args.by.low c.args.by.end c.args.by.to) c.args.layer.now c.move_body.new.body c.if-groups-eq0.true
    c.move_body.ensures

pub move_layer-move_inside-requires : goal.move_layer-move_inside-requires
move_layer-move_inside-requires t c =
    let some : 1 ≤ c.args.groups = omega (arith, c.if-groups-eq0.false) in (
      omega (arith, c.decreases, some),
      (
        inside-values_of (KeepsTileset c.args.by.low c.args.by.end c.args.by.to) c.args.groups (value_moved c.args.by.low c.args.by.end c.args.by.to)
            c.args.layer.now c.move_body.new.body some c.move_body.ensures c.requires.keep,
        c.requires.limit,
      ),
    )

pub move_layer-returns : goal.move_layer-returns
move_layer-returns t c =
    let some : 1 ≤ c.args.groups = omega (arith, c.if-groups-eq0.false) in
    below-is c.args.groups (value_moved c.args.by.low c.args.by.end c.args.by.to) c.args.layer.now c.move_body.new.body c.move_inside.new.body some
    c.move_body.ensures c.move_inside.ensures

pub move_layers-get_mut-requires : goal.move_layers-get_mut-requires
move_layers-get_mut-requires t c =
    within-changed_up (one_with_values c.args.groups (value_moved c.args.by.low c.args.by.end c.args.by.to)) c.loop-at.at c.len-at-end.result
    c.args.layers.now c.loop-at.layers c.loop-at.invariant c.len-at-end.ensures.value c.loop-at-test.true

pub move_layers-move_layer-requires : goal.move_layers-move_layer-requires
move_layers-move_layer-requires t c =
    let f = one_with_values c.args.groups (value_moved c.args.by.low c.args.by.end c.args.by.to) in
    let there = ap (λ ls. slice_get ls c.loop-at.at) (sym c.loop-at.invariant) ∙ c.get_mut.ensures.value in
    let own = sym (get-changed_up f c.loop-at.at c.args.layers.now) ∙ there in (
      omega (arith, c.decreases),
      (
        Each-tree_at (λ d. Each (KeepsTileset c.args.by.low c.args.by.end c.args.by.to) (values_of d)) c.args.groups c.args.layers.now c.loop-at.at
            c.get_mut.result.now own c.requires.keep,
        c.requires.limit,
      ),
    )

pub move_layers-loop-at-preserved : goal.move_layers-loop-at-preserved
move_layers-loop-at-preserved t c =
    let f = one_with_values c.args.groups (value_moved c.args.by.low c.args.by.end c.args.by.to) in
    let own = sym (get-changed_up f c.loop-at.at c.args.layers.now) ∙ (ap (λ ls. slice_get ls c.loop-at.at) (sym c.loop-at.invariant) ∙ c.get_mut.ensures.value) in
    let next : c.loop-at.at + 1 ≡ suc c.loop-at.at = omega arith in
    rw (c.move_layer.ensures, c.loop-at.invariant, next) (set-changed_up f c.loop-at.at c.args.layers.now c.get_mut.result.now own)

pub move_layers-returns : goal.move_layers-returns
move_layers-returns t c =
    let f = one_with_values c.args.groups (value_moved c.args.by.low c.args.by.end c.args.by.to) in
    let end : c.loop-at.at ≡ length c.args.layers.now = omega (arith, c.len-at-end.ensures.value, c.loop-at-test.false, c.loop-at.auto.at-end) in
    c.loop-at.invariant ∙ (ap (λ k. changed_up f k c.args.layers.now) end ∙ changed_up-all f c.args.layers.now)
