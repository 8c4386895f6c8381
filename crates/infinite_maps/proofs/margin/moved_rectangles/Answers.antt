use Rattle.std.proofs.Common.{◌≡◌, map, get_or, ap, ◌∙◌, arith}
use Rattle.serde_json.specs.View.{view, items_of}
use Rattle.serde_json.specs.declared.value.Value.{Value}
use Rattle.json_trees.proofs.Loops.{pushed}
use Rattle.infinite_maps.specs.Margins.{each_item, rectangle_moved}
use Rattle.infinite_maps.proofs.Walks.{each_item-items_of, map_whole}
use Rattle.infinite_maps.proofs.margin.moved_rectangles.Goals as goal

pub loop-value-preserved : goal.loop-value-preserved
loop-value-preserved c =
    let l = c.loop-value in
    let made = λ (v : Value). rectangle_moved c.args.margin (view v) in
    let values = c.deref-value-items.result.now in
    let value = c.value-item.result in
    let new : view c.in_ok-moved_rectangle.field-0 ≡ made (get_or values l.value-index value) = c.in_ok-moved_rectangle.ensures ∙ ap made c.value-item.is in
    rw c.in_ok-push.ensures.items (pushed view made l.moved.items c.in_ok-moved_rectangle.field-0 values l.value-index value l.invariant c.loop-value-test.true new)

pub returns : goal.returns
returns c =
    ap items_of (c.loop-value.invariant ∙ map_whole (rectangle_moved c.args.margin) _ _ (omega (arith, c.loop-value-test.false)))
    ∙ each_item-items_of (rectangle_moved c.args.margin) (map view c.deref-value-items.result.now)
    ∙ ap (λ vs. each_item (rectangle_moved c.args.margin) (items_of (map view vs))) c.deref-value-items.ensures.value
