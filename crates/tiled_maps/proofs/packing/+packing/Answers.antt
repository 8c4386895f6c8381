use Rattle.std.proofs.Common.{rules, ◌≡◌, suc, ◌-◌, length, ap, arith, codes}
use Rattle.std.specs.Vec.Iter.{into_iter_items}
use Rattle.tiled_maps.proofs.PackedWalks.{AreMade-none, AreMade-pushed, AreMade-all, member_put, LayersPacked-zero, LayersPacked-suc}
use Rattle.serde_json.specs.View.{members_view}
use Rattle.tiled_maps.specs.Packing.{ArrayRelated, ItemPacked}
use Rattle.tiled_maps.proofs.packing.+packing.Goals as goal

pub items_packed-loop-item-init : goal.items_packed-loop-item-init
items_packed-loop-item-init t c = (AreMade-none _ _ _ _ (search rules) (search rules), search rules)

pub items_packed-loop-item-preserved : goal.items_packed-loop-item-preserved
items_packed-loop-item-preserved t c =
    let l = c.loop-item in
    let steps = c.in-Some.ensures.steps in (
      rw c.in_ok-push.ensures.items
          (AreMade-pushed _ _ _ _ (into_iter_items c.next.new.self) c.in_ok-item_packed.field-0 c.in-Some.item l.invariant.0 steps.0
          c.in_ok-item_packed.ensures),
      omega (arith, steps.1, ap length steps.0, l.invariant.1),
    )

pub items_packed-returns : goal.items_packed-returns
items_packed-returns t c =
    let l = c.loop-item in
    let none : length (into_iter_items l.item-iterator) ≡ 0 = omega (arith, l.invariant.1, c.in-None.ensures.steps.0) in
    AreMade-all _ _ _ _ l.invariant.0 none

pub pack_below-returns-in_ok-put-in-Some : goal.pack_below-returns-in_ok-put-in-Some
pack_below-returns-in_ok-put-in-Some t c =
    member_put (codes "layers") (ArrayRelated (ItemPacked c.args.tiers)) (members_view c.args.members.now.entries) _ _ _ _ c.in-Some.ensures.found
    c.in-Some.ensures.left c.in_ok-layers-in-Some.ensures c.in_ok-put-in-Some.ensures.ok

pub pack_tiers-returns-then-tiers-eq0 : goal.pack_tiers-returns-then-tiers-eq0
pack_tiers-returns-then-tiers-eq0 t c = LayersPacked-zero c.args.tiers _ (omega arith)

pub pack_tiers-returns : goal.pack_tiers-returns
pack_tiers-returns t c =
    let more : c.args.tiers ≡ suc (c.args.tiers - 1) = omega arith in
    LayersPacked-suc c.args.tiers (c.args.tiers - 1) _ _ _ more c.in_ok-pack_below.ensures c.in_ok-pack_layer.ensures
