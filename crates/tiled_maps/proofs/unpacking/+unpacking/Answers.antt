use Rattle.std.proofs.Common.{rules, ◌≡◌, suc, ◌-◌, length, ap, arith}
use Rattle.std.specs.Vec.Iter.{into_iter_items}
use Rattle.tiled_maps.proofs.SourceWalks.{IsMade-none, IsMade-pushed, IsMade-all}
use Rattle.tiled_maps.proofs.PackedWalks.{layers_unpacked-made}
use Rattle.tiled_maps.proofs.unpacking.+unpacking.Goals as goal

pub items_unpacked-loop-item-init : goal.items_unpacked-loop-item-init
items_unpacked-loop-item-init t c = (IsMade-none _ _ _ _ (search rules) (search rules), search rules)

pub items_unpacked-loop-item-preserved : goal.items_unpacked-loop-item-preserved
items_unpacked-loop-item-preserved t c =
    let l = c.loop-item in
    let steps = c.in-Some.ensures.steps in (
      rw c.in_ok-push.ensures.items
          (IsMade-pushed _ _ _ _ (into_iter_items c.next.new.self) c.in_ok-item_unpacked.field-0 c.in-Some.item l.invariant.0 steps.0
          c.in_ok-item_unpacked.ensures),
      omega (arith, steps.1, ap length steps.0, l.invariant.1),
    )

pub items_unpacked-returns : goal.items_unpacked-returns
items_unpacked-returns t c =
    let l = c.loop-item in
    let none : length (into_iter_items l.item-iterator) ≡ 0 = omega (arith, l.invariant.1, c.in-None.ensures.steps.0) in
    IsMade-all _ _ _ _ l.invariant.0 none

pub unpack_tiers-returns : goal.unpack_tiers-returns
unpack_tiers-returns t c =
    let more : c.args.tiers ≡ suc (c.args.tiers - 1) = omega arith in
    layers_unpacked-made c.args.tiers (c.args.tiers - 1) c.args.cells _ _ _ more c.in_ok-unpack_below.ensures c.in_ok-unpack_layer.ensures
