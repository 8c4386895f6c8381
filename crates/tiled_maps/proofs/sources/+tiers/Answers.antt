use Rattle.std.proofs.Common.{rules, ◌≡◌, suc, ◌-◌, length, ap, arith}
use Rattle.std.specs.Vec.Iter.{into_iter_items}
use Rattle.tiled_maps.proofs.SourceWalks.{IsMade-none, IsMade-pushed, IsMade-all, layers_like-made}
use Rattle.tiled_maps.proofs.sources.+tiers.Goals as goal

pub items_like-loop-item-init : goal.items_like-loop-item-init
items_like-loop-item-init t c = (IsMade-none _ _ _ _ (search rules) (search rules), search rules)

pub items_like-loop-item-preserved : goal.items_like-loop-item-preserved
items_like-loop-item-preserved t c =
    let l = c.loop-item in
    let steps = c.in-Some.ensures.steps in (
      rw c.in_ok-push.ensures.items
          (IsMade-pushed _ _ _ _ (into_iter_items c.next.new.self) c.in_ok-layer_as.field-0 c.in-Some.item l.invariant.0 steps.0 c.in_ok-layer_as.ensures),
      omega (arith, steps.1, ap length steps.0, l.invariant.1),
    )

pub items_like-returns : goal.items_like-returns
items_like-returns t c =
    let l = c.loop-item in
    let none : length (into_iter_items l.item-iterator) ≡ 0 = omega (arith, l.invariant.1, c.in-None.ensures.steps.0) in
    IsMade-all _ _ _ _ l.invariant.0 none

pub put_likeness-returns : goal.put_likeness-returns
put_likeness-returns t c =
    let more : c.args.tiers ≡ suc (c.args.tiers - 1) = omega arith in
    layers_like-made c.args.tiers (c.args.tiers - 1) _ _ _ _ _ _ _ more c.in_ok-put_layers.ensures c.in_ok-put_compression.ensures c.or_first.ensures
    c.in_ok-write_as.ensures
