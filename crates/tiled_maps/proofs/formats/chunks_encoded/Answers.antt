use Rattle.std.proofs.Common.{rules, ◌≡◌, length, ap, arith}
use Rattle.std.specs.Vec.Iter.{into_iter_items}
use Rattle.tiled_maps.proofs.SourceWalks.{IsMade-none, IsMade-pushed, IsMade-all}
use Rattle.tiled_maps.proofs.formats.chunks_encoded.Goals as goal

pub loop-chunk-init : goal.loop-chunk-init
loop-chunk-init c = (IsMade-none _ _ _ _ (search rules) (search rules), search rules)

pub loop-chunk-preserved : goal.loop-chunk-preserved
loop-chunk-preserved c =
    let l = c.loop-chunk in
    let steps = c.in-Some.ensures.steps in (
      rw c.in_ok-push.ensures.items
          (IsMade-pushed _ _ _ _ (into_iter_items c.next.new.self) c.in_ok-chunk_encoded.field-0 c.in-Some.chunk l.invariant.0 steps.0
          c.in_ok-chunk_encoded.ensures),
      omega (arith, steps.1, ap length steps.0, l.invariant.1),
    )

pub returns : goal.returns
returns c =
    let l = c.loop-chunk in
    let none : length (into_iter_items l.chunk-iterator) ≡ 0 = omega (arith, l.invariant.1, c.in-None.ensures.steps.0) in
    IsMade-all _ _ _ _ l.invariant.0 none
