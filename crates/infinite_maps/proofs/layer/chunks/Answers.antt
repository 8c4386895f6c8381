use Rattle.serde_json.specs.View.{view}
use Rattle.infinite_maps.specs.Layers.{chunk}
use Rattle.json_trees.proofs.Loops.{pushed}
use Rattle.infinite_maps.proofs.layer.chunks.Goals as goal

pub loop-rectangle-preserved : goal.loop-rectangle-preserved
loop-rectangle-preserved c =
    let l = c.loop-rectangle in
    let made = chunk c.args.plane c.args.text c.args.cells.now in
    let lt = c.loop-rectangle-test.true in
    rw c.in_ok-push.ensures.items
    (pushed view made l.all.items c.in_ok-chunk.field-0 c.args.rectangles.now l.rectangle-index _ l.invariant lt c.in_ok-chunk.ensures)
