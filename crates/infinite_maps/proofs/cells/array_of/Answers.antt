use Rattle.serde_json.specs.Data.{number, unsigned}
use Rattle.serde_json.specs.View.{view}
use Rattle.json_trees.proofs.Loops.{pushed}
use Rattle.infinite_maps.proofs.cells.array_of.Goals as goal

pub loop-cell-preserved : goal.loop-cell-preserved
loop-cell-preserved c =
    let l = c.loop-cell in
    rw c.in_ok-push.ensures.items
    (pushed view (λ n. number (unsigned n)) l.values.items c.from.result c.args.cells.now l.cell-index 0 l.invariant c.loop-cell-test.true c.from.ensures)
