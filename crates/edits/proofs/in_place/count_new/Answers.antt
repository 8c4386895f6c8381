use Rattle.std.proofs.Common.{arith}
use Rattle.map_model.proofs.SideBySide.{in_row_order-drop}
use Rattle.edits.proofs.in_place.count_new.Goals as goal
use Rattle.edits.proofs.in_place.count_new.Goals.{then-is_empty, else-is_empty+else-not-is_same_cell}

pub loop-cell-preserved : goal.loop-cell-preserved
loop-cell-preserved c =
    let rest = in_row_order-drop c.number_of.result c.loop-cell.rest.now c.loop-cell.invariant.0 in
    elim c.if-is_empty.branch [
      | then-is_empty w ↦ rw (w.rest-is, w.count-is, c.split_at.ensures.back) (rest, omega (arith, c.loop-cell.invariant.1))
      | else-is_empty+else-not-is_same_cell w ↦ rw (w.rest-is, w.count-is, c.split_at.ensures.back) (rest, omega (arith, c.loop-cell.invariant.1))
    ]
