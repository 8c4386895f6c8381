use Rattle.std.proofs.Common.{◌≤◌}
use Rattle.map_model.specs.CellEdits.{AreInRowOrder}
use Rattle.edits.proofs.in_place.count_new.Given as goal

abbrev pub invariant-loop-cell : goal.invariant-loop-cell
invariant-loop-cell l = AreInRowOrder l.rest × (l.count ≤ l.cell-index)
