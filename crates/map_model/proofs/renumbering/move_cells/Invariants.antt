use Rattle.std.proofs.Common.{◌≡◌}
use Rattle.map_model.specs.Renumbering.{value_moved}
use Rattle.map_model.proofs.RenumberedCells.{changed_up}
use Rattle.map_model.proofs.renumbering.move_cells.Given as goal

abbrev pub invariant-loop-at : goal.invariant-loop-at
invariant-loop-at l = l.cells ≡ changed_up (value_moved l.by.low l.by.end l.by.to) l.at l.fn.cells
