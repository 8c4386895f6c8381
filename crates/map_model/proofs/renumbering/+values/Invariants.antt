use Rattle.std.proofs.Common.{◌≡◌, ◌+◌, ◌*◌}
use Rattle.map_model.specs.Renumbering.{one_with_values, value_moved}
use Rattle.map_model.proofs.RenumberedCells.{changed_up}
use Rattle.map_model.proofs.renumbering.+values.Given as goal

abbrev pub decreases-move_layers : goal.decreases-move_layers
decreases-move_layers a = 3 * a.groups + 1

abbrev pub decreases-move_layer : goal.decreases-move_layer
decreases-move_layer a = 3 * a.groups

abbrev pub decreases-move_inside : goal.decreases-move_inside
decreases-move_inside a = 3 * a.groups + 2

abbrev pub invariant-move_layers-loop-at : goal.invariant-move_layers-loop-at
invariant-move_layers-loop-at l = l.layers ≡ changed_up (one_with_values l.fn.groups (value_moved l.by.low l.by.end l.by.to)) l.at l.fn.layers
