use Rattle.std.proofs.Common.{◌+◌, ◌*◌}
use Rattle.map_model.proofs.CanvasSteps.{AreLaid}
use Rattle.map_model.proofs.canvas.+exchange.Given as goal

abbrev pub decreases-exchange_layers : goal.decreases-exchange_layers
decreases-exchange_layers a = 3 * a.groups + 1

abbrev pub decreases-exchange_layer : goal.decreases-exchange_layer
decreases-exchange_layer a = 3 * a.groups

abbrev pub decreases-exchange_inside : goal.decreases-exchange_inside
decreases-exchange_inside a = 3 * a.groups + 2

abbrev pub invariant-exchange_layers-loop-at : goal.invariant-exchange_layers-loop-at
invariant-exchange_layers-loop-at l = AreLaid l.fn.groups l.fn.canvas l.fn.number l.fn.layers l.layers l.canvas l.at l.number
