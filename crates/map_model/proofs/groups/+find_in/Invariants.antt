use Rattle.std.proofs.Common.{◌≡◌}
use Rattle.map_model.specs.Groups.{layer_among}
use Rattle.map_model.proofs.groups.+find_in.Given as goal

abbrev pub decreases-find_in : goal.decreases-find_in
decreases-find_in a = a.groups

abbrev pub invariant-loop-layer : goal.invariant-loop-layer
invariant-loop-layer l = layer_among l.id l.groups l.layer-iterator ≡ layer_among l.id l.groups l.fn.layers
