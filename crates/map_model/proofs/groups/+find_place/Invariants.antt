use Rattle.std.proofs.Common.{◌≡◌, ◌-◌}
use Rattle.map_model.specs.Layers.{place_inside}
use Rattle.map_model.specs.Lists.{first_some}
use Rattle.map_model.proofs.groups.+find_place.Given as goal

abbrev pub decreases-find_place : goal.decreases-find_place
decreases-find_place a = a.groups

abbrev pub invariant-loop-layer : goal.invariant-loop-layer
invariant-loop-layer l =
    first_some (place_inside l.id (l.groups - 1)) l.layer-iterator ≡ first_some (place_inside l.id (l.groups - 1)) l.fn.layers
