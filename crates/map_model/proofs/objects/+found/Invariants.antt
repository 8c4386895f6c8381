use Rattle.std.proofs.Common.{◌≡◌, ◌+◌, ◌*◌}
use Rattle.map_model.specs.Groups.{drawn}
use Rattle.map_model.specs.Keeping.{layer_tier}
use Rattle.map_model.specs.Lists.{first_some}
use Rattle.map_model.specs.Objects.{found_in_layer}
use Rattle.map_model.proofs.objects.+found.Given as goal

abbrev pub decreases-find_in_layers : goal.decreases-find_in_layers
decreases-find_in_layers a = 2 * a.groups + 1

abbrev pub decreases-find_under : goal.decreases-find_under
decreases-find_under a = 2 * a.groups

abbrev pub invariant-find_in_layers-loop-layer : goal.invariant-find_in_layers-loop-layer
invariant-find_in_layers-loop-layer l =
    first_some (found_in_layer l.id) (drawn l.groups layer_tier l.layer-iterator) ≡ first_some (found_in_layer l.id) (drawn l.groups layer_tier l.fn.layers)
