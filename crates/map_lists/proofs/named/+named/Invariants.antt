use Rattle.std.proofs.Common.{◌≡◌, ◌+◌, ◌*◌}
use Rattle.map_model.specs.Groups.{drawn}
use Rattle.map_model.specs.Keeping.{layer_tier}
use Rattle.map_model.specs.Lists.{first_some}
use Rattle.map_lists.specs.Named.{id_in_layer}
use Rattle.map_lists.proofs.named.+named.Given as goal

abbrev pub decreases-id_in_layers : goal.decreases-id_in_layers
decreases-id_in_layers a = 2 * a.groups + 1

abbrev pub decreases-id_under : goal.decreases-id_under
decreases-id_under a = 2 * a.groups

abbrev pub invariant-id_in_layers-loop-layer : goal.invariant-id_in_layers-loop-layer
invariant-id_in_layers-loop-layer l =
    first_some (id_in_layer l.subject l.name) (drawn l.groups layer_tier l.layer-iterator)
    ≡ first_some (id_in_layer l.subject l.name) (drawn l.groups layer_tier l.fn.layers)
