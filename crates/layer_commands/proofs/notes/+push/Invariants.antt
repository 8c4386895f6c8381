use Rattle.std.proofs.Common.{◌≡◌, ◌+◌, ◌*◌, ◌++◌}
use Rattle.std.specs.List.{flat_map}
use Rattle.map_model.specs.Groups.{drawn}
use Rattle.map_model.specs.Keeping.{layer_tier}
use Rattle.layer_commands.specs.Extending.{layer_notes}
use Rattle.layer_commands.proofs.notes.+push.Given as goal

abbrev pub decreases-push_layers : goal.decreases-push_layers
decreases-push_layers a = 2 * a.groups + 1

abbrev pub decreases-push_layer : goal.decreases-push_layer
decreases-push_layer a = 2 * a.groups

abbrev pub invariant-push_layers-loop-layer : goal.invariant-push_layers-loop-layer
invariant-push_layers-loop-layer l =
    l.notes.items ++ flat_map (layer_notes l.by) (drawn l.groups layer_tier l.layer-iterator)
    ≡ l.fn.notes.items ++ flat_map (layer_notes l.by) (drawn l.groups layer_tier l.fn.layers)
