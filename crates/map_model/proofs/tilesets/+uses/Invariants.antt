use Rattle.std.proofs.Common.{◌≡◌, ◌+◌, ◌*◌}
use Rattle.std.specs.List.{list_any}
use Rattle.map_model.specs.Groups.{drawn}
use Rattle.map_model.specs.Keeping.{layer_tier}
use Rattle.map_model.specs.Tilesets.{values_of}
use Rattle.map_model.specs.Uses.{is_between}
use Rattle.map_model.proofs.tilesets.+uses.Given as goal

abbrev pub decreases-is_in_layers : goal.decreases-is_in_layers
decreases-is_in_layers a = 2 * a.groups + 1

abbrev pub decreases-is_in_layer : goal.decreases-is_in_layer
decreases-is_in_layer a = 2 * a.groups

abbrev pub invariant-is_in_layers-loop-layer : goal.invariant-is_in_layers-loop-layer
invariant-is_in_layers-loop-layer l =
    list_any (λ d. list_any (is_between l.low l.end) (values_of d)) (drawn l.groups layer_tier l.layer-iterator)
    ≡ list_any (λ d. list_any (is_between l.low l.end) (values_of d)) (drawn l.groups layer_tier l.fn.layers)
