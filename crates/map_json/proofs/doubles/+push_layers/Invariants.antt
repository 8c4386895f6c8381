use Rattle.std.proofs.Common.{◌≡◌, ◌++◌}
use Rattle.std.specs.List.{flat_map}
use Rattle.map_model.specs.Groups.{drawn}
use Rattle.map_model.specs.Keeping.{layer_tier}
use Rattle.map_model.specs.WellFormed.{ids_of, object_ids_of}
use Rattle.map_json.proofs.doubles.+push_layers.Given as goal

abbrev pub invariant-loop-layer : goal.invariant-loop-layer
invariant-loop-layer l =
    (l.ids.layers.items ++ flat_map ids_of (drawn l.groups layer_tier l.layer-iterator) ≡ l.initial.ids.layers.items
    ++ flat_map ids_of (drawn l.groups layer_tier l.layers))
    × (l.ids.objects.items ++ flat_map object_ids_of (drawn l.groups layer_tier l.layer-iterator) ≡ l.initial.ids.objects.items
    ++ flat_map object_ids_of (drawn l.groups layer_tier l.layers))
