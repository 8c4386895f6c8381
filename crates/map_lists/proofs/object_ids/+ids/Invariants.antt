use Rattle.std.proofs.Common.{◌≡◌, ◌+◌, ◌*◌, ◌++◌}
use Rattle.std.specs.List.{flat_map}
use Rattle.map_model.specs.Groups.{drawn}
use Rattle.map_model.specs.Keeping.{layer_tier}
use Rattle.map_model.specs.WellFormed.{object_ids_of}
use Rattle.map_lists.proofs.object_ids.+ids.Given as goal

abbrev pub decreases-push_ids_in : goal.decreases-push_ids_in
decreases-push_ids_in a = 2 * a.groups + 1

abbrev pub decreases-push_ids_under : goal.decreases-push_ids_under
decreases-push_ids_under a = 2 * a.groups

abbrev pub invariant-push_ids_in-loop-layer : goal.invariant-push_ids_in-loop-layer
invariant-push_ids_in-loop-layer l =
    l.ids.items ++ flat_map object_ids_of (drawn l.groups layer_tier l.layer-iterator)
    ≡ l.initial.ids.items ++ flat_map object_ids_of (drawn l.groups layer_tier l.layers)
