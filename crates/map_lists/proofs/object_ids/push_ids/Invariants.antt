use Rattle.std.proofs.Common.{◌≡◌, ◌++◌}
use Rattle.std.specs.List.{flat_map}
use Rattle.map_model.specs.WellFormed.{ids_of_object}
use Rattle.map_lists.proofs.object_ids.push_ids.Given as goal

abbrev pub invariant-loop-object : goal.invariant-loop-object
invariant-loop-object l = l.ids.items ++ flat_map ids_of_object l.object-iterator ≡ l.initial.ids.items ++ flat_map ids_of_object l.objects
