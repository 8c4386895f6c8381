use Rattle.std.proofs.Common.{◌≡◌}
use Rattle.serde_json.specs.View.{items_view}
use Rattle.map_values.specs.Arrays.{items_by}
use Rattle.map_json.specs.Trees.{object_tree}
use Rattle.map_json.proofs.Pushes.{joined}
use Rattle.map_json.proofs.writing.array_of_objects.Given as goal

abbrev pub invariant-loop-object : goal.invariant-loop-object
invariant-loop-object l = joined (items_view l.values.items) (items_by object_tree l.object-iterator) ≡ items_by object_tree l.objects
