use Rattle.std.proofs.Common.{◌≡◌, ◌+◌, ◌<◌}
use Prim.Native.Nat.{◌^◌}
use Rattle.std.specs.List.{list_all, flat_map}
use Rattle.map_model.specs.Groups.{drawn}
use Rattle.map_model.specs.Keeping.{layer_tier}
use Rattle.map_json.specs.Distinctness.{are_named_apart, lists_of_drawn}
use Rattle.map_json.proofs.doubles.+layer_names_are_distinct.Given as goal

abbrev pub decreases-layer_names_are_distinct : goal.decreases-layer_names_are_distinct
decreases-layer_names_are_distinct g l = l.groups

abbrev pub invariant-loop-at : goal.invariant-loop-at
invariant-loop-at g l = record {
  next : (goal.iterator-loop-at g).can_next l.layer-iterator;
  finite : (goal.iterator-loop-at g).is_finite l.layer-iterator;
  fits : l.at + (goal.iterator-loop-at g).remaining l.layer-iterator < 2 ^ 64;
  same : list_all are_named_apart (flat_map lists_of_drawn (drawn l.groups layer_tier l.layer-iterator))
      ≡ list_all are_named_apart (flat_map lists_of_drawn (drawn l.groups layer_tier l.fn.layers));
}
