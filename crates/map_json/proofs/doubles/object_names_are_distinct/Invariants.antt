use Rattle.std.proofs.Common.{◌≡◌, ◌+◌, ◌<◌, map}
use Prim.Native.Nat.{◌^◌}
use Rattle.std.specs.List.{list_all}
use Rattle.map_model.specs.declared.parts.Object.{Object}
use Rattle.map_json.specs.Distinctness.{are_named_apart}
use Rattle.map_json.proofs.doubles.object_names_are_distinct.Given as goal

abbrev pub invariant-loop-at : goal.invariant-loop-at
invariant-loop-at g l = record {
  next : (goal.iterator-loop-at g).can_next l.object-iterator;
  finite : (goal.iterator-loop-at g).is_finite l.object-iterator;
  fits : l.at + (goal.iterator-loop-at g).remaining l.object-iterator < 2 ^ 64;
  same : list_all are_named_apart (map (λ (o : Object). o.properties) l.object-iterator)
      ≡ list_all are_named_apart (map (λ (o : Object). o.properties) l.fn.objects);
}
