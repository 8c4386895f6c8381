use Rattle.std.proofs.Common.{◌≡◌, ℕ, ◌+◌, ◌<◌}
use Prim.Native.Nat.{◌^◌}
use Rattle.std.specs.List.{position, position_from, slice_get}
use Rattle.map_model.specs.Properties.{has_name}
use Rattle.map_model.proofs.properties.find_property.Given as goal

abbrev pub invariant-loop-at : goal.invariant-loop-at
invariant-loop-at l = record {
  next : (goal.iterator-loop-at).can_next l.property-iterator;
  finite : (goal.iterator-loop-at).is_finite l.property-iterator;
  fits : l.at + (goal.iterator-loop-at).remaining l.property-iterator < 2 ^ 64;
  place : position_from (has_name l.name) l.at l.property-iterator ≡ position (has_name l.name) l.properties;
  items : (k : ℕ) → slice_get l.property-iterator k ≡ slice_get l.properties (l.at + k);
}
