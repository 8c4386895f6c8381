use Rattle.std.proofs.Common.{◌≡◌, ◌+◌, ◌<◌, [], drop}
use Prim.Native.Nat.{◌^◌}
use Rattle.std.specs.List.{position, position_from}
use Rattle.map_model.specs.Groups.{holds}
use Rattle.map_model.proofs.groups.+find_way.Given as goal

abbrev pub decreases-find_way : goal.decreases-find_way
decreases-find_way a = a.groups

abbrev pub invariant-loop-at : goal.invariant-loop-at
invariant-loop-at l = record {
  next : (goal.iterator-loop-at).can_next l.layer-iterator;
  finite : (goal.iterator-loop-at).is_finite l.layer-iterator;
  fits : l.at + (goal.iterator-loop-at).remaining l.layer-iterator < 2 ^ 64;
  place : position_from (holds l.id l.groups) l.at l.layer-iterator ≡ position (holds l.id l.groups) l.fn.layers;
  left : l.layer-iterator ≡ drop l.at l.fn.layers;
  empty : l.way.items ≡ [];
}
