use Rattle.std.proofs.Common.{◌+◌, ◌<◌}
use Prim.Native.Nat.{◌^◌}
use Rattle.map_json.proofs.doubles.+enter_id.Given as goal

abbrev pub decreases-enter_id : goal.decreases-enter_id
decreases-enter_id g l = l.groups

abbrev pub invariant-loop-at : goal.invariant-loop-at
invariant-loop-at g l = record {
  next : (goal.iterator-loop-at g).can_next l.layer-iterator;
  finite : (goal.iterator-loop-at g).is_finite l.layer-iterator;
  fits : l.at + (goal.iterator-loop-at g).remaining l.layer-iterator < 2 ^ 64;
}
