use Rattle.std.proofs.Common.{◌≡◌, length}
use Rattle.smallvec.specs.SmallVec.{HasRoomFor}
use Rattle.document_lines.proofs.planning.edit_plans.collect.Given as goal

abbrev pub invariant-loop-value : goal.invariant-loop-value
invariant-loop-value l = record {
  items : l.collected.items ≡ l.yielded;
  room : HasRoomFor l.collected (length l.value-iterator);
}
