use Rattle.std.proofs.Common.{◌-◌, ◌≤◌, length}
use Rattle.memory_editor.proofs.ManyLinesDone.{SoFar}
use Rattle.memory_editor.proofs.memory_editor.MemoryEditor.run_lines.Given as goal

abbrev pub invariant-lines : goal.invariant-lines
invariant-lines l = record {
  so_far : SoFar l.stops l.bytes l.fn.replies l.fn.self l.done l.self l.replies;
  within : l.done.bytes ≤ length l.bytes;
  counted : l.done.lines ≤ l.done.bytes;
  room : l.done.replies ≤ length l.replies;
}

abbrev pub decreases-lines : goal.decreases-lines
decreases-lines l = length l.bytes - l.done.bytes
