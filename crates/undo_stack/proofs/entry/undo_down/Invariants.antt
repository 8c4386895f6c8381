use Rattle.std.proofs.Common.{◌+◌, ◌≡◌, ◌≤◌, length, map}
use Rattle.undo_stack.specs.Sequence.{IsMoved}
use Rattle.undo_stack.specs.Entries.{entry_change, depth}
use Rattle.undo_stack.specs.Nestings.{nesting}
use Rattle.undo_stack.proofs.entry.undo_down.Given as goal

abbrev pub invariant-loop-left : goal.invariant-loop-left
invariant-loop-left g l = record {
  moved : IsMoved (entry_change g.C.Command.change) l.fn.sequence l.fn.from l.fn.document l.sequence (l.to + l.left) l.document;
  order : l.to + l.left ≤ l.from;
  within : l.to + l.left ≤ length l.sequence;
  depth : map depth l.sequence ≡ map depth l.fn.sequence;
  nests : map nesting l.sequence ≡ map nesting l.fn.sequence;
}

abbrev pub decreases-loop-left : goal.decreases-loop-left
decreases-loop-left g l = l.left
