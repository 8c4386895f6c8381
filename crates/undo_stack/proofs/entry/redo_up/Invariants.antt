use Rattle.std.proofs.Common.{◌-◌, ◌≡◌, ◌≤◌, length, map}
use Rattle.undo_stack.specs.Sequence.{IsMoved}
use Rattle.undo_stack.specs.Entries.{entry_change, depth}
use Rattle.undo_stack.specs.Nestings.{nesting}
use Rattle.undo_stack.proofs.entry.redo_up.Given as goal

abbrev pub invariant-loop-at : goal.invariant-loop-at
invariant-loop-at g l = record {
  moved : IsMoved (entry_change g.C.Command.change) l.fn.sequence l.fn.from l.fn.document l.sequence l.at l.document;
  below : l.at ≤ l.to;
  within : l.to ≤ length l.sequence;
  depth : map depth l.sequence ≡ map depth l.fn.sequence;
  nests : map nesting l.sequence ≡ map nesting l.fn.sequence;
}

abbrev pub decreases-loop-at : goal.decreases-loop-at
decreases-loop-at g l = l.to - l.at
