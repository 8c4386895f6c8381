use Rattle.std.proofs.Common.{◌-◌, ◌≡◌, ◌≤◌, length, map}
use Rattle.undo_stack.specs.Sequence.{IsMoved}
use Rattle.undo_stack.specs.Entries.{entry_change, depth}
use Rattle.undo_stack.specs.Nestings.{nesting}
use Rattle.undo_stack.proofs.entry.undo_each.Given as goal

abbrev pub invariant-loop-at : goal.invariant-loop-at
invariant-loop-at g l = record {
  moved : IsMoved (entry_change g.C.Command.change) l.fn.entries.items l.fn.from l.fn.document l.entries.items l.at l.document;
  above : l.to ≤ l.at;
  within : l.at ≤ length l.entries.items;
  depth : map depth l.entries.items ≡ map depth l.fn.entries.items;
  nests : map nesting l.entries.items ≡ map nesting l.fn.entries.items;
}

abbrev pub decreases-loop-at : goal.decreases-loop-at
decreases-loop-at g l = l.at - l.to
