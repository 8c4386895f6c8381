use Rattle.std.proofs.Common.{[], take}
use Rattle.undo_stack.specs.Entries.{entry_change}
use Rattle.undo_stack.specs.Sequence.{sequence_change}
use Rattle.document_lines.specs.Planning.{edit_change}
use Rattle.memory_editor.specs.OneMore.{TellsOneMore}
use Rattle.memory_editor.proofs.seen.Seen.+with_entry.Given as goal

abbrev pub invariant-loop-child : goal.invariant-loop-child
invariant-loop-child l = TellsOneMore l.fn.self.differences l.seen.differences
    (sequence_change [] [] (entry_change edit_change) (take l.child-index l.child-items))
