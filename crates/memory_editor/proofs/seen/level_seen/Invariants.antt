use Rattle.undo_stack.specs.Stacks.{Holds, history}
use Rattle.document_lines.specs.Planning.{edit_change}
use Rattle.memory_editor.specs.Unions.{TellsOn, open_document}
use Rattle.memory_editor.proofs.seen.level_seen.Given as goal

abbrev pub invariant-loop-at : goal.invariant-loop-at
invariant-loop-at l = Holds edit_change l.stack
    → TellsOn l.fn.seen.differences l.seen.differences (open_document (history edit_change l.stack) l.level l.from)
    (open_document (history edit_change l.stack) l.level l.at)
