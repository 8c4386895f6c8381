use Rattle.undo_stack.specs.History.{document_at}
use Rattle.undo_stack.specs.Stacks.{Holds, history}
use Rattle.document_lines.specs.Planning.{edit_change}
use Rattle.memory_editor.specs.Unions.{TellsOn}
use Rattle.memory_editor.proofs.seen.steps_seen.Given as goal

abbrev pub invariant-loop-at : goal.invariant-loop-at
invariant-loop-at l = Holds edit_change l.stack
    → TellsOn l.fn.seen.differences l.seen.differences (document_at (history edit_change l.stack) l.from) (document_at (history edit_change l.stack) l.at)
