use Rattle.undo_stack.specs.Stacks.{Holds, history}
use Rattle.document_lines.specs.Planning.{edit_change}
use Rattle.memory_editor.specs.Unions.{HasInner, TellsOn, open_document}
use Rattle.memory_editor.proofs.seen.open_seen.Given as goal

abbrev pub invariant-loop-inner : goal.invariant-loop-inner
invariant-loop-inner l = Holds edit_change l.stack → HasInner (history edit_change l.stack) l.level l.from
    → HasInner (history edit_change l.stack) l.inner l.first
    × TellsOn l.fn.seen.differences l.seen.differences (open_document (history edit_change l.stack) l.level l.from)
    (open_document (history edit_change l.stack) l.inner l.first)
