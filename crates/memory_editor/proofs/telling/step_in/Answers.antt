use Rattle.undo_stack.specs.Stacks.{history}
use Rattle.document_lines.specs.Planning.{edit_change}
use Rattle.memory_editor.proofs.Unions.{text-within}
use Rattle.memory_editor.proofs.telling.step_in.Goals as goal

pub seen_at-is_macro-requires-clause-there : goal.seen_at-is_macro-requires-clause-there
seen_at-is_macro-requires-clause-there c = text-within (history edit_change c.args.stack.now) c.args.at c.in-Some.text.now c.in-Some.ensures
