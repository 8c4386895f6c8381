use Rattle.std.proofs.Common.{subst}
use Rattle.std.specs.Prelude.{slice_get}
use Rattle.undo_stack.specs.Entries.{entry_change}
use Rattle.undo_stack.specs.History.{current}
use Rattle.undo_stack.specs.Stacks.{history}
use Rattle.document_lines.specs.Differing.{DifferWithin}
use Rattle.document_lines.specs.Planning.{edit_change}
use Rattle.memory_editor.proofs.Unions.{open-past, tells-inner}
use Rattle.memory_editor.proofs.seen.entry_seen.Goals as goal

pub returns-in-Some : goal.returns-in-Some
returns-in-Some c = λ held.
    let h = history edit_change c.args.stack.now in
    tells-inner c.args.seen.differences c.with_entry.result.differences (entry_change edit_change c.in-Some.entry.now) (current h)
    (slice_get h.levels c.args.level) c.args.at c.with_entry.ensures (c.in-Some.ensures.between held)

pub returns-in-None : goal.returns-in-None
returns-in-None c = λ held d within.
    subst (DifferWithin c.args.seen.differences d) (open-past edit_change c.args.stack.now c.args.level c.args.at c.in-None.ensures.nests) within
