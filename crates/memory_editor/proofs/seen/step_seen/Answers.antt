use Rattle.std.proofs.Common.{◌+◌, subst}
use Rattle.undo_stack.specs.Entries.{entry_change}
use Rattle.undo_stack.specs.History.{document_at}
use Rattle.undo_stack.specs.Stacks.{history}
use Rattle.document_lines.specs.Differing.{DifferWithin}
use Rattle.document_lines.specs.Planning.{edit_change}
use Rattle.memory_editor.proofs.Unions.{same-past, tells-change}
use Rattle.memory_editor.proofs.seen.step_seen.Goals as goal

pub returns-in-Some : goal.returns-in-Some
returns-in-Some c = λ held.
    let h = history edit_change c.args.stack.now in
    let at = c.args.at in
    tells-change c.args.seen.differences c.with_entry.result.differences (entry_change edit_change c.in-Some.entry.now) (document_at h at) (document_at h (at + 1))
    c.with_entry.ensures (c.in-Some.ensures.between held)

pub returns-in-None : goal.returns-in-None
returns-in-None c = λ held d within.
    subst (DifferWithin c.args.seen.differences d) (same-past edit_change c.args.stack.now c.args.at c.in-None.ensures.nests) within
