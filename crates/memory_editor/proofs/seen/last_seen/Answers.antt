use Rattle.std.proofs.Common.{subst}
use Rattle.undo_stack.specs.Entries.{entry_change}
use Rattle.undo_stack.specs.History.{current}
use Rattle.undo_stack.specs.Sides.{before_last}
use Rattle.undo_stack.specs.Stacks.{history}
use Rattle.document_lines.specs.Differing.{DifferWithin}
use Rattle.document_lines.specs.Planning.{edit_change}
use Rattle.memory_editor.proofs.Unions.{none-within, tells-change}
use Rattle.memory_editor.proofs.seen.last_seen.Goals as goal

pub returns-in-Some : goal.returns-in-Some
returns-in-Some c = λ held.
    let h = history edit_change c.args.stack.now in
    let none : DifferWithin c.nothing.result.differences (before_last h) (before_last h) = rw c.nothing.ensures (none-within (before_last h)) in
    tells-change c.nothing.result.differences c.with_entry.result.differences (entry_change edit_change c.in-Some.entry.now) (before_last h) (current h)
    c.with_entry.ensures (c.in-Some.ensures.between held) (before_last h) none

pub returns-in-None : goal.returns-in-None
returns-in-None c = λ held.
    let h = history edit_change c.args.stack.now in
    rw c.nothing-in-None.ensures (subst (DifferWithin _ (before_last h)) (c.in-None.ensures.between held) (none-within (before_last h)))
