use Rattle.std.proofs.Common.{refl, sym, ◌∙◌}
use Rattle.undo_stack.proofs.EntryChanges.{entry_change-Command, entry_change-Macro}
use Rattle.undo_stack.proofs.Turnings.{false-true, gone_at}
use Rattle.undo_stack.proofs.entry.Entry.is_gone.Goals as goal

pub returns-then-is_free-clause-answer : goal.returns-then-is_free-clause-answer
returns-then-is_free-clause-answer g c =
    let v = entry_change-Command g.C.Command.change c.in-Command.command in
    rw (c.in-Command.is, v, ← c.is_free.ensures, c.if-is_free.true) c.obsolete.ensures.answer

pub returns-else-is_free-clause-answer : goal.returns-else-is_free-clause-answer
returns-else-is_free-clause-answer g c =
    let v = entry_change-Command g.C.Command.change c.in-Command.command in
    rw (c.in-Command.is, v, ← c.is_free.ensures, c.if-is_free.false) refl

pub returns-in-Macro-clause-answer : goal.returns-in-Macro-clause-answer
returns-in-Macro-clause-answer g c = rw (c.in-Macro.is, entry_change-Macro g.C.Command.change c.in-Macro.field-0) refl

pub returns-then-is_free-clause-gone : goal.returns-then-is_free-clause-gone
returns-then-is_free-clause-gone g c =
    let v = g.C.Command.change c.in-Command.command in
    let free = sym c.is_free.ensures ∙ c.if-is_free.true in
    let e = c.obsolete.ensures in
    rw (c.in-Command.is, entry_change-Command g.C.Command.change c.in-Command.command) (λ gone. gone_at v free (sym e.answer ∙ gone) e.law)

pub returns-then-is_free-clause-live : goal.returns-then-is_free-clause-live
returns-then-is_free-clause-live g c =
    rw (c.in-Command.is, entry_change-Command g.C.Command.change c.in-Command.command) (λ live free. sym c.obsolete.ensures.answer ∙ live)

pub returns-else-is_free-clause-live : goal.returns-else-is_free-clause-live
returns-else-is_free-clause-live g c =
    let bound = sym c.if-is_free.false ∙ c.is_free.ensures in
    rw (c.in-Command.is, entry_change-Command g.C.Command.change c.in-Command.command) (λ live free. false-true (bound ∙ free))

pub returns-in-Macro-clause-live : goal.returns-in-Macro-clause-live
returns-in-Macro-clause-live g c =
    rw (c.in-Macro.is, entry_change-Macro g.C.Command.change c.in-Macro.field-0) (λ live free. false-true free)
