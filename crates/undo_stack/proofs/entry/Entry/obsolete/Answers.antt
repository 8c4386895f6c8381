use Rattle.std.proofs.Common.{refl}
use Rattle.undo_stack.proofs.EntryChanges.{entry_change-Command, entry_change-Macro}
use Rattle.undo_stack.proofs.entry.Entry.obsolete.Goals as goal

pub returns-in-Command-clause-answer : goal.returns-in-Command-clause-answer
returns-in-Command-clause-answer g c = rw (c.in-Command.is, entry_change-Command g.C.Command.change c.in-Command.command) c.obsolete.ensures.answer

pub returns-in-Command-clause-law : goal.returns-in-Command-clause-law
returns-in-Command-clause-law g c = rw (c.in-Command.is, entry_change-Command g.C.Command.change c.in-Command.command) c.obsolete.ensures.law

pub returns-in-Macro-clause-answer : goal.returns-in-Macro-clause-answer
returns-in-Macro-clause-answer g c = rw (c.in-Macro.is, entry_change-Macro g.C.Command.change c.in-Macro.field-0) refl

pub returns-in-Macro-clause-law : goal.returns-in-Macro-clause-law
returns-in-Macro-clause-law g c = rw (c.in-Macro.is, entry_change-Macro g.C.Command.change c.in-Macro.field-0) record { redo = λ d h. refl; undo = λ d h. refl }
