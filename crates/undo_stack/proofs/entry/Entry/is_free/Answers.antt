use Rattle.std.proofs.Common.{refl}
use Rattle.undo_stack.proofs.EntryChanges.{entry_change-Command, entry_change-Macro}
use Rattle.undo_stack.proofs.entry.Entry.is_free.Goals as goal

pub returns-in-Command : goal.returns-in-Command
returns-in-Command g c = rw (c.in-Command.is, entry_change-Command g.C.Command.change c.in-Command.command) c.is_free.ensures

pub returns-in-Macro : goal.returns-in-Macro
returns-in-Macro g c = rw (c.in-Macro.is, entry_change-Macro g.C.Command.change c.in-Macro.field-0) refl
