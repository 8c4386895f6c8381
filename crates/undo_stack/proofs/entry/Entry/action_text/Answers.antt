use Rattle.std.proofs.Common.{◌∙◌, ap}
use Rattle.undo_stack.specs.declared.entry.Entry.{Entry}
use Rattle.undo_stack.specs.declared.entry.MacroContents.{MacroContents}
use Rattle.undo_stack.proofs.EntryChanges.{entry_change-Command, entry_change-Macro}
use Rattle.undo_stack.proofs.entry.Entry.action_text.Goals as goal

pub returns-in-Command : goal.returns-in-Command
returns-in-Command g c = rw (c.in-Command.is, entry_change-Command g.C.Command.change c.in-Command.command) c.action_text.ensures

pub returns-in-Macro : goal.returns-in-Macro
returns-in-Macro g c =
    let told = c.as_str.ensures ∙ ap (λ (b : MacroContents (Entry g.row.C.Denot)). b.action) c.deref.ensures in
    rw (c.in-Macro.is, entry_change-Macro g.C.Command.change c.in-Macro.contents) told
