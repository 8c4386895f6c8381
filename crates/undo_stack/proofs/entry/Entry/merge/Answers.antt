use Rattle.undo_stack.specs.declared.entry.Entry.TheVariants.{outs-Command}
use Rattle.undo_stack.proofs.EntryChanges.{entry_change-Command, entry_change-Macro}
use Rattle.undo_stack.proofs.Joins.{same_change}
use Rattle.undo_stack.proofs.entry.Entry.merge.Goals as goal

pub merge_commands-requires-clause-older : goal.merge_commands-requires-clause-older
merge_commands-requires-clause-older g c =
    let known = rw (c.in-Command.is, entry_change-Command g.C.Command.change c.in-Command.older) at c.requires.older in
    rw c.in-Command.older-is known

pub returns-in-Command-clause-merged : goal.returns-in-Command-clause-merged
returns-in-Command-clause-merged g c =
    let f = g.C.Command.change in
    let older = c.in-Command.older in
    let known = rw (c.in-Command.is, outs-Command older) at c.merge_commands.ensures in
    rw (c.in-Command.is, outs-Command older, entry_change-Command f older, entry_change-Command f c.merge_commands.new.older) known

pub returns-in-Macro-clause-merged : goal.returns-in-Macro-clause-merged
returns-in-Macro-clause-merged g c =
    rw (c.in-Macro.is, entry_change-Macro g.C.Command.change c.in-Macro.field-0) ((λ j. absurd (j.2 j.1)), same_change _)
