use Rattle.std.proofs.Common.{map}
use Rattle.undo_stack.specs.Nestings.{nesting}
use Rattle.undo_stack.proofs.EntryChanges.{nesting-Macro}
use Rattle.undo_stack.proofs.Nestings.{is_nested-nested}
use Rattle.undo_stack.proofs.entry.Entry.is_macro.Goals as goal

pub returns-in-Macro : goal.returns-in-Macro
returns-in-Macro g c =
    let contents = c.in-Macro.field-0 in
    rw (c.in-Macro.is, nesting-Macro contents) (is_nested-nested (map nesting contents.value.children.items))
