use Rattle.std.proofs.Common.{[], List, take, sym, ap, subst, ◌∙◌}
use Rattle.undo_stack.specs.declared.entry.Entry.{Entry}
use Rattle.undo_stack.specs.declared.entry.MacroContents.{MacroContents}
use Rattle.undo_stack.specs.Entries.{entry_change}
use Rattle.undo_stack.specs.Sequence.{sequence_change}
use Rattle.undo_stack.proofs.EntryChanges.{entry_change-Command}
use Rattle.undo_stack.proofs.Sequences.{take_last}
use Rattle.document_lines.specs.declared.planned.Edit.{Edit}
use Rattle.document_lines.specs.Planning.{edit_change}
use Rattle.memory_editor.specs.OneMore.{TellsOneMore}
use Rattle.memory_editor.proofs.OneMore.{entry-more, macro-more, take-whole}
use Rattle.memory_editor.proofs.seen.Seen.+with_entry.Goals as goal

pub returns-in-Command : goal.returns-in-Command
returns-in-Command t c = rw (c.in-Command.is, entry_change-Command edit_change c.in-Command.edit) c.with_edit.ensures

pub loop-child-preserved : goal.loop-child-preserved
loop-child-preserved t c =
    let was = c.args.self.differences in
    let told = c.with_entry-seen.result.differences in
    let items = c.deref-child-items.result.now in
    let child = c.child-item.result in
    let at = c.loop-child.child-index in
    let P : List (Entry Edit) → Type 0 = λ xs. TellsOneMore was told (sequence_change [] [] (entry_change edit_change) xs) in
    subst P (sym (take_last items child at c.loop-child-test.true c.child-item.is))
    (entry-more (entry_change edit_change) (take at items) child was c.loop-child.seen.differences told c.loop-child.invariant c.with_entry-seen.ensures)

pub returns-after-loop-child : goal.returns-after-loop-child
returns-after-loop-child t c =
    let was = c.args.self.differences in
    let told = c.loop-child.seen.differences in
    let items = c.deref-child-items.result.now in
    let P : List (Entry Edit) → Type 0 = λ xs. TellsOneMore was told (sequence_change [] [] (entry_change edit_change) xs) in
    let same = c.deref-child-items.ensures.value ∙ ap (λ (contents : MacroContents (Entry Edit)). contents.children.items) c.deref.ensures in
    rw c.in-Macro.is (macro-more edit_change c.in-Macro.contents was told
    (subst P (take-whole items c.loop-child.child-index c.loop-child-test.false ∙ same) c.loop-child.invariant))
