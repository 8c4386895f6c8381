use Rattle.std.proofs.Common.{rules, ◌<◌, length, refl, ◌∙◌, ap, arith, length-set, get_or-set_other, slice_index_or}
use Rattle.std.proofs.lemmas.List.{get_or_default}
use Rattle.undo_stack.specs.Entries.{entry_change, depth}
use Rattle.undo_stack.specs.Nestings.{nesting}
use Rattle.undo_stack.specs.Sequence.{after}
use Rattle.undo_stack.proofs.EntryChanges.{Contents, entry_change-Command, entry_change-Macro, depth-Command, depth-Macro, nesting-Command, nesting-Macro}
use Rattle.undo_stack.proofs.Sequences.{map-set_same}
use Rattle.undo_stack.proofs.Turns.{redone_named, between_on}
use Rattle.undo_stack.specs.declared.entry.Entry.TheVariants.{outs-Command, outs-Macro}
use Rattle.undo_stack.specs.declared.entry.Entry.{size_is-Entry}
use Rattle.undo_stack.proofs.entry.+redo.Goals as goal

pub Entry::redo-redo-requires : goal.Entry::redo-redo-requires
Entry::redo-redo-requires g t c =
    let known = rw (c.in-Command.is, entry_change-Command g.C.Command.change c.in-Command.command) at c.requires in
    rw c.in-Command.command-is known

pub Entry::redo-returns-in-Command-clause-turned : goal.Entry::redo-returns-in-Command-clause-turned
Entry::redo-returns-in-Command-clause-turned g t c =
    let f = g.C.Command.change in
    let old = c.in-Command.command in
    let known = rw (c.in-Command.is, outs-Command old) at c.redo.ensures in
    rw (c.in-Command.is, outs-Command old, entry_change-Command f old, entry_change-Command f c.redo.new.self) known

pub Entry::redo-returns-in-Command-clause-depth : goal.Entry::redo-returns-in-Command-clause-depth
Entry::redo-returns-in-Command-clause-depth g t c =
    rw (c.in-Command.is, outs-Command c.in-Command.command, depth-Command c.in-Command.command, depth-Command c.redo.new.self) refl

pub Entry::redo-returns-in-Command-clause-nests : goal.Entry::redo-returns-in-Command-clause-nests
Entry::redo-returns-in-Command-clause-nests g t c =
    rw (c.in-Command.is, outs-Command c.in-Command.command, nesting-Command c.in-Command.command, nesting-Command c.redo.new.self) refl

pub Entry::redo-redo_all-requires : goal.Entry::redo-redo_all-requires
Entry::redo-redo_all-requires g t c κs within =
    let known = rw (c.in-Macro.is, entry_change-Macro g.C.Command.change c.in-Macro.contents) at c.requires in
    let whole = size_is-Entry g.row.C.Denot c.args.self.now in
    let size = rw (c.in-Macro.is, outs-Macro c.in-Macro.contents) at whole in
    let measure = rw c.in-Macro.is at c.decreases in
    let same = c.deref_mut.ensures.value ∙ ap (λ (b : Contents g.row.C.Denot). b.value) c.in-Macro.contents-is in
    rw same (omega (arith, size), (search rules, known))

pub Entry::redo-returns-in-Macro-clause-turned : goal.Entry::redo-returns-in-Macro-clause-turned
Entry::redo-returns-in-Macro-clause-turned g t c =
    let f = g.C.Command.change in
    let contents = c.in-Macro.contents in
    let same = c.deref_mut.ensures.value ∙ ap (λ (b : Contents g.row.C.Denot). b.value) c.in-Macro.contents-is in
    let new : Contents g.row.C.Denot = record {
      ptr = contents.ptr;
      alloc = contents.alloc;
      value = record contents.value { children = c.redo_all.new.children };
    } in
    let known = rw same at c.redo_all.ensures.turned in
    let v = contents.value in
    let turned = redone_named (entry_change f) v.text v.action v.children.items new.value.children.items c.args.document.now c.redo_all.new.document known in
    rw (c.in-Macro.is, outs-Macro contents, same, entry_change-Macro f contents, entry_change-Macro f new) turned

pub Entry::redo-returns-in-Macro-clause-depth : goal.Entry::redo-returns-in-Macro-clause-depth
Entry::redo-returns-in-Macro-clause-depth g t c =
    let contents = c.in-Macro.contents in
    let same = c.deref_mut.ensures.value ∙ ap (λ (b : Contents g.row.C.Denot). b.value) c.in-Macro.contents-is in
    let new : Contents g.row.C.Denot = record {
      ptr = contents.ptr;
      alloc = contents.alloc;
      value = record contents.value { children = c.redo_all.new.children };
    } in
    let known = rw same at c.redo_all.ensures.depth in
    rw (c.in-Macro.is, outs-Macro contents, same, depth-Macro contents, depth-Macro new, known) refl

pub Entry::redo-returns-in-Macro-clause-nests : goal.Entry::redo-returns-in-Macro-clause-nests
Entry::redo-returns-in-Macro-clause-nests g t c =
    let contents = c.in-Macro.contents in
    let same = c.deref_mut.ensures.value ∙ ap (λ (b : Contents g.row.C.Denot). b.value) c.in-Macro.contents-is in
    let new : Contents g.row.C.Denot = record {
      ptr = contents.ptr;
      alloc = contents.alloc;
      value = record contents.value { children = c.redo_all.new.children };
    } in
    let known = rw same at c.redo_all.ensures.nests in
    rw (c.in-Macro.is, outs-Macro contents, same, nesting-Macro contents, nesting-Macro new, known) refl

pub redo_all-loop-i-preserved : goal.redo_all-loop-i-preserved
redo_all-loop-i-preserved g t c =
    let f = entry_change g.C.Command.change in
    let es = c.loop-i.entries in
    let i = c.loop-i.i in
    let at : i < length es = omega arith in
    let v = slice_index_or es i c.index-entries-i.result in
    let is = get_or_default es i _ v at in
    let w = c.redo.new.self in
    let known = c.loop-i.invariant in
    let first = c.args.document.now in
    let last = after f c.as_mut_slice-entries.result.now first in (
      (length-set es i w ∙ known.0.0, λ k d h. get_or-set_other es i k w d (omega arith) ∙ known.0.1 k d (omega arith)),
      between_on f es v w i c.loop-i.document c.redo.new.document first last known.1 at is c.redo.ensures.turned,
      map-set_same depth es v w i is c.redo.ensures.depth ∙ known.2,
      map-set_same nesting es v w i is c.redo.ensures.nests ∙ known.3,
    )
