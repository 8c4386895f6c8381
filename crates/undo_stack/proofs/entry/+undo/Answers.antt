use Rattle.std.proofs.Common.{rules, ◌≡◌, ℕ, ◌+◌, ◌-◌, ◌<◌, length, refl, ◌∙◌, ap, subst, get_or, arith, length-set, get_or-set_other, slice_index_or}
use Rattle.std.proofs.lemmas.List.{get_or_default}
use Rattle.undo_stack.specs.Entries.{entry_change, depth}
use Rattle.undo_stack.specs.Nestings.{nesting}
use Rattle.undo_stack.specs.Sequence.{Between, before}
use Rattle.undo_stack.proofs.EntryChanges.{Contents, entry_change-Command, entry_change-Macro, depth-Command, depth-Macro, nesting-Command, nesting-Macro}
use Rattle.undo_stack.proofs.Sequences.{map-set_same}
use Rattle.undo_stack.proofs.Turns.{undone_named, between_back, between_last}
use Rattle.undo_stack.specs.declared.entry.Entry.TheVariants.{outs-Command, outs-Macro}
use Rattle.undo_stack.specs.declared.entry.Entry.{size_is-Entry, size-Entry}
use denote.Param.Weighed.{at_most, most as greatest}
use Rattle.undo_stack.proofs.entry.+undo.Goals as goal

pub Entry::undo-undo-requires : goal.Entry::undo-undo-requires
Entry::undo-undo-requires g t c =
    let known = rw (c.in-Command.is, entry_change-Command g.C.Command.change c.in-Command.command) at c.requires in
    rw c.in-Command.command-is known

pub Entry::undo-returns-in-Command-clause-turned : goal.Entry::undo-returns-in-Command-clause-turned
Entry::undo-returns-in-Command-clause-turned g t c =
    let f = g.C.Command.change in
    let old = c.in-Command.command in
    let known = rw (c.in-Command.is, outs-Command old) at c.undo.ensures in
    rw (c.in-Command.is, outs-Command old, entry_change-Command f old, entry_change-Command f c.undo.new.self) known

pub Entry::undo-returns-in-Command-clause-depth : goal.Entry::undo-returns-in-Command-clause-depth
Entry::undo-returns-in-Command-clause-depth g t c =
    rw (c.in-Command.is, outs-Command c.in-Command.command, depth-Command c.in-Command.command, depth-Command c.undo.new.self) refl

pub Entry::undo-returns-in-Command-clause-nests : goal.Entry::undo-returns-in-Command-clause-nests
Entry::undo-returns-in-Command-clause-nests g t c =
    rw (c.in-Command.is, outs-Command c.in-Command.command, nesting-Command c.in-Command.command, nesting-Command c.undo.new.self) refl

pub Entry::undo-undo_all-requires : goal.Entry::undo-undo_all-requires
Entry::undo-undo_all-requires g t c κs within =
    let known = rw (c.in-Macro.is, entry_change-Macro g.C.Command.change c.in-Macro.contents) at c.requires in
    let whole = size_is-Entry g.row.C.Denot c.args.self.now in
    let size = rw (c.in-Macro.is, outs-Macro c.in-Macro.contents) at whole in
    let measure = rw c.in-Macro.is at c.decreases in
    let same = c.deref_mut.ensures.value ∙ ap (λ (b : Contents g.row.C.Denot). b.value) c.in-Macro.contents-is in
    rw same (omega (arith, size), (search rules, known))

pub Entry::undo-returns-in-Macro-clause-turned : goal.Entry::undo-returns-in-Macro-clause-turned
Entry::undo-returns-in-Macro-clause-turned g t c =
    let f = g.C.Command.change in
    let contents = c.in-Macro.contents in
    let same = c.deref_mut.ensures.value ∙ ap (λ (b : Contents g.row.C.Denot). b.value) c.in-Macro.contents-is in
    let new : Contents g.row.C.Denot = record {
      ptr = contents.ptr;
      alloc = contents.alloc;
      value = record contents.value { children = c.undo_all.new.children };
    } in
    let known = rw same at c.undo_all.ensures.turned in
    let v = contents.value in
    let turned = undone_named (entry_change f) v.text v.action v.children.items new.value.children.items c.args.document.now c.undo_all.new.document known in
    rw (c.in-Macro.is, outs-Macro contents, same, entry_change-Macro f contents, entry_change-Macro f new) turned

pub Entry::undo-returns-in-Macro-clause-depth : goal.Entry::undo-returns-in-Macro-clause-depth
Entry::undo-returns-in-Macro-clause-depth g t c =
    let contents = c.in-Macro.contents in
    let same = c.deref_mut.ensures.value ∙ ap (λ (b : Contents g.row.C.Denot). b.value) c.in-Macro.contents-is in
    let new : Contents g.row.C.Denot = record {
      ptr = contents.ptr;
      alloc = contents.alloc;
      value = record contents.value { children = c.undo_all.new.children };
    } in
    let known = rw same at c.undo_all.ensures.depth in
    rw (c.in-Macro.is, outs-Macro contents, same, depth-Macro contents, depth-Macro new, known) refl

pub Entry::undo-returns-in-Macro-clause-nests : goal.Entry::undo-returns-in-Macro-clause-nests
Entry::undo-returns-in-Macro-clause-nests g t c =
    let contents = c.in-Macro.contents in
    let same = c.deref_mut.ensures.value ∙ ap (λ (b : Contents g.row.C.Denot). b.value) c.in-Macro.contents-is in
    let new : Contents g.row.C.Denot = record {
      ptr = contents.ptr;
      alloc = contents.alloc;
      value = record contents.value { children = c.undo_all.new.children };
    } in
    let known = rw same at c.undo_all.ensures.nests in
    rw (c.in-Macro.is, outs-Macro contents, same, nesting-Macro contents, nesting-Macro new, known) refl

pub undo_all-undo-requires : goal.undo_all-undo-requires
undo_all-undo-requires g t c κs within =
    let f = entry_change g.C.Command.change in
    let es = c.loop-i.entries in
    let i = c.loop-i.i in
    let same : i ≡ i - 1 + 1 = omega arith in
    let at : i - 1 < length es = omega arith in
    let first = before f c.as_mut_slice-entries.result.now c.args.document.now in
    let known = subst (λ (n : ℕ). Between f es n c.loop-i.document first c.args.document.now) same c.loop-i.invariant.1 in
    let entries = c.as_mut_slice-entries.result.now in
    let v = slice_index_or es (i - 1) c.index-entries-i.result in
    let here : v ≡ get_or es (i - 1) v = get_or_default es (i - 1) _ v at in
    let size = size-Entry g.row.C.Denot in
    let inside : i - 1 < length entries = omega (arith, c.loop-i.invariant.0.0) in
    let is : v ≡ get_or entries (i - 1) v = here ∙ c.loop-i.invariant.0.1 (i - 1) v (omega arith) in
    let sizes : size v ≡ size (get_or entries (i - 1) v) = ap size is in
    let most = at_most size entries (i - 1) v inside in
    let whole = ap (λ xs. greatest size xs) c.as_mut_slice-entries.ensures.value in
    let fits = between_last f es v (i - 1) c.loop-i.document first c.args.document.now known at here in
    (omega (arith, sizes, most, whole), (search rules, fits))

pub undo_all-loop-i-preserved : goal.undo_all-loop-i-preserved
undo_all-loop-i-preserved g t c =
    let f = entry_change g.C.Command.change in
    let es = c.loop-i.entries in
    let i = c.loop-i.i in
    let at : i - 1 < length es = omega arith in
    let v = slice_index_or es (i - 1) c.index-entries-i.result in
    let is : v ≡ get_or es (i - 1) v = get_or_default es (i - 1) _ v at in
    let w = c.undo.new.self in
    let same : i ≡ i - 1 + 1 = omega arith in
    let first = before f c.as_mut_slice-entries.result.now c.args.document.now in
    let old = c.loop-i.invariant in
    let last = c.args.document.now in
    let known = subst (λ (n : ℕ). Between f es n c.loop-i.document first last) same old.1 in (
      (length-set es (i - 1) w ∙ old.0.0, λ k d h. get_or-set_other es (i - 1) k w d (omega arith) ∙ old.0.1 k d (omega arith)),
      between_back f es v w (i - 1) c.loop-i.document c.undo.new.document first last known at is c.undo.ensures.turned,
      map-set_same depth es v w (i - 1) is c.undo.ensures.depth ∙ old.2,
      map-set_same nesting es v w (i - 1) is c.undo.ensures.nests ∙ old.3,
    )
