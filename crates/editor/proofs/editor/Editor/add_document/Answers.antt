use Rattle.std.proofs.Common.{ℕ, List, Some, ap, map, subst, sym}
use Rattle.undo_stack.specs.History.{History}
use Rattle.undo_stack.specs.Stacks.{history}
use Rattle.undo_stack.specs.Turning.{IsSteady}
use Rattle.undo_group.specs.Groups.{added, chosen}
use Rattle.undo_group.specs.Stacks.{group_of, stacks_of}
use Rattle.undo_stack.specs.Nestings.{macros_of}
use Rattle.editor.specs.Editors.{stacks_in}
use Rattle.editor.specs.Kinds.{AddsKinds}
use Rattle.editor.proofs.KindLists.{added-AddsKinds, kinds_of}
use Rattle.editor.proofs.Lent.{group-IsSound}
use Rattle.editor.proofs.Histories.{added-have}
use Rattle.editor.proofs.editor.Editor.add_document.Goals as goal

pub returns-in-Ok-clause-held : goal.returns-in-Ok-clause-held
returns-in-Ok-clause-held g c = record { limit = c.requires.held.limit; group = c.add_active.ensures.sound }

pub returns-in-Err-clause-held : goal.returns-in-Err-clause-held
returns-in-Err-clause-held g c = record { limit = c.requires.held.limit; group = c.add_active.ensures.sound }

pub returns-in-Ok-clause-sound : goal.returns-in-Ok-clause-sound
returns-in-Ok-clause-sound g c = λ sound.
    let f = g.C.Command.change in
    let old = group_of f c.args.self.now.group in
    let name = c.as_str.result.now in
    let h = history f c.new-stack.result in
    group-IsSound f _ (chosen (Some name) (added name h old))
    (record { limit = c.requires.held.limit; group = c.add_active.ensures.sound }) c.in-Ok.ensures.added
    (added-have IsSteady name h old.documents (subst (λ (k : History). IsSteady k) (sym c.new-stack.ensures.history) tt) sound.steady)

pub returns-in-Err-clause-sound : goal.returns-in-Err-clause-sound
returns-in-Err-clause-sound g c = λ sound.
    let f = g.C.Command.change in
    group-IsSound f _ (group_of f c.args.self.now.group) (record { limit = c.requires.held.limit; group = c.add_active.ensures.sound })
    c.in-Err.ensures.unchanged sound.steady

pub returns-in-Ok-clause-kinds : goal.returns-in-Ok-clause-kinds
returns-in-Ok-clause-kinds g c =
    let s = c.new-stack.result in
    let old = stacks_in c.args.self.now in
    let new = stacks_of c.add_active.new.self in
    let P : List ℕ → Type 0 = λ name. AddsKinds name (map kinds_of old) (map kinds_of new) in
    rw c.state_of-reply.ensures
    (subst P c.as_str.ensures (added-AddsKinds c.as_str.result.now s old new (ap macros_of c.new-stack.ensures.nests) c.in-Ok.ensures.last))

pub returns-in-Err-clause-kinds : goal.returns-in-Err-clause-kinds
returns-in-Err-clause-kinds g c = ap (map kinds_of) c.in-Err.ensures.stacks
