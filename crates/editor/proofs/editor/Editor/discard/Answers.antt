use Rattle.std.proofs.Common.{ℕ, List, map, subst}
use Rattle.undo_stack.specs.Turning.{IsSteady}
use Rattle.undo_group.specs.Groups.{active_history, removed}
use Rattle.undo_group.specs.Stacks.{group_of, stacks_of}
use Rattle.editor.specs.Editors.{stacks_in}
use Rattle.editor.specs.Kinds.{LosesKinds}
use Rattle.editor.proofs.KindLists.{kinds_of, status_UnlessRefused, taken-LosesKinds}
use Rattle.editor.proofs.Lent.{group-IsSound}
use Rattle.editor.proofs.Histories.{without-have}
use Rattle.editor.proofs.editor.Editor.discard.Goals as goal

pub status-requires : goal.status-requires
status-requires g c = record { limit = c.requires.limit; group = c.remove.ensures.sound }

pub returns-clause-sound : goal.returns-clause-sound
returns-clause-sound g c = λ sound.
    let f = g.C.Command.change in
    let old = group_of f c.args.self.now.group in
    group-IsSound f _ (removed c.as_str.result.now old) (record { limit = c.requires.limit; group = c.remove.ensures.sound }) c.in-Ok.ensures.removed
    (without-have IsSteady c.as_str.result.now old.documents sound.steady)

pub returns-clause-kinds : goal.returns-clause-kinds
returns-clause-kinds g c =
    let old = stacks_in c.args.self.now in
    let new = stacks_of c.remove.new.self in
    let P : List ℕ → Type 0 = λ name. LosesKinds name (map kinds_of old) (map kinds_of new) in
    let lost = subst P c.as_str.ensures (taken-LosesKinds c.as_str.result.now _ old new c.in-Ok.ensures.taken) in
    let active = active_history (group_of g.C.Command.change c.remove.new.self) in
    rw c.status.ensures (status_UnlessRefused active (LosesKinds c.args.name.now) (map kinds_of old) (map kinds_of new) lost)

pub returns-in_default-clause-sound : goal.returns-in_default-clause-sound
returns-in_default-clause-sound g c = λ sound.
    let f = g.C.Command.change in
    group-IsSound f _ (group_of f c.args.self.now.group) (record { limit = c.requires.limit; group = c.remove.ensures.sound })
    c.in_default.ensures.unchanged sound.steady
