use Rattle.std.proofs.Common.{Some, ap, refl, sym, subst}
use Rattle.undo_stack.specs.Nestings.{macros_of}
use Rattle.undo_stack.specs.Stacks.{history}
use Rattle.document_lines.specs.Machine.{Machine}
use Rattle.document_lines.specs.Planning.{KeepsReply}
use Rattle.document_lines.proofs.SteadyPlans.{saves-steady}
use Rattle.editor.specs.Editors.{machine_of}
use Rattle.editor.proofs.KindLists.{kept_kinds}
use Rattle.editor.proofs.Lent.{active-IsSteady, left-IsHeld, left-IsSound, left-machine}
use Rattle.editor.proofs.Lifting.{on-KeepsReply, saves}
use Rattle.editor.proofs.editor.Editor.save.Goals as goal

pub returns-in-Some-clause-held : goal.returns-in-Some-clause-held
returns-in-Some-clause-held g c =
    let stack = c.save_document.new.stack in
    left-IsHeld g.C.Command.change c.args.self.now _ stack refl (c.active_mut.follows.holds stack c.save_document.ensures.sound) c.requires.held

pub returns-in-Some-clause-sound : goal.returns-in-Some-clause-sound
returns-in-Some-clause-sound g c = λ sound.
    let change = g.C.Command.change in
    let stack = c.save_document.new.stack in
    let h = history change c.in-Some.stack.now in
    let steady = active-IsSteady change c.args.self.now h sound c.in-Some.ensures.active in
    left-IsSound change c.args.self.now _ stack refl (c.active_mut.follows.holds stack c.save_document.ensures.sound)
    (saves-steady c.args.file.now _ _ h (history change stack) (Some c.save_document.result) steady c.save_document.ensures.saves) sound

pub returns-in-Some-clause-step : goal.returns-in-Some-clause-step
returns-in-Some-clause-step g c =
    let change = g.C.Command.change in
    let stack = c.save_document.new.stack in
    let old = machine_of change c.args.self.now in
    saves _ (history change c.in-Some.stack.now) (history change stack) c.save_document.result old _ _ _ c.in-Some.ensures.whole (sym c.in-Some.ensures.active)
    c.save_document.ensures.saves c.save_document.ensures.unchanged
    (left-machine change c.args.self.now _ stack refl (c.active_mut.follows.holds stack c.save_document.ensures.sound))

pub returns-in-Some-clause-unchanged : goal.returns-in-Some-clause-unchanged
returns-in-Some-clause-unchanged g c =
    let change = g.C.Command.change in
    let stack = c.save_document.new.stack in
    let old = machine_of change c.args.self.now in
    let P : Machine → Type 0 = λ m. KeepsReply c.save_document.result old m in
    subst P (sym (left-machine change c.args.self.now _ stack refl (c.active_mut.follows.holds stack c.save_document.ensures.sound)))
    (on-KeepsReply (history change c.in-Some.stack.now) (history change stack) old c.in-Some.ensures.whole
    (sym c.in-Some.ensures.active) c.save_document.result c.save_document.ensures.unchanged)

pub returns-in-Some-clause-kinds : goal.returns-in-Some-clause-kinds
returns-in-Some-clause-kinds g c =
    let change = g.C.Command.change in
    let stack = c.save_document.new.stack in
    let follows = c.active_mut.follows.holds stack c.save_document.ensures.sound in
    kept_kinds change c.args.self.now _ c.in-Some.stack.now stack refl follows
    c.in-Some.ensures.whole c.in-Some.ensures.active c.in-Some.ensures.stack (ap macros_of c.save_document.ensures.kept)

pub returns-in-None-clause-sound : goal.returns-in-None-clause-sound
returns-in-None-clause-sound g c = rw c.active_mut.follows.holds-at-none (λ sound. sound)

pub returns-in-None-clause-step : goal.returns-in-None-clause-step
returns-in-None-clause-step g c = rw (sym c.in-None.ensures.active) ((refl, rw c.active_mut.follows.holds-at-none refl), refl)

pub returns-in-None-clause-unchanged : goal.returns-in-None-clause-unchanged
returns-in-None-clause-unchanged g c = rw c.active_mut.follows.holds-at-none refl
