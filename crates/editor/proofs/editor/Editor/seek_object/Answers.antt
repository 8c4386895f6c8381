use Rattle.std.proofs.Common.{refl, subst, sym, ap, ◌∙◌}
use Rattle.undo_stack.specs.History.{History}
use Rattle.undo_stack.specs.Nestings.{macros_of}
use Rattle.undo_stack.specs.Stacks.{history}
use Rattle.undo_stack.specs.Turning.{IsSteady}
use Rattle.editor.specs.Editors.{machine_of}
use Rattle.editor.proofs.KindLists.{kept_kinds}
use Rattle.editor.proofs.Lent.{active-IsSteady, left-IsHeld, left-IsSound, left-machine}
use Rattle.editor.proofs.Lifting.{with_active-unchanged}
use Rattle.editor.proofs.editor.Editor.seek_object.Goals as goal

pub returns-in-Some-clause-held : goal.returns-in-Some-clause-held
returns-in-Some-clause-held g c = left-IsHeld g.C.Command.change c.args.self.now _ c.seek_object.new.self refl
    (c.active_mut.follows.holds c.seek_object.new.self c.seek_object.ensures.sound) c.requires

pub returns-in-Some-clause-sound : goal.returns-in-Some-clause-sound
returns-in-Some-clause-sound g c = λ sound.
    let change = g.C.Command.change in
    let h = history change c.in-Some.stack.now in
    let steady = active-IsSteady change c.args.self.now h sound c.in-Some.ensures.active in
    left-IsSound change c.args.self.now _ c.seek_object.new.self refl (c.active_mut.follows.holds c.seek_object.new.self c.seek_object.ensures.sound)
    (subst (λ (n : History). IsSteady n) (sym c.seek_object.ensures.same) steady) sound

pub returns-in-Some-clause-machine : goal.returns-in-Some-clause-machine
returns-in-Some-clause-machine g c =
    let change = g.C.Command.change in
    left-machine change c.args.self.now _ c.seek_object.new.self refl (c.active_mut.follows.holds c.seek_object.new.self c.seek_object.ensures.sound)
    ∙ with_active-unchanged (history change c.in-Some.stack.now) (history change c.seek_object.new.self)
    (machine_of change c.args.self.now) c.in-Some.ensures.whole (sym c.in-Some.ensures.active) c.seek_object.ensures.same

pub returns-in-Some-clause-kinds : goal.returns-in-Some-clause-kinds
returns-in-Some-clause-kinds g c =
    let change = g.C.Command.change in
    let s = c.in-Some.stack.now in
    let t = c.seek_object.new.self in
    kept_kinds change c.args.self.now _ s t refl (c.active_mut.follows.holds t c.seek_object.ensures.sound)
    c.in-Some.ensures.whole c.in-Some.ensures.active c.in-Some.ensures.stack (ap macros_of c.seek_object.ensures.kept)

pub returns-in-None-clause-machine : goal.returns-in-None-clause-machine
returns-in-None-clause-machine g c = rw c.active_mut.follows.holds-at-none refl

pub returns-in-None-clause-sound : goal.returns-in-None-clause-sound
returns-in-None-clause-sound g c = rw c.active_mut.follows.holds-at-none (λ sound. sound)
