use Rattle.std.proofs.Common.{Option, refl, subst, sym, ap, ◌∙◌}
use Rattle.undo_stack.specs.History.{History}
use Rattle.undo_stack.specs.Nestings.{macros_of}
use Rattle.undo_stack.specs.Stacks.{history}
use Rattle.undo_stack.specs.Turning.{IsSteady}
use Rattle.document_lines.specs.Machine.{Machine}
use Rattle.editor.specs.Editors.{machine_of}
use Rattle.editor.specs.MorePlanning.{PlansMoreIn}
use Rattle.editor.specs.Planning.{FitsPlan}
use Rattle.editor.proofs.KindLists.{kept_kinds}
use Rattle.editor.proofs.Lent.{active-IsSteady, left-IsHeld, left-IsSound, left-machine}
use Rattle.editor.proofs.Lifting.{with_active-unchanged}
use Rattle.editor.proofs.MoreCommitting.{more-FitsPlan}
use Rattle.editor.proofs.editor.Editor.plan_more.Goals as goal

pub returns-in-Some-clause-held : goal.returns-in-Some-clause-held
returns-in-Some-clause-held g c =
    let stack = c.on_more_line.new.stack in
    left-IsHeld g.C.Command.change c.args.self.now _ stack refl (c.active_mut.follows.holds stack c.on_more_line.ensures.sound) c.requires

pub returns-in-Some-clause-sound : goal.returns-in-Some-clause-sound
returns-in-Some-clause-sound g c = λ sound.
    let change = g.C.Command.change in
    let stack = c.on_more_line.new.stack in
    let steady = active-IsSteady change c.args.self.now (history change c.in-Some.stack.now) sound c.in-Some.ensures.active in
    left-IsSound change c.args.self.now _ stack refl (c.active_mut.follows.holds stack c.on_more_line.ensures.sound)
    (subst (λ (n : History). IsSteady n) (sym c.on_more_line.ensures.plans.1) steady) sound

pub returns-in-Some-clause-machine : goal.returns-in-Some-clause-machine
returns-in-Some-clause-machine g c =
    let change = g.C.Command.change in
    let stack = c.on_more_line.new.stack in
    left-machine change c.args.self.now _ stack refl (c.active_mut.follows.holds stack c.on_more_line.ensures.sound)
    ∙ with_active-unchanged (history change c.in-Some.stack.now) (history change stack)
    (machine_of change c.args.self.now) c.in-Some.ensures.whole (sym c.in-Some.ensures.active) c.on_more_line.ensures.plans.1

pub returns-in-Some-clause-kinds : goal.returns-in-Some-clause-kinds
returns-in-Some-clause-kinds g c =
    let stack = c.on_more_line.new.stack in
    kept_kinds g.C.Command.change c.args.self.now _ c.in-Some.stack.now stack refl (c.active_mut.follows.holds stack c.on_more_line.ensures.sound)
    c.in-Some.ensures.whole c.in-Some.ensures.active c.in-Some.ensures.stack (ap macros_of c.on_more_line.ensures.kept)

pub returns-in-Some-clause-fits : goal.returns-in-Some-clause-fits
returns-in-Some-clause-fits g c =
    let change = g.C.Command.change in
    let stack = c.on_more_line.new.stack in
    let P : Machine → Type 0 = λ m. FitsPlan m c.on_more_line.result in
    let kept = left-machine change c.args.self.now _ stack refl (c.active_mut.follows.holds stack c.on_more_line.ensures.sound)
    ∙ with_active-unchanged (history change c.in-Some.stack.now) (history change stack)
    (machine_of change c.args.self.now) c.in-Some.ensures.whole (sym c.in-Some.ensures.active) c.on_more_line.ensures.plans.1 in
    subst P (sym kept)
    (more-FitsPlan c.args.fractions c.args.line.now (history change c.in-Some.stack.now) (machine_of change c.args.self.now) c.on_more_line.result
    (sym c.in-Some.ensures.active) c.on_more_line.ensures.plans.0)

pub returns-in-Some-clause-plans : goal.returns-in-Some-clause-plans
returns-in-Some-clause-plans g c =
    let P : Option History → Type 0 = λ active. PlansMoreIn c.args.fractions c.args.line.now active c.on_more_line.result in
    subst P c.in-Some.ensures.active c.on_more_line.ensures.plans.0

pub returns-in-None-clause-sound : goal.returns-in-None-clause-sound
returns-in-None-clause-sound g c = rw c.active_mut.follows.holds-at-none (λ sound. sound)
