use Rattle.std.proofs.Common.{refl, subst, sym, ap, ◌∙◌}
use Rattle.undo_stack.specs.History.{History, current}
use Rattle.undo_stack.specs.Nestings.{macros_of}
use Rattle.undo_stack.specs.Pushing.{step_of}
use Rattle.undo_stack.specs.Stacks.{history}
use Rattle.undo_stack.specs.Turning.{IsSteady}
use Rattle.undo_stack.proofs.Steadiness.{IsPushed-steady}
use Rattle.editor.specs.Editors.{machine_of}
use Rattle.editor.proofs.KindLists.{kept_kinds}
use Rattle.editor.proofs.Pushed.{commit_kinds}
use Rattle.editor.proofs.Lent.{active-IsSteady, left-IsHeld, left-IsSound, left-machine, put_active}
use Rattle.editor.proofs.Lifting.{with_active-unchanged}
use Rattle.editor.proofs.Committing.{Commits-pushed, Commits-refused}
use Rattle.editor.proofs.editor.Editor.commit_told.Goals as goal

pub returns-in-Ok-clause-held : goal.returns-in-Ok-clause-held
returns-in-Ok-clause-held g c = left-IsHeld g.C.Command.change c.args.self.now _ c.push_told.new.self refl
    (c.active_mut.follows.holds c.push_told.new.self c.push_told.ensures.sound) c.requires.held

pub returns-in-Ok-clause-sound : goal.returns-in-Ok-clause-sound
returns-in-Ok-clause-sound g c = λ sound bound.
    let change = g.C.Command.change in
    let h = history change c.in-Some.stack.now in
    let steady = active-IsSteady change c.args.self.now h sound c.in-Some.ensures.active in
    left-IsSound change c.args.self.now _ c.push_told.new.self refl (c.active_mut.follows.holds c.push_told.new.self c.push_told.ensures.sound)
    (IsPushed-steady h (step_of (change c.args.command) (current h)) (history change c.push_told.new.self) bound steady c.in-Ok.ensures.pushed) sound

pub returns-in-Ok-clause-commits : goal.returns-in-Ok-clause-commits
returns-in-Ok-clause-commits g c =
    let change = g.C.Command.change in
    Commits-pushed (change c.args.command) (history change c.in-Some.stack.now) (history change c.push_told.new.self)
    (machine_of change c.args.self.now) _ c.state_of.result (sym c.in-Some.ensures.active)
    c.in-Ok.ensures.pushed c.state_of.ensures (left-machine change c.args.self.now _ c.push_told.new.self refl
    (c.active_mut.follows.holds c.push_told.new.self c.push_told.ensures.sound))

pub returns-in-Err-clause-held : goal.returns-in-Err-clause-held
returns-in-Err-clause-held g c = left-IsHeld g.C.Command.change c.args.self.now _ c.push_told.new.self refl
    (c.active_mut.follows.holds c.push_told.new.self c.push_told.ensures.sound) c.requires.held

pub returns-in-Err-clause-sound : goal.returns-in-Err-clause-sound
returns-in-Err-clause-sound g c = λ sound bound.
    let change = g.C.Command.change in
    let h = history change c.in-Some.stack.now in
    let steady = active-IsSteady change c.args.self.now h sound c.in-Some.ensures.active in
    left-IsSound change c.args.self.now _ c.push_told.new.self refl (c.active_mut.follows.holds c.push_told.new.self c.push_told.ensures.sound)
    (subst (λ (n : History). IsSteady n) (sym c.in-Err.ensures.unchanged) steady) sound

pub returns-in-Err-clause-commits : goal.returns-in-Err-clause-commits
returns-in-Err-clause-commits g c =
    let change = g.C.Command.change in
    let left = left-machine change c.args.self.now _ c.push_told.new.self refl (c.active_mut.follows.holds c.push_told.new.self c.push_told.ensures.sound) in
    Commits-refused (change c.args.command) (history change c.in-Some.stack.now) (machine_of change c.args.self.now) _ (sym c.in-Some.ensures.active)
    (left ∙ with_active-unchanged (history change c.in-Some.stack.now) (history change c.push_told.new.self)
    (machine_of change c.args.self.now) c.in-Some.ensures.whole (sym c.in-Some.ensures.active) c.in-Err.ensures.unchanged)

pub returns-in-Ok-clause-reported : goal.returns-in-Ok-clause-reported
returns-in-Ok-clause-reported g c =
    let change = g.C.Command.change in
    let s = c.in-Some.stack.now in
    let t = c.push_told.new.self in
    let follows = c.active_mut.follows.holds t c.push_told.ensures.sound in
    let put = put_active change c.args.self.now _ s t refl follows c.in-Some.ensures.held c.in-Some.ensures.active c.in-Some.ensures.stack
    c.push_told.ensures.sound in
    rw c.state_of.ensures (s, t, record { put = put; reported = c.in-Ok.ensures.reported })

pub returns-in-Err-clause-reported : goal.returns-in-Err-clause-reported
returns-in-Err-clause-reported g c =
    let change = g.C.Command.change in
    let s = c.in-Some.stack.now in
    let t = c.push_told.new.self in
    let follows = c.active_mut.follows.holds t c.push_told.ensures.sound in
    let put = put_active change c.args.self.now _ s t refl follows c.in-Some.ensures.held c.in-Some.ensures.active c.in-Some.ensures.stack
    c.push_told.ensures.sound in
    (s, t, record { put = put; kept = c.in-Err.ensures.kept })

pub returns-in-Ok-clause-kinds : goal.returns-in-Ok-clause-kinds
returns-in-Ok-clause-kinds g c =
    let change = g.C.Command.change in
    let s = c.in-Some.stack.now in
    let t = c.push_told.new.self in
    let follows = c.active_mut.follows.holds t c.push_told.ensures.sound in
    rw c.state_of.ensures
    (commit_kinds change c.args.self.now _ s t c.args.command refl follows
    c.in-Some.ensures.whole c.in-Some.ensures.active c.in-Some.ensures.stack c.in-Ok.ensures.reported)

pub returns-in-Err-clause-kinds : goal.returns-in-Err-clause-kinds
returns-in-Err-clause-kinds g c =
    let change = g.C.Command.change in
    let s = c.in-Some.stack.now in
    let t = c.push_told.new.self in
    let follows = c.active_mut.follows.holds t c.push_told.ensures.sound in
    kept_kinds change c.args.self.now _ s t refl follows
    c.in-Some.ensures.whole c.in-Some.ensures.active c.in-Some.ensures.stack (ap macros_of c.in-Err.ensures.kept)
