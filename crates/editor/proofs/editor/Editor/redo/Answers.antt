use Rattle.std.proofs.Common.{◌+◌, refl, sym}
use Rattle.undo_stack.specs.Stacks.{history, macros}
use Rattle.session.specs.declared.line.Line.TheVariants.{Redo}
use Rattle.document_lines.specs.declared.planned.Planned.TheVariants as planned
use Rattle.document_lines.proofs.Macros.{kept-DocumentKinds, turn-macros}
use Rattle.document_lines.proofs.Moving.{redo-IsDone}
use Rattle.editor.proofs.Lent.{left-IsHeld}
use Rattle.editor.proofs.Lines.{line-kinds, line-plans, line-sound, line-turns, line-unchanged}
use Rattle.editor.proofs.editor.Editor.redo.Goals as goal

pub returns-in-Some-clause-held : goal.returns-in-Some-clause-held
returns-in-Some-clause-held g c =
    let t = c.redo-answer.new.self in
    left-IsHeld g.C.Command.change c.args.self.now _ t refl (c.active_mut.follows.holds t c.redo-answer.ensures.sound) c.requires

pub returns-in-Some-clause-turns : goal.returns-in-Some-clause-turns
returns-in-Some-clause-turns g c =
    let f = g.C.Command.change in
    let s = c.in-Some.stack.now in
    let t = c.redo-answer.new.self in
    let left = c.active_mut.follows.holds t c.redo-answer.ensures.sound in
    let done = redo-IsDone (history f s) (history f t) c.redo-answer.result c.answered.result c.redo-answer.ensures.step c.answered.ensures in
    line-turns f c.args.self.now _ s t refl left c.in-Some.ensures.whole c.in-Some.ensures.active Redo (planned.Reply c.answered.result) done

pub returns-in-Some-clause-unchanged : goal.returns-in-Some-clause-unchanged
returns-in-Some-clause-unchanged g c =
    let f = g.C.Command.change in
    let s = c.in-Some.stack.now in
    let t = c.redo-answer.new.self in
    let left = c.active_mut.follows.holds t c.redo-answer.ensures.sound in
    let done = redo-IsDone (history f s) (history f t) c.redo-answer.result c.answered.result c.redo-answer.ensures.step c.answered.ensures in
    line-unchanged f c.args.self.now _ s t refl left c.in-Some.ensures.whole c.in-Some.ensures.active Redo (planned.Reply c.answered.result) done

pub returns-in-Some-clause-sound : goal.returns-in-Some-clause-sound
returns-in-Some-clause-sound g c =
    let f = g.C.Command.change in
    let s = c.in-Some.stack.now in
    let t = c.redo-answer.new.self in
    let left = c.active_mut.follows.holds t c.redo-answer.ensures.sound in
    let done = redo-IsDone (history f s) (history f t) c.redo-answer.result c.answered.result c.redo-answer.ensures.step c.answered.ensures in
    line-sound f c.args.self.now _ s t refl left c.in-Some.ensures.whole c.in-Some.ensures.active Redo (planned.Reply c.answered.result) done
    c.in-Some.ensures.held

pub returns-in-Some-clause-step : goal.returns-in-Some-clause-step
returns-in-Some-clause-step g c =
    let f = g.C.Command.change in
    let s = c.in-Some.stack.now in
    let t = c.redo-answer.new.self in
    let left = c.active_mut.follows.holds t c.redo-answer.ensures.sound in
    let done = redo-IsDone (history f s) (history f t) c.redo-answer.result c.answered.result c.redo-answer.ensures.step c.answered.ensures in
    line-plans f c.args.self.now _ s t refl left c.in-Some.ensures.whole c.in-Some.ensures.active Redo (planned.Reply c.answered.result) done
    c.in-Some.ensures.held

pub returns-in-Some-clause-kinds : goal.returns-in-Some-clause-kinds
returns-in-Some-clause-kinds g c =
    let f = g.C.Command.change in
    let s = c.in-Some.stack.now in
    let t = c.redo-answer.new.self in
    let left = c.active_mut.follows.holds t c.redo-answer.ensures.sound in
    let done = redo-IsDone (history f s) (history f t) c.redo-answer.result c.answered.result c.redo-answer.ensures.step c.answered.ensures in
    line-kinds f c.args.self.now _ s t refl left c.in-Some.ensures.whole c.in-Some.ensures.active Redo (planned.Reply c.answered.result) done
    c.in-Some.ensures.held c.in-Some.ensures.stack
    (λ steady.
    kept-DocumentKinds Redo Redo (history f s) (planned.Reply c.answered.result) (macros s) (macros t) refl refl (λ k. k)
    (turn-macros f ((history f s).position + 1) s t c.redo-answer.result steady c.redo-answer.ensures.reported c.redo-answer.ensures.kept))

pub returns-in-None-clause-sound : goal.returns-in-None-clause-sound
returns-in-None-clause-sound g c = rw c.active_mut.follows.holds-at-none (λ sound. sound)

pub returns-in-None-clause-step : goal.returns-in-None-clause-step
returns-in-None-clause-step g c = λ sound stored. (rw (sym c.in-None.ensures.active) (refl, rw c.active_mut.follows.holds-at-none refl), refl)

pub returns-in-None-clause-kinds : goal.returns-in-None-clause-kinds
returns-in-None-clause-kinds g c = λ sound. rw c.active_mut.follows.holds-at-none refl
