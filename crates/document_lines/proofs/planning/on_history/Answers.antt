use Rattle.std.proofs.Common.{◌+◌, ◌-◌, ap, refl}
use Rattle.undo_stack.specs.Nestings.{macros_of}
use Rattle.undo_stack.specs.Stacks.{history, macros}
use Rattle.document_lines.specs.declared.planned.Planned.TheVariants as planned
use Rattle.document_lines.specs.Answers.{call_reply}
use Rattle.document_lines.proofs.Macros.{end-macros, kept-DocumentKinds, turn-macros}
use Rattle.document_lines.proofs.Moving.{goto-IsDone, redo-IsDone, undo-IsDone}
use Rattle.document_lines.proofs.planning.on_history.Goals as goal

pub returns-in-Undo-clause-plans : goal.returns-in-Undo-clause-plans
returns-in-Undo-clause-plans g c =
    let f = g.C.Command.change in
    let n = history f c.undo-answer.new.self in
    rw (c.in-Undo.is, c.plan_answered.ensures)
    (undo-IsDone (history f c.args.stack.now) n c.undo-answer.result (call_reply c.undo-answer.result n) c.undo-answer.ensures.step refl)

pub returns-in-Redo-clause-plans : goal.returns-in-Redo-clause-plans
returns-in-Redo-clause-plans g c =
    let f = g.C.Command.change in
    let n = history f c.redo-answer.new.self in
    rw (c.in-Redo.is, c.plan_answered-in-Redo.ensures)
    (redo-IsDone (history f c.args.stack.now) n c.redo-answer.result (call_reply c.redo-answer.result n) c.redo-answer.ensures.step refl)

pub returns-in-Goto-clause-plans : goal.returns-in-Goto-clause-plans
returns-in-Goto-clause-plans g c =
    let f = g.C.Command.change in
    let n = history f c.set_index-answer.new.self in
    rw (c.in-Goto.is, c.plan_answered-in-Goto.ensures)
    (goto-IsDone _ (history f c.args.stack.now) n c.set_index-answer.result (call_reply c.set_index-answer.result n) c.set_index-answer.ensures.step refl)

pub returns-in-Undo-clause-kinds : goal.returns-in-Undo-clause-kinds
returns-in-Undo-clause-kinds g c = λ steady.
    let f = g.C.Command.change in
    let s = c.args.stack.now in
    let t = c.undo-answer.new.self in
    let kept = turn-macros f ((history f c.args.stack.now).position - 1) s t
    c.undo-answer.result steady c.undo-answer.ensures.reported c.undo-answer.ensures.kept in
    kept-DocumentKinds _ _ (history f s) c.plan_answered.result (macros s) (macros t) c.in-Undo.is refl (λ k. k) kept

pub returns-in-Redo-clause-kinds : goal.returns-in-Redo-clause-kinds
returns-in-Redo-clause-kinds g c = λ steady.
    let f = g.C.Command.change in
    let s = c.args.stack.now in
    let t = c.redo-answer.new.self in
    let kept = turn-macros f ((history f c.args.stack.now).position + 1) s t
    c.redo-answer.result steady c.redo-answer.ensures.reported c.redo-answer.ensures.kept in
    kept-DocumentKinds _ _ (history f s) c.plan_answered-in-Redo.result (macros s) (macros t) c.in-Redo.is refl (λ k. k) kept

pub returns-in-Goto-clause-kinds : goal.returns-in-Goto-clause-kinds
returns-in-Goto-clause-kinds g c = λ steady.
    let f = g.C.Command.change in
    let s = c.args.stack.now in
    let t = c.set_index-answer.new.self in
    let kept = turn-macros f _ s t c.set_index-answer.result steady c.set_index-answer.ensures.reported c.set_index-answer.ensures.kept in
    kept-DocumentKinds _ _ (history f s) c.plan_answered-in-Goto.result (macros s) (macros t) c.in-Goto.is refl (λ k. k) kept

pub returns-in-Clean-clause-kinds : goal.returns-in-Clean-clause-kinds
returns-in-Clean-clause-kinds g c = λ steady.
    let f = g.C.Command.change in
    let s = c.args.stack.now in
    kept-DocumentKinds _ _ (history f s) c.plan_answered-in-Clean.result (macros s) (macros c.set_clean-answer.new.self)
    c.in-Clean.is refl (λ k. k) (ap macros_of c.set_clean-answer.ensures.kept)

pub returns-in-Limit-clause-kinds : goal.returns-in-Limit-clause-kinds
returns-in-Limit-clause-kinds g c = λ steady.
    let f = g.C.Command.change in
    let s = c.args.stack.now in
    kept-DocumentKinds _ _ (history f s) c.plan_limit.result (macros s) (macros c.plan_limit.new.stack)
    c.in-Limit.is refl (λ k. k) (ap macros_of c.plan_limit.ensures.kept)

pub returns-in-Dirty-clause-kinds : goal.returns-in-Dirty-clause-kinds
returns-in-Dirty-clause-kinds g c = λ steady.
    let f = g.C.Command.change in
    let s = c.args.stack.now in
    kept-DocumentKinds _ _ (history f s) (planned.Reply c.state_of.result) (macros s) (macros c.reset_clean.new.self)
    c.in-Dirty.is refl (λ k. k) (ap macros_of c.reset_clean.ensures.kept)

pub returns-in-Begin-clause-kinds : goal.returns-in-Begin-clause-kinds
returns-in-Begin-clause-kinds g c = λ steady. rw c.in-Begin.is c.plan_begin.ensures.kinds

pub returns-in-End-clause-kinds : goal.returns-in-End-clause-kinds
returns-in-End-clause-kinds g c = λ steady.
    let f = g.C.Command.change in
    rw (c.in-End.is, c.plan_answered-in-End.ensures)
    (end-macros f c.args.stack.now c.end_macro-answer.new.self c.end_macro-answer.result c.end_macro-answer.ensures.nests)

pub returns-in-Clear-clause-kinds : goal.returns-in-Clear-clause-kinds
returns-in-Clear-clause-kinds g c = λ steady. rw (c.in-Clear.is, c.state_of-in-Clear.ensures) (ap macros_of c.clear.ensures.nests)

pub returns-in-Show-clause-kinds : goal.returns-in-Show-clause-kinds
returns-in-Show-clause-kinds g c = λ steady.
    kept-DocumentKinds _ _ (history g.C.Command.change c.args.stack.now) c.plan_show.result (macros c.args.stack.now) (macros c.args.stack.now)
    c.in-Show.is refl (λ k. k) refl

pub returns-in-StepText-clause-kinds : goal.returns-in-StepText-clause-kinds
returns-in-StepText-clause-kinds g c = λ steady.
    kept-DocumentKinds _ _ (history g.C.Command.change c.args.stack.now) c.plan_step_text.result (macros c.args.stack.now) (macros c.args.stack.now)
    c.in-StepText.is refl (λ k. k) refl

pub returns-in-Tile-clause-kinds : goal.returns-in-Tile-clause-kinds
returns-in-Tile-clause-kinds g c = λ steady.
    let s = c.args.stack.now in
    kept-DocumentKinds _ _ (history g.C.Command.change s) (planned.Reply c.reply.result) (macros s) (macros s) c.in-Tile.is refl (λ k. k) refl
