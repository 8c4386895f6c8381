use Rattle.std.proofs.Common.{◌-◌, arith, refl}
use Rattle.undo_stack.specs.Moving.{undo_answer_at}
use Rattle.undo_stack.specs.Reporting.{AreTurned}
use Rattle.undo_stack.proofs.Innermost.{closed_shape}
use Rattle.undo_stack.proofs.Reported.{turned_once_down}
use Rattle.undo_stack.proofs.Views.{outside-open}
use Rattle.undo_stack.proofs.stack.Stack.undo.Goals as goal

pub returns-then-is_open-clause-step : goal.returns-then-is_open-clause-step
returns-then-is_open-clause-step g c =
    let s = c.args.self.now in
    record { answered = outside-open g.C.Command.change s c.if-is_open.ensures (undo_answer_at s.sequences.steps.index); leads = refl }

pub returns-clause-reported : goal.returns-clause-reported
returns-clause-reported g c =
    let f = g.C.Command.change in
    let s = c.args.self.now in
    let q = s.sequences.steps in
    let p = c.step_back.new.self in
    let none = c.if-is_open.ensures in
    let d = c.step_back.new.document in
    let within = c.requires.own.sound.turnable.within in
    let turned = turned_once_down f s.document q d p (omega arith) within c.step_back.ensures.reported in
    closed_shape f (AreTurned f q.entries.items (q.index - 1) s.document) s d p none turned
