use Rattle.std.proofs.Common.{arith, sym, refl, Ok}
use Rattle.undo_stack.specs.Entries.{entry_change}
use Rattle.undo_stack.specs.Held.{history_at}
use Rattle.undo_stack.specs.Turning.{TurnsTo}
use Rattle.undo_stack.specs.Reporting.{AreTurned}
use Rattle.undo_stack.proofs.Innermost.{closed_shape, closed_step}
use Rattle.undo_stack.proofs.Sequences.{length-steps}
use Rattle.undo_stack.proofs.Turnings.{turned_to}
use Rattle.undo_stack.proofs.Views.{outside-closed, outside-open}
use Rattle.undo_stack.proofs.stack.Stack.set_index.Goals as goal

pub returns-then-is_open-clause-step : goal.returns-then-is_open-clause-step
returns-then-is_open-clause-step g c =
    record { answered = outside-open g.C.Command.change c.args.self.now c.if-is_open.ensures (Ok tt); leads = refl }

pub returns-else-self-clause-step : goal.returns-else-self-clause-step
returns-else-self-clause-step g c =
    let f = g.C.Command.change in
    let s = c.args.self.now in
    let q = s.sequences.steps in
    let none = c.if-is_open.ensures in
    let d = c.turn_to.new.document in
    let p = c.turn_to.new.self in
    let all = length-steps (entry_change f) q.entries.items q.index s.document in
    let within = c.requires.own.sound.turnable.within in
    let turned = turned_to c.args.index (history_at f s.document q) (history_at f d p) (omega (arith, all, within)) c.turn_to.ensures.history in
    record {
      answered = sym (outside-closed f s none (Ok tt));
      leads = closed_step f (TurnsTo c.args.index) s d p none turned;
    }

pub returns-then-self-clause-reported : goal.returns-then-self-clause-reported
returns-then-self-clause-reported g c =
    let f = g.C.Command.change in
    let s = c.args.self.now in
    let turned = AreTurned f s.sequences.steps.entries.items c.args.index s.document in
    closed_shape f turned s c.step_to.new.document c.step_to.new.self c.if-is_open.ensures c.step_to.ensures.reported

pub returns-else-self-clause-reported : goal.returns-else-self-clause-reported
returns-else-self-clause-reported g c =
    let f = g.C.Command.change in
    let s = c.args.self.now in
    let turned = AreTurned f s.sequences.steps.entries.items c.args.index s.document in
    closed_shape f turned s c.turn_to.new.document c.turn_to.new.self c.if-is_open.ensures c.turn_to.ensures.reported
