use Rattle.std.proofs.Common.{◌+◌, ◌<◌, arith, sym, refl, length, nat_lt, Ok, Err}
use Rattle.std.specs.Prelude.{if◌then◌else◌}
use Rattle.undo_stack.specs.Reporting.{AreTurned}
use Rattle.undo_stack.specs.Stacks.{history}
use Rattle.undo_stack.specs.Turning.{TurnsOn}
use Rattle.refusals.specs.declared.stack_fault.StackFault.TheVariants.{NothingToRedo}
use Rattle.undo_stack.proofs.Innermost.{closed_shape, closed_step}
use Rattle.undo_stack.proofs.Reported.{turned_once_up}
use Rattle.undo_stack.proofs.Views.{outside-open, redo-accepted, redo-refused, step_above}
use Rattle.undo_stack.proofs.stack.Stack.redo.Goals as goal

pub returns-then-self-len-clause-step : goal.returns-then-self-len-clause-step
returns-then-self-len-clause-step g c =
    let s = c.args.self.now in
    record {
      answered = sym (redo-refused g.C.Command.change s c.if-is_open.ensures (omega (arith, s.sequences.steps.entries.ok.0)));
      leads = refl;
    }

pub returns-then-is_open-clause-step : goal.returns-then-is_open-clause-step
returns-then-is_open-clause-step g c =
    let f = g.C.Command.change in
    let s = c.args.self.now in
    let h = history f s in
    record {
      answered = outside-open f s c.if-is_open.ensures (if nat_lt h.position (length h.steps) then Ok tt else Err NothingToRedo);
      leads = refl;
    }

pub step_on-requires-clause-above : goal.step_on-requires-clause-above
step_on-requires-clause-above g c =
    let s = c.args.self.now in
    let q = s.sequences.steps in
    step_above g.C.Command.change s.document q (omega (arith, c.requires.own.sound.turnable.within, q.entries.ok.0))

pub returns-clause-step : goal.returns-clause-step
returns-clause-step g c =
    let f = g.C.Command.change in
    let s = c.args.self.now in
    let none = c.if-is_open.ensures in
    record {
      answered = sym (redo-accepted f s none (omega (arith, c.requires.own.sound.turnable.within, s.sequences.steps.entries.ok.0)));
      leads = closed_step f TurnsOn s c.step_on.new.document c.step_on.new.self none c.step_on.ensures.turned;
    }

pub returns-clause-reported : goal.returns-clause-reported
returns-clause-reported g c =
    let f = g.C.Command.change in
    let s = c.args.self.now in
    let q = s.sequences.steps in
    let p = c.step_on.new.self in
    let none = c.if-is_open.ensures in
    let d = c.step_on.new.document in
    let inside : q.index < length q.entries.items = omega (arith, c.requires.own.sound.turnable.within, q.entries.ok.0) in
    let turned = turned_once_up f s.document q d p inside c.step_on.ensures.reported in
    closed_shape f (AreTurned f q.entries.items (q.index + 1) s.document) s d p none turned
