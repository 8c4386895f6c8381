use Rattle.std.proofs.Common.{refl, Ok}
use Rattle.undo_stack.proofs.Views.{outside-open}
use Rattle.undo_stack.proofs.stack.Stack.set_clean.Goals as goal

pub returns-then-is_open-clause-step : goal.returns-then-is_open-clause-step
returns-then-is_open-clause-step g c =
    record { answered = outside-open g.C.Command.change c.args.self.now c.if-is_open.ensures (Ok tt); leads = refl }
