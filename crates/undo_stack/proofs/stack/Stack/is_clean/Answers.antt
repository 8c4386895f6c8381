use Rattle.undo_stack.proofs.Views.{is_clean-open}
use Rattle.undo_stack.proofs.stack.Stack.is_clean.Goals as goal

pub returns-then-is_open : goal.returns-then-is_open
returns-then-is_open g c = is_clean-open g.C.Command.change c.args.self.now c.if-is_open.ensures
