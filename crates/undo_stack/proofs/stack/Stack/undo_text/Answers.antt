use Rattle.undo_stack.proofs.Views.{undo_text_of-open}
use Rattle.undo_stack.proofs.stack.Stack.undo_text.Goals as goal

pub returns-then-is_open : goal.returns-then-is_open
returns-then-is_open g c = undo_text_of-open g.C.Command.change c.args.self.now c.if-is_open.ensures
