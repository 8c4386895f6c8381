use Rattle.undo_stack.proofs.Views.{redo_text_of-open}
use Rattle.undo_stack.proofs.stack.Stack.redo_text.Goals as goal

pub returns-then-is_open : goal.returns-then-is_open
returns-then-is_open g c = redo_text_of-open g.C.Command.change c.args.self.now c.if-is_open.ensures
