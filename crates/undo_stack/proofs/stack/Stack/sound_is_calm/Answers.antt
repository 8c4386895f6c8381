use Rattle.undo_stack.proofs.Innermost.{Holds-IsCalm}
use Rattle.undo_stack.proofs.stack.Stack.sound_is_calm.Goals as goal

pub returns : goal.returns
returns g c = Holds-IsCalm g.C.Command.change c.args.self.now c.requires
