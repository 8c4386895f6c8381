use Rattle.std.proofs.Common.{refl}
use Rattle.undo_stack.proofs.Innermost.{marked_holds}
use Rattle.undo_stack.proofs.stack.Stack.reset_clean.Goals as goal

pub returns-clause-sound : goal.returns-clause-sound
returns-clause-sound g c = let h = c.requires.own.sound in marked_holds g.C.Command.change c.args.self.now _ refl refl refl tt h.limit h.count c.requires
