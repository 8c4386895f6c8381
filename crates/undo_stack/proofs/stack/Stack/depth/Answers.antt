use Rattle.std.proofs.Common.{arith}
use Rattle.undo_stack.proofs.Views.{length-opens}
use Rattle.undo_stack.proofs.stack.Stack.depth.Goals as goal

pub returns : goal.returns
returns g c =
    let s = c.args.self.now in
    omega (arith, length-opens g.C.Command.change s.sequences.levels.items s.document, c.len.ensures, s.sequences.levels.ok.0)
