use Rattle.std.proofs.Common.{arith}
use Rattle.undo_stack.proofs.Views.{count-open, count-closed}
use Rattle.undo_stack.proofs.stack.Stack.count.Goals as goal

pub returns-then-is_open : goal.returns-then-is_open
returns-then-is_open g c =
    let s = c.args.self.now in
    omega (arith, count-open g.C.Command.change s c.if-is_open.ensures, c.len.ensures, s.sequences.steps.entries.ok.0)

pub returns : goal.returns
returns g c =
    let s = c.args.self.now in
    omega (arith, count-closed g.C.Command.change s c.if-is_open.ensures, c.len-2.ensures, s.sequences.steps.entries.ok.0)
