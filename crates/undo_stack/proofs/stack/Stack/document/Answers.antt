use Rattle.std.proofs.Common.{sym}
use Rattle.undo_stack.specs.Stacks.{inners}
use Rattle.undo_stack.proofs.Views.{current-history_in}
use Rattle.undo_stack.proofs.stack.Stack.document.Goals as goal

pub returns : goal.returns
returns g c =
    let s = c.args.self.now in
    sym (current-history_in (inners s) g.C.Command.change s.document s.sequences.steps c.requires.own.sound.turnable.within)
