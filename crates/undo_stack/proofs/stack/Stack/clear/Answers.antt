use Rattle.undo_stack.proofs.Views.{cleared_view}
use Rattle.undo_stack.proofs.stack.Stack.clear.Goals as goal

pub returns-clause-step : goal.returns-clause-step
returns-clause-step g c =
    let s = c.args.self.now in
    let within = c.requires.own.sound.turnable.within in
    let e = c.clear.ensures in
    cleared_view g.C.Command.change s c.clear.new.self c.clear-2.new.self.items within e.entries e.index e.clean e.limit c.clear-2.ensures.items
