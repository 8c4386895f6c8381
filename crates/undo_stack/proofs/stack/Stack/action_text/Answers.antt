use Rattle.std.proofs.Common.{◌∙◌}
use Rattle.undo_stack.proofs.Texts.{action_inside, action_past}
use Rattle.undo_stack.proofs.stack.Stack.action_text.Goals as goal

pub returns-in-Some : goal.returns-in-Some
returns-in-Some g c =
    let item = c.in-Some.ensures.item in
    c.action_text.ensures ∙ action_inside g.C.Command.change c.args.self.now c.args.number c.in-Some.entry.now item.3.0 item.1

pub returns-in-None : goal.returns-in-None
returns-in-None g c = action_past g.C.Command.change c.args.self.now c.args.number c.in-None.ensures.item.3
