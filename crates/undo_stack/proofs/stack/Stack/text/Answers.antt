use Rattle.std.proofs.Common.{◌∙◌, ap, ℕ, List, Some}
use Rattle.undo_stack.proofs.Texts.{text_some}
use Rattle.undo_stack.proofs.stack.Stack.text.Goals as goal

pub returns-in-Some : goal.returns-in-Some
returns-in-Some g c =
    let item = c.in-Some.ensures.item in
    ap (λ (t : List ℕ). Some t) c.text.ensures ∙ text_some g.C.Command.change c.args.self.now c.args.at c.in-Some.entry.now item.3.0 item.1
