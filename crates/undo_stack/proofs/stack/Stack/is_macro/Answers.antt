use Rattle.std.proofs.Common.{◌∙◌, Bool, Some, ap}
use Rattle.undo_stack.specs.Stacks.{nestings}
use Rattle.undo_stack.proofs.Nestings.{macro_at}
use Rattle.undo_stack.proofs.stack.Stack.is_macro.Goals as goal

pub returns-in-Some : goal.returns-in-Some
returns-in-Some g c =
    let s = c.args.self.now in
    let item = c.in-Some.ensures.item in
    ap (λ (b : Bool). Some b) c.is_macro.ensures
    ∙ macro_at (nestings s).levels s.sequences.steps.entries.items c.in-Some.entry.now c.args.at item.3.0 item.1
