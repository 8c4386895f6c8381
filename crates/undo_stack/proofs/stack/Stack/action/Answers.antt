use Rattle.std.proofs.Common.{◌∙◌, ap, ℕ, List, Some, map}
use Rattle.undo_stack.specs.Stacks.{inner_of}
use Rattle.undo_stack.proofs.Actions.{action_at-entry}
use Rattle.undo_stack.proofs.stack.Stack.action.Goals as goal

pub returns-in-Some : goal.returns-in-Some
returns-in-Some g c =
    let s = c.args.self.now in
    let item = c.in-Some.ensures.item in
    ap (λ (t : List ℕ). Some t) c.action_text.ensures ∙ action_at-entry g.C.Command.change s.document s.sequences.steps.entries.items c.in-Some.entry.now
    s.sequences.steps.index c.args.at s.sequences.steps.clean s.sequences.steps.limit (map inner_of s.sequences.levels.items) item.3.0 item.1
