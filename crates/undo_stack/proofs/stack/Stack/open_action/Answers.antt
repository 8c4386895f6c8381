use Rattle.std.proofs.Common.{arith, ◌<◌, ℕ, List, Some, length, map, ap, ◌∙◌}
use Rattle.undo_stack.specs.Stacks.{inner_of}
use Rattle.undo_stack.proofs.Actions.{action_at-past, action_at-open, action_at-unopened}
use Rattle.undo_stack.proofs.stack.Stack.open_action.Goals as goal

pub returns-then-at-len : goal.returns-then-at-len
returns-then-at-len g c =
    let s = c.args.self.now in
    let past : length s.sequences.steps.entries.items < c.args.at = omega (arith, c.requires, c.len.ensures, s.sequences.steps.entries.ok.0) in
    action_at-past g.C.Command.change s.document s.sequences.steps.entries.items s.sequences.steps.index c.args.at s.sequences.steps.clean
    s.sequences.steps.limit (map inner_of s.sequences.levels.items) past

pub returns-in-Some : goal.returns-in-Some
returns-in-Some g c =
    let s = c.args.self.now in
    let first = rw c.deref.ensures.value at c.in-Some.ensures.value in
    ap (λ (t : List ℕ). Some t) c.action.ensures ∙ action_at-open g.C.Command.change s.document s.sequences.steps.entries.items s.sequences.steps.index
    c.args.at s.sequences.steps.clean s.sequences.steps.limit s.sequences.levels.items c.in-Some.level.now first
    (omega (arith, c.len.ensures, s.sequences.steps.entries.ok.0))

pub returns-in-None : goal.returns-in-None
returns-in-None g c =
    let s = c.args.self.now in
    let none = rw c.deref.ensures.value at c.in-None.ensures.value in
    action_at-unopened g.C.Command.change s.document s.sequences.steps.entries.items s.sequences.steps.index c.args.at s.sequences.steps.clean
    s.sequences.steps.limit s.sequences.levels.items none c.requires
