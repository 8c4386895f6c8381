use Rattle.std.proofs.Common.{arith, ℕ, List, Some, ap, ◌∙◌}
use Rattle.undo_stack.proofs.Texts.{text_past, text_first, text_unopened}
use Rattle.undo_stack.proofs.stack.Stack.open_text.Goals as goal

pub returns-then-at-len : goal.returns-then-at-len
returns-then-at-len g c =
    let s = c.args.self.now in
    text_past g.C.Command.change s c.args.at (omega (arith, c.requires, c.len.ensures, s.sequences.steps.entries.ok.0))

pub returns-in-Some : goal.returns-in-Some
returns-in-Some g c =
    let s = c.args.self.now in
    let first = rw c.deref.ensures.value at c.in-Some.ensures.value in
    ap (λ (t : List ℕ). Some t) c.text.ensures
    ∙ text_first g.C.Command.change s c.args.at c.in-Some.level.now first (omega (arith, c.len.ensures, s.sequences.steps.entries.ok.0))

pub returns-in-None : goal.returns-in-None
returns-in-None g c = text_unopened g.C.Command.change c.args.self.now c.args.at (rw c.deref.ensures.value at c.in-None.ensures.value) c.requires
