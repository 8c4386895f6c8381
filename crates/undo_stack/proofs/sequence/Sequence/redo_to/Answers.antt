use Rattle.std.proofs.Common.{◌≡◌, ℕ, ◌∙◌, arith, ap, length, max, min}
use Rattle.undo_stack.specs.Entries.{entry_change}
use Rattle.undo_stack.specs.Held.{history_at}
use Rattle.undo_stack.specs.Moving.{positioned}
use Rattle.undo_stack.proofs.Sequences.{length-steps}
use Rattle.undo_stack.proofs.sequence.Sequence.redo_to.Goals as goal

pub returns-clause-history : goal.returns-clause-history
returns-clause-history g c =
    let q = c.args.self.now in
    let old = history_at g.C.Command.change c.args.document.now q in
    let all = length-steps (entry_change g.C.Command.change) q.entries.items q.index c.args.document.now in
    let to : c.max-index.result ≡ max (min c.args.index (length old.steps)) q.index =
    omega (arith, all, c.len.ensures, c.min.ensures, c.max-index.ensures, q.entries.ok.0) in
    c.redo_up_to.ensures.history ∙ ap (λ (n : ℕ). positioned n old) to
