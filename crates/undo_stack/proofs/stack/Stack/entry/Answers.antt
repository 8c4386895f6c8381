use Rattle.std.proofs.Common.{◌+◌}
use Rattle.undo_stack.specs.Entries.{entry_change}
use Rattle.undo_stack.specs.History.{document_at}
use Rattle.undo_stack.specs.Sides.{StandsBetween}
use Rattle.undo_stack.specs.Stacks.{history}
use Rattle.undo_stack.proofs.Sides.{lent-at, own-between}
use Rattle.undo_stack.proofs.stack.Stack.entry.Goals as goal

pub returns-clause-between : goal.returns-clause-between
returns-clause-between g c = λ held.
    let f = g.C.Command.change in
    let s = c.args.self.now in
    let at = c.args.at in
    lent-at s.sequences.steps.entries.items at c.get.result
    (λ e. StandsBetween (entry_change f e) (document_at (history f s) at) (document_at (history f s) (at + 1))) c.get.ensures.item
    (λ e is. own-between f s at e is held)
