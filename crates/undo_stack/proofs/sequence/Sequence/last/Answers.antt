use Rattle.undo_stack.proofs.Sides.{lent-below}
use Rattle.undo_stack.proofs.sequence.Sequence.last.Goals as goal

pub returns : goal.returns
returns g c = lent-below c.args.self.now.entries.items c.args.self.now.index c.get.result (λ none. c.if-self-eq0.false none) c.get.ensures.item
