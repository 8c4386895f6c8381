use Rattle.std.proofs.Common.{sym, ◌∙◌, arith}
use Rattle.link_tree.specs.Trees.{items}
use Rattle.link_tree.specs.Waiting.{waiting}
use Rattle.link_tree.proofs.Waits.{deep-step, deep-last}
use Rattle.link_tree.proofs.iter.IterIterator.next.Goals as goal

pub returns-then-left-gt1-clause-steps : goal.returns-then-left-gt1-clause-steps
returns-then-left-gt1-clause-steps g c =
    let i = c.self.inside in
    sym c.self.view_is
    ∙ deep-step i.next.now (items i.deep.now) i.left c.from_end-item.result.now (waiting i.waits i.depth)
    c.in-Empty.is (omega (arith, c.if-left-gt1.true)) c.self.invariant.1.1.1.0 c.from_end-item.ensures

pub returns-else-left-gt1-clause-steps : goal.returns-else-left-gt1-clause-steps
returns-else-left-gt1-clause-steps g c =
    let i = c.self.inside in
    let after = c.last_waiting-self-inside in
    sym c.self.view_is
    ∙ deep-last i.next.now after.result.now (items i.deep.now) i.left c.from_end-item.result.now (waiting i.waits i.depth) (waiting i.waits after.new.depth)
    c.in-Empty.is (omega (arith, c.if-left-eq0.false)) c.if-left-gt1.false c.self.invariant.1.1.1.0 c.from_end-item.ensures after.ensures.items
