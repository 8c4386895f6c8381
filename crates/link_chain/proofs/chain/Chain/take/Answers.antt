use Rattle.std.proofs.Common.{◌∙◌, sym}
use Rattle.link_chain.proofs.Cuts.{get-at_cut, get-first, remove-fits, remove-is}
use Rattle.link_chain.proofs.chain.Chain.take.Goals as goal

pub invariant_of-self : goal.invariant_of-self
invariant_of-self g c =
    let tail = rw c.unwrap-link.ensures at c.split_off.ensures.tail in
    let i = c.self.inside in
    remove-fits i.before i.after _ _ _ _ c.seek.ensures.before c.seek.ensures.after (c.swap.ensures.x_after ∙ tail) c.self.invariant

pub returns-clause-item : goal.returns-clause-item
returns-clause-item g c =
    let front = rw c.unwrap-link.ensures at c.split_off.ensures.items in
    rw (c.swap.ensures.y_after, front, c.seek.ensures.after, c.self.view_is) (sym (get-at_cut c.args.self.now c.args.at ∙ get-first _))

pub returns-clause-rest : goal.returns-clause-rest
returns-clause-rest g c =
    let tail = rw c.unwrap-link.ensures at c.split_off.ensures.tail in
    let i = c.self.inside in
    rw (← c.self.view_is) (remove-is i.before i.after _ _ _ _ c.seek.ensures.before c.seek.ensures.after (c.swap.ensures.x_after ∙ tail))
