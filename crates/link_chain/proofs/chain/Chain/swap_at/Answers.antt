use Rattle.link_chain.proofs.Cuts.{set-at_cut}
use Rattle.link_chain.proofs.chain.Chain.swap_at.Goals as goal

pub returns-clause-held : goal.returns-clause-held
returns-clause-held g c =
    rw (c.seek.ensures.before, c.seek.ensures.after, c.self.view_is, c.swap.ensures.x_after) (set-at_cut _ _ _ c.requires)
