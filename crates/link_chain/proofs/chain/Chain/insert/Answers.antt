use Rattle.std.proofs.Common.{◌++◌}
use Rattle.link_chain.proofs.Cuts.{insert-one}
use Rattle.link_chain.proofs.chain.Chain.insert.Goals as goal

pub returns : goal.returns
returns g c =
    let joined = rw c.unwrap.ensures at c.append.ensures.items in
    let i = c.self.inside in
    rw (← c.self.view_is) (insert-one (i.before ++ i.after) c.loose.inside.link _ _ c.args.at c.args.loose c.loose.view_is c.loose.invariant
    (rw c.seek.ensures.before at joined) c.seek.ensures.after)
