use Rattle.link_tree.proofs.Alone.{is_alone}
use Rattle.link_tree.proofs.link_tree.LinkTree.insert.Goals as goal

pub insert-requires-clause-alone : goal.insert-requires-clause-alone
insert-requires-clause-alone g c =
    let one = rw c.in-Filled.is at c.loose.invariant in is_alone c.in-Filled.link.value one.0 one.1.0 one.1.1.0
