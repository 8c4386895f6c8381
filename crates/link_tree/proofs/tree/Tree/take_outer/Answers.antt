use Rattle.std.proofs.Common.{◌≡◌, arith}
use Rattle.std.proofs.lemmas.Grind.{common_steps}
use Rattle.link_tree.specs.declared.tree.Tree.TheVariants.{Empty}
use Rattle.link_tree.proofs.Alone.{is_empty}
use Rattle.link_tree.proofs.tree.Tree.take_outer.Goals as goal

pub returns-clause-alone : goal.returns-clause-alone
returns-clause-alone g c =
    let k = c.in-Filled.link.value in
    let none : k.left ≡ Empty = is_empty k.left (grind (arith, common_steps)) in
    grind (arith, common_steps, none)
