use Rattle.std.proofs.Common.{rules, arith}
use Rattle.std.proofs.lemmas.Grind.{common_steps}
use Rattle.link_tree.specs.Trees.{items}
use Rattle.link_tree.proofs.Changes.{given-before, given-at, given-behind}
use Rattle.link_tree.proofs.tree.Tree.+change_at.Goals as goal

pub returns-then-before-at-clause-changed : goal.returns-then-before-at-clause-changed
returns-then-before-at-clause-changed g t c =
    let k = c.in-Filled.link.value in
    given-behind g.F.FnOnce (items k.left) (items k.right) k.item c.args.at _ _ _ _ (items c.change_at.new.self)
    (search rules) (grind (arith, common_steps)) (grind (arith, common_steps)) (search rules)

pub returns-then-before-at-2-clause-changed : goal.returns-then-before-at-2-clause-changed
returns-then-before-at-2-clause-changed g t c =
    let k = c.in-Filled.link.value in
    given-at g.F.FnOnce (items k.left) (items k.right) k.item c.args.at _ _ _ _ c.change_item.new.item
    (search rules) (grind (arith, common_steps)) (search rules) (search rules)

pub returns-else-before-at-2-clause-changed : goal.returns-else-before-at-2-clause-changed
returns-else-before-at-2-clause-changed g t c =
    let k = c.in-Filled.link.value in
    given-before g.F.FnOnce (items k.left) (items k.right) k.item c.args.at _ _ _ _ (items c.change_at-else-before-at-2.new.self)
    (search rules) (grind (arith, common_steps)) (search rules) (search rules)
