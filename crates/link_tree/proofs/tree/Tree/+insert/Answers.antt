use Rattle.std.proofs.Common.{arith}
use Rattle.std.proofs.lemmas.Grind.{common_steps}
use Rattle.link_tree.proofs.Edits.{insert-behind}
use Rattle.link_tree.proofs.tree.Tree.+insert.Goals as goal

pub returns-then-behind-before-clause-items : goal.returns-then-behind-before-clause-items
returns-then-behind-before-clause-items g t c = grind (arith, common_steps, insert-behind)

pub returns-else-behind-before-clause-items : goal.returns-else-behind-before-clause-items
returns-else-behind-before-clause-items g t c = grind (arith, common_steps, insert-behind)
