use Rattle.std.proofs.Common.{arith}
use Rattle.std.proofs.lemmas.Grind.{common_steps}
use Rattle.link_tree.proofs.Edits.{remove-behind, get-behind}
use Rattle.link_tree.proofs.tree.Tree.+take.Goals as goal

pub returns-then-before-behind-clause-items : goal.returns-then-before-behind-clause-items
returns-then-before-behind-clause-items g t c = grind (arith, common_steps, remove-behind)

pub returns-then-before-behind-clause-taken : goal.returns-then-before-behind-clause-taken
returns-then-before-behind-clause-taken g t c = grind (arith, common_steps, get-behind)

pub returns-else-before-behind-clause-items : goal.returns-else-before-behind-clause-items
returns-else-before-behind-clause-items g t c = grind (arith, common_steps, remove-behind)

pub returns-else-before-behind-clause-taken : goal.returns-else-before-behind-clause-taken
returns-else-before-behind-clause-taken g t c = grind (arith, common_steps, get-behind)
