use Rattle.std.proofs.Common.{length}
use Rattle.link_tree.specs.Trees.{items}
use Rattle.link_tree.proofs.tree.Tree.+change_each.Given as goal

abbrev pub decreases-change_each : goal.decreases-change_each
decreases-change_each g l = length (items l.self.now)
