use Rattle.std.proofs.Common.{length}
use Rattle.link_tree.specs.Trees.{items}
use Rattle.link_tree.proofs.iter.+before_first.Given as goal

abbrev pub decreases-before_first : goal.decreases-before_first
decreases-before_first g l = length (items l.tree.now)
