use Rattle.std.proofs.Common.{length}
use Rattle.link_tree.specs.Trees.{items}
use Rattle.link_tree.proofs.iter.+go_down.Given as goal

abbrev pub decreases-go_down : goal.decreases-go_down
decreases-go_down g l = length (items l.tree.now)
