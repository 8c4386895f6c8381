use Rattle.std.proofs.Math.Facts.{to_z-of_z}
use Rattle.tmx_tree.specs.Layers.{object_group}
use Rattle.tmx_tree.proofs.layers.object_group.Goals as goal

pub returns : goal.returns
unfolding object_group
returns c = rw (to_z-of_z c.ranges.id) at c.layer_members.ensures
