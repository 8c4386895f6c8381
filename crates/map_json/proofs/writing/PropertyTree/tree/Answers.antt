use Rattle.std.proofs.Common.{refl}
use Rattle.map_json.specs.Trees.{property_tree}
use Rattle.map_json.proofs.writing.PropertyTree.tree.Goals as goal

pub returns : goal.returns
unfolding property_tree
returns c =
    rw (
      c.into_value.ensures,
      c.in_ok-put_property.ensures,
      c.in_ok-members.ensures,
    ) refl
