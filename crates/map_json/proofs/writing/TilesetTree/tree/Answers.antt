use Rattle.std.proofs.Common.{refl}
use Rattle.map_json.specs.Trees.{tileset_tree}
use Rattle.map_json.proofs.writing.TilesetTree.tree.Goals as goal

pub returns : goal.returns
unfolding tileset_tree
returns c =
    rw (
      c.into_value.ensures,
      c.in_ok-put.ensures,
      c.from.ensures,
      c.in_ok-put_some.ensures,
      c.in_ok-optional_text_tree.ensures,
      c.in_ok-members.ensures,
    ) refl
