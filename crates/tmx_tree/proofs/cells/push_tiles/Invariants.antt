use Rattle.std.proofs.Common.{◌≡◌, map, drop}
use Rattle.serde_json.specs.View.{view}
use Rattle.xml_text.specs.Xml.{node_view, children_of}
use Rattle.tmx_tree.specs.Cells.{with_tiles}
use Rattle.tmx_tree.proofs.cells.push_tiles.Given as goal

abbrev pub invariant-loop-node : goal.invariant-loop-node
invariant-loop-node l =
    with_tiles (children_of (map node_view (drop l.node-index l.node-items))) (map view l.found.items)
    ≡ with_tiles (children_of (map node_view l.node-items)) (map view l.initial.found.items)
