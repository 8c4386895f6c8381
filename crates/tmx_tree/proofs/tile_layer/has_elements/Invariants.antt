use Rattle.std.proofs.Common.{◌≡◌, map, drop}
use Rattle.xml_text.specs.Xml.{node_view, children_of}
use Rattle.tmx_tree.specs.Layers.{has_elements}
use Rattle.tmx_tree.proofs.tile_layer.has_elements.Given as goal

abbrev pub invariant-loop-node : goal.invariant-loop-node
invariant-loop-node l =
    has_elements (children_of (map node_view (drop l.node-index l.node-items))) ≡ has_elements (children_of (map node_view l.node-items))
