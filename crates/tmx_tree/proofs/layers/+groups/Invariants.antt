use Rattle.std.proofs.Common.{◌≡◌, map, drop}
use Rattle.xml_text.specs.Xml.{node_view, children_of}
use Rattle.tmx_tree.specs.Layers.{with_layers, layers_view}
use Rattle.tmx_tree.proofs.layers.+groups.Given as goal

abbrev pub invariant-find_layers-loop-node : goal.invariant-find_layers-loop-node
invariant-find_layers-loop-node l =
    with_layers l.infinite (children_of (map node_view (drop l.node-index l.node-items))) (layers_view l.layers)
    ≡ with_layers l.infinite (children_of (map node_view l.node-items)) (layers_view l.initial.layers)
