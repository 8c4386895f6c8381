use Rattle.std.proofs.Common.{◌≡◌, map, drop}
use Rattle.xml_text.specs.Xml.{node_view, children_of}
use Rattle.tmx_tree.specs.Layers.{with_chunks, chunks_view}
use Rattle.tmx_tree.proofs.tile_layer.push_chunks.Given as goal

abbrev pub invariant-loop-node : goal.invariant-loop-node
invariant-loop-node l =
    with_chunks l.form (children_of (map node_view (drop l.node-index l.node-items))) (chunks_view l.chunks)
    ≡ with_chunks l.form (children_of (map node_view l.node-items)) (chunks_view l.initial.chunks)
