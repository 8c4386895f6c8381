use Rattle.std.proofs.Common.{◌≡◌, map, drop}
use Rattle.xml_text.specs.Xml.{node_view, children_of}
use Rattle.tmx_tree.specs.Wangs.{has_old_set}
use Rattle.tmx_tree.proofs.wangs.has_old_set.Given as goal

abbrev pub invariant-loop-node : goal.invariant-loop-node
invariant-loop-node l =
    has_old_set (children_of (map node_view (drop l.node-index l.node-items))) ≡ has_old_set (children_of (map node_view l.node-items))
