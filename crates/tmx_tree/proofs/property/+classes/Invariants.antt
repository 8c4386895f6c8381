use Rattle.std.proofs.Common.{◌≡◌, map, drop}
use Rattle.xml_text.specs.Xml.{node_view, children_of}
use Rattle.tmx_tree.specs.Properties.{class_in, class_members, class_view}
use Rattle.tmx_tree.proofs.property.+classes.Given as goal

abbrev pub invariant-class_in-loop-node : goal.invariant-class_in-loop-node
invariant-class_in-loop-node l =
    class_in (children_of (map node_view (drop l.node-index l.node-items))) (class_view l.found)
    ≡ class_in (children_of (map node_view l.node-items)) (class_view l.initial.found)

abbrev pub invariant-class_members-loop-node : goal.invariant-class_members-loop-node
invariant-class_members-loop-node l =
    class_members (children_of (map node_view (drop l.node-index l.node-items))) (class_view l.found)
    ≡ class_members (children_of (map node_view l.node-items)) (class_view l.initial.found)
