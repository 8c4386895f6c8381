use Rattle.std.proofs.Common.{◌≡◌, map, drop}
use Rattle.xml_text.specs.Xml.{node_view, children_of}
use Rattle.tmx_tree.specs.Elements.{first_named}
use Rattle.tmx_tree.proofs.element.first_named.Given as goal

abbrev pub invariant-loop-node : goal.invariant-loop-node
invariant-loop-node l =
    first_named l.name (children_of (map node_view (drop l.node-index l.node-items))) ≡ first_named l.name (children_of (map node_view l.node-items))
