use Rattle.std.proofs.Common.{◌≡◌, ◌++◌, map, drop, string_bytes}
use Rattle.xml_text.specs.Xml.{node_view, children_of}
use Rattle.tmx_tree.specs.Elements.{text_in}
use Rattle.tmx_tree.proofs.element.text_in.Given as goal

abbrev pub invariant-loop-node : goal.invariant-loop-node
invariant-loop-node l =
    string_bytes l.text ++ text_in (children_of (map node_view (drop l.node-index l.node-items))) ≡ text_in (children_of (map node_view l.node-items))
