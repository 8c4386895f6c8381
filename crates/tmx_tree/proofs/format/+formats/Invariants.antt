use Rattle.std.proofs.Common.{◌≡◌, map, drop}
use Rattle.xml_text.specs.Xml.{node_view, children_of}
use Rattle.tmx_tree.specs.Maps.{first_format}
use Rattle.tmx_tree.proofs.format.+formats.Given as goal

abbrev pub invariant-first_format-loop-node : goal.invariant-first_format-loop-node
invariant-first_format-loop-node l =
    first_format (children_of (map node_view (drop l.node-index l.node-items))) ≡ first_format (children_of (map node_view l.node-items))
