use Rattle.std.proofs.Common.{◌≡◌, map, drop}
use Rattle.serde_json.specs.View.{members_view}
use Rattle.xml_text.specs.Xml.{node_view, children_of}
use Rattle.tmx_tree.specs.Objects.{with_parts}
use Rattle.tmx_tree.proofs.objects.put_parts.Given as goal

abbrev pub invariant-loop-node : goal.invariant-loop-node
invariant-loop-node l =
    with_parts (children_of (map node_view (drop l.node-index l.node-items))) (members_view l.members.entries)
    ≡ with_parts (children_of (map node_view l.node-items)) (members_view l.initial.members.entries)
