use Rattle.std.proofs.Common.{◌≡◌, map, drop}
use Rattle.serde_json.specs.View.{view}
use Rattle.xml_text.specs.Xml.{node_view, children_of}
use Rattle.tmx_tree.specs.Objects.{with_objects}
use Rattle.tmx_tree.proofs.objects.push_objects.Given as goal

abbrev pub invariant-loop-node : goal.invariant-loop-node
invariant-loop-node l =
    with_objects (children_of (map node_view (drop l.node-index l.node-items))) (map view l.found.items, l.next)
    ≡ with_objects (children_of (map node_view l.node-items)) (map view l.initial.found.items, l.initial.next)
