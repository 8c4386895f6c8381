use Rattle.std.proofs.Common.{◌≤◌, ◌+◌, ◌*◌, ◌-◌, length, map}
use denote.Text.{Utf8}
use denote.Shadow.{shadow}
use Rattle.xml_text.specs.Xml.{node_view}
use Rattle.xml_text.specs.Places.{ArePlaced, places_of, node_place}
use Rattle.xml_text.specs.Reading.{node_turn, nodes, element_of}
use Rattle.xml_text.proofs.Loops.{Goes}
use Rattle.xml_text.proofs.nodes.+elements.Given as goal

abbrev pub decreases-element : goal.decreases-element
decreases-element l = 4 * l.levels

abbrev pub decreases-element_by : goal.decreases-element_by
decreases-element_by l = 4 * l.levels + 3

abbrev pub decreases-node_turn : goal.decreases-node_turn
decreases-node_turn l = 4 * l.levels + 1

abbrev pub decreases-nodes : goal.decreases-nodes
decreases-nodes l = 4 * l.levels + 2

abbrev pub invariant-nodes-loop-children : goal.invariant-nodes-loop-children
invariant-nodes-loop-children l = record {
  utf8 : shadow (Utf8 l.rest);
  shorter : length l.rest ≤ length l.fn.bytes;
  goes : Goes (node_turn (element_of l.levels)) (length l.rest) (map node_view l.children.items, l.rest) (nodes (element_of l.levels) l.fn.bytes);
  places : ArePlaced (l.whole - length l.fn.bytes) (l.whole - length l.rest) (places_of (map node_place l.children.items));
}

abbrev pub decreases-nodes-loop-children : goal.decreases-nodes-loop-children
decreases-nodes-loop-children l = length l.rest
