use Rattle.std.proofs.Common.{◌≤◌, ◌-◌, length, map}
use denote.Text.{Utf8}
use denote.Shadow.{shadow}
use Rattle.xml_text.specs.Xml.{attribute_view}
use Rattle.xml_text.specs.Places.{AttributesBetween, attribute_place}
use Rattle.xml_text.specs.Reading.{attribute_turn, attributes}
use Rattle.xml_text.proofs.Loops.{Goes}
use Rattle.xml_text.proofs.tags.attributes.Given as goal

abbrev pub invariant-loop-found : goal.invariant-loop-found
invariant-loop-found l = record {
  utf8 : shadow (Utf8 l.rest);
  shorter : length l.rest ≤ length l.fn.text;
  goes : Goes attribute_turn (length l.rest) (map attribute_view l.found.items, l.rest) (attributes l.fn.text);
  places : AttributesBetween (l.whole - length l.fn.text) (l.whole - length l.rest) (map attribute_place l.found.items);
}

abbrev pub decreases-loop-found : goal.decreases-loop-found
decreases-loop-found l = length l.rest
