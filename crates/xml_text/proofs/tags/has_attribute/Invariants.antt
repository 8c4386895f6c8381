use Rattle.std.proofs.Common.{◌≡◌, map, drop}
use Rattle.xml_text.specs.Xml.{attribute_view}
use Rattle.xml_text.specs.Reading.{has_name}
use Rattle.xml_text.proofs.tags.has_attribute.Given as goal

abbrev pub invariant-loop-attribute : goal.invariant-loop-attribute
invariant-loop-attribute l =
    has_name l.key (map attribute_view (drop l.attribute-index l.attribute-items)) ≡ has_name l.key (map attribute_view l.attribute-items)
