use Rattle.std.proofs.Common.{◌≡◌, map, drop}
use Rattle.xml_text.specs.Xml.{attribute_view}
use Rattle.tmx_tree.specs.Elements.{attribute}
use Rattle.tmx_tree.proofs.element.attribute_value.Given as goal

abbrev pub invariant-loop-attribute : goal.invariant-loop-attribute
invariant-loop-attribute l =
    attribute l.name (map attribute_view (drop l.attribute-index l.attribute-items)) ≡ attribute l.name (map attribute_view l.attribute-items)
