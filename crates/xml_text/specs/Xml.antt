-- What a text says: elements and texts, without where they stand.
use Rattle.std.specs.Prelude.{ℕ, List, [], ◌∷◌, map, string_bytes}
use Rattle.xml_text.specs.declared.tree.Attribute.{Attribute}
use Rattle.xml_text.specs.declared.tree.Element.{Element}
use Rattle.xml_text.specs.declared.tree.Node.{Node}
use Rattle.xml_text.specs.declared.tree.Node.TheOpen.{Node-F, Element-F}
use Rattle.xml_text.specs.declared.tree.Node.TheFolds.{fold-Node, fold-Element}

mutual
  -- an element with its name, its attributes in their order, each a name and a value, and its children; or a text
  pub data Xml : Type 0 where
    element : List ℕ → List (List ℕ × List ℕ) → Children → Xml
    text : List ℕ → Xml

  pub data Children : Type 0 where
    no_children : Children
    child : Xml → Children → Children

abbrev pub children_of : List Xml → Children
children_of [] = no_children
children_of (x ∷ xs) = child x (children_of xs)

abbrev pub attribute_view : Attribute → List ℕ × List ℕ
attribute_view a = (string_bytes a.name, string_bytes a.value)

-- one level, with each child already seen
abbrev pub node_step : Node-F Xml Xml → Xml
node_step (Node-F.Element x) = x
node_step (Node-F.Text t) = text (string_bytes t.text)

abbrev pub element_step : Element-F Xml Xml → Xml
element_step e = element (string_bytes e.name) (map attribute_view e.attributes.items) (children_of e.children.items)

abbrev pub node_view : Node → Xml
node_view = fold-Node Xml Xml node_step element_step

abbrev pub view : Element → Xml
view = fold-Element Xml Xml node_step element_step
