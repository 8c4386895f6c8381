-- Where elements stand in a text.
use Rattle.std.specs.Prelude.{ℕ, ◌≤◌, List, [], ◌∷◌, map, length}
use Rattle.xml_text.specs.declared.tree.Span.{Span}
use Rattle.xml_text.specs.declared.tree.Attribute.{Attribute}
use Rattle.xml_text.specs.declared.tree.Element.{Element}
use Rattle.xml_text.specs.declared.tree.Node.{Node}
use Rattle.xml_text.specs.declared.tree.Node.TheOpen.{Node-F, Element-F}
use Rattle.xml_text.specs.declared.tree.Node.TheFolds.{fold-Node, fold-Element}

mutual
  -- where an element stands, what is between its tags, its attributes, each with what is between its quotes, and its children; or where
  -- a text stands
  pub data Place : Type 0 where
    element_place : Span → Span → List (Span × Span) → Places → Place
    text_place : Span → Place

  pub data Places : Type 0 where
    no_places : Places
    place : Place → Places → Places

abbrev pub places_of : List Place → Places
places_of [] = no_places
places_of (p ∷ ps) = place p (places_of ps)

abbrev pub attribute_place : Attribute → Span × Span
attribute_place a = (a.span, a.value_span)

abbrev pub node_step : Node-F Place Place → Place
node_step (Node-F.Element p) = p
node_step (Node-F.Text t) = text_place t.span

abbrev pub element_step : Element-F Place Place → Place
element_step e = element_place e.span e.content (map attribute_place e.attributes.items) (places_of e.children.items)

abbrev pub node_place : Node → Place
node_place = fold-Node Place Place node_step element_step

abbrev pub place_of : Element → Place
place_of = fold-Element Place Place node_step element_step

-- a stretch lies between two places of the text
abbrev pub IsBetween : ℕ → ℕ → Span → Type 0
IsBetween low high s = (low ≤ s.from) × (s.from ≤ s.end) × (s.end ≤ high)

-- attributes stand between two places, one behind the other, each with its value within it
abbrev pub AttributesBetween : ℕ → ℕ → List (Span × Span) → Type 0
AttributesBetween low high [] = low ≤ high
AttributesBetween low high (a ∷ rest) = IsBetween low high a.0 × IsBetween a.0.from a.0.end a.1 × AttributesBetween a.0.end high rest

abbrev pub end_of : Place → ℕ
end_of (element_place span content attributes children) = span.end
end_of (text_place span) = span.end

-- An element stands between two places, and all of it within its own stretch: its attributes before its content, its children in it, one
-- behind the other.
abbrev mutual
  pub IsPlaced : ℕ → ℕ → Place → Type 0
  IsPlaced low high (element_place span content attributes children) =
      IsBetween low high span × IsBetween span.from span.end content
      × AttributesBetween span.from content.from attributes × ArePlaced content.from content.end children
  IsPlaced low high (text_place span) = IsBetween low high span

  pub ArePlaced : ℕ → ℕ → Places → Type 0
  ArePlaced low high no_places = low ≤ high
  ArePlaced low high (place p ps) = IsPlaced low high p × ArePlaced (end_of p) high ps

-- all of an element stands within a text
abbrev pub IsWithin : List ℕ → Element → Type 0
IsWithin bytes e = IsPlaced 0 (length bytes) (place_of e)
