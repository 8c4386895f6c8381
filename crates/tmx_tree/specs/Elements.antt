-- Attributes and children of an element.
use Rattle.std.specs.Prelude.{ℕ, List, [], ◌∷◌, ◌++◌, Option, Some, None, Bool, false, if◌then◌else◌}
use Rattle.std.specs.Str.{bytes_eq}
use Rattle.xml_text.specs.Xml.{Xml, element, text, Children, no_children, child}

-- the attributes of an element in their order, each a name and a value
abbrev pub Attributes : Type 0
Attributes = List (List ℕ × List ℕ)

-- the value of an attribute
abbrev pub attribute : List ℕ → Attributes → Option (List ℕ)
attribute k [] = None
attribute k (a ∷ more) = if bytes_eq a.0 k then Some a.1 else attribute k more

-- the attributes of an element, and its children; a text has none
abbrev pub attributes_of : Xml → Attributes
attributes_of (element name attrs kids) = attrs
attributes_of (text s) = []

abbrev pub kids_of : Xml → Children
kids_of (element name attrs kids) = kids
kids_of (text s) = no_children

abbrev pub name_of : Xml → List ℕ
name_of (element name attrs kids) = name
name_of (text s) = []

-- whether it is an element of this name
abbrev pub is_named : List ℕ → Xml → Bool
is_named k (element name attrs kids) = bytes_eq name k
is_named k (text s) = false

-- the first element of a name among children
abbrev pub first_named : List ℕ → Children → Option Xml
first_named k no_children = None
first_named k (child x xs) = if is_named k x then Some x else first_named k xs

-- the text among children, but for that of elements
abbrev pub own_text : Xml → List ℕ
own_text (element name attrs kids) = []
own_text (text s) = s

abbrev pub text_in : Children → List ℕ
text_in no_children = []
text_in (child x xs) = own_text x ++ text_in xs
