-- Properties of a map, a layer, an object, a tileset or a tile.
use Rattle.std.specs.Prelude.{ℕ, ℤ, pos, List, [], ◌∷◌, ◌++◌, ◌==◌, ◌||◌, ◌&&◌, map, Bool, true, false, not, nat_le, codes, length, drop, slice_index, Option}
use Rattle.std.specs.Prelude.{Some, None}
use Rattle.std.specs.Prelude.{unwrap_or, Result, Ok, Err, if◌then◌else◌}
use Rattle.std.specs.Char.{to_ascii_lowercase}
use Rattle.std.specs.List.{list_all}
use Rattle.std.specs.Str.{bytes_eq, trim}
use Rattle.serde_json.specs.Data.{Num, Data, boolean, number, string, array, object, Members, no_members, member, put}
use Rattle.serde_json.specs.View.{view, items_of, members_view}
use Rattle.json_members.specs.Members.{put_some}
use Rattle.xml_text.specs.Xml.{Xml, element, text, Children, no_children, child}
use Rattle.tmx_tree.specs.declared.fault.Refusal.{Refusal}
use Rattle.tmx_tree.specs.declared.fault.Refusal.TheVariants.{PropertyType}
use Rattle.tmx_tree.specs.declared.plain_value.Typed as code
use Rattle.tmx_tree.specs.declared.property.Class as code_class
use Rattle.tmx_tree.specs.declared.property.Property as code_property
use Rattle.tmx_tree.specs.Answers.{◌>>=◌}
use Rattle.tmx_tree.specs.Numbers.{whole_of, wrapped_of, real_of}
use Rattle.tmx_tree.specs.Rows.{whole_data, real_in}
use Rattle.tmx_tree.specs.Elements.{Attributes, attribute, is_named, attributes_of, kids_of, text_in}

-- the name under which stands what Tiled's JSON can't say
abbrev pub note_name : List ℕ
note_name = codes "roskevad_tmx"

-- the value of an attribute, an empty text where it is absent
abbrev pub text_at : List ℕ → Attributes → List ℕ
text_at k attrs = unwrap_or (attribute k attrs) []

-- a text that is not empty
abbrev pub unless_empty : List ℕ → Option Data
unless_empty s = if bytes_eq s [] then None else Some (string s)

-- ---- one value
-- its type as Tiled has it then, and itself
abbrev pub Typed : Type 0
Typed = List ℕ × Data

abbrev pub typed_of : code.Typed → Typed
typed_of v = (v.kind.now, view v.value)

abbrev pub as_text : List ℕ → Typed
as_text s = (codes "string", string s)

abbrev pub int_value : List ℕ → Option ℤ → Typed
int_value s None = as_text s
int_value s (Some z) = (codes "int", whole_data z)

abbrev pub float_value : List ℕ → Option Num → Typed
float_value s None = as_text s
float_value s (Some n) = (codes "float", number n)

abbrev pub is_false : List ℕ → Bool
is_false s = bytes_eq (map to_ascii_lowercase s) (codes "false")

abbrev pub float_read : List ℕ → Result Typed Refusal
float_read s = real_in (real_of s) >>= λ n. Ok (float_value s n)

abbrev pub object_value : Option ℤ → Typed
object_value o = (codes "object", whole_data (unwrap_or o (pos 0)))

abbrev pub is_true : List ℕ → Bool
is_true s = not (bytes_eq s [] || (bytes_eq s (codes "0") || is_false s))

abbrev pub is_hexadecimal : ℕ → Bool
is_hexadecimal c = (nat_le 48 c && nat_le c 57) || ((nat_le 65 c && nat_le c 70) || (nat_le 97 c && nat_le c 102))

-- `#` and six digits
abbrev pub is_without_alpha : List ℕ → Bool
is_without_alpha s = (length s == 7) && ((slice_index s 0 == 35) && (is_hexadecimal (slice_index s 1) && list_all is_hexadecimal (drop 2 s)))

-- a color of six digits gets its alpha
abbrev pub with_alpha : List ℕ → List ℕ
with_alpha s = if is_without_alpha s then codes "#ff" ++ drop 1 s else s

abbrev pub color_value : List ℕ → Typed
color_value s = if bytes_eq s [] then as_text s else (codes "color", string (with_alpha s))

-- the value of a type that is no class
abbrev pub plain_value : List ℕ → List ℕ → Result Typed Refusal
plain_value t s =
    if bytes_eq t [] || bytes_eq t (codes "string") then Ok (as_text s)
    else (if bytes_eq t (codes "int") then Ok (int_value s (wrapped_of s))
    else (if bytes_eq t (codes "float") then float_read s
    else (if bytes_eq t (codes "bool") then Ok (codes "bool", boolean (is_true s))
    else (if bytes_eq t (codes "color") then Ok (color_value s)
    else (if bytes_eq t (codes "file") then Ok (codes "file", string s)
    else (if bytes_eq t (codes "object") then Ok (object_value (whole_of s))
    else Err PropertyType))))))

-- ---- a property
abbrev pub is_blank : List ℕ → Bool
is_blank s = bytes_eq (trim s) []

-- the text of the value: of the attribute, else of the element if that is not blank
abbrev pub unless_blank : List ℕ → List ℕ
unless_blank s = if is_blank s then [] else s

abbrev pub text_or_inner : List ℕ → List ℕ → List ℕ
text_or_inner s inner = if bytes_eq s [] then unless_blank inner else s

abbrev pub value_text : Attributes → Children → List ℕ
value_text attrs kids = text_or_inner (text_at (codes "value") attrs) (text_in kids)

-- name, type, class and value
abbrev pub named_value : Attributes → Typed → Members
named_value attrs v =
    put (codes "name") (string (text_at (codes "name") attrs)) (put (codes "type") (string v.0)
    (put_some (codes "propertytype") (unless_empty (text_at (codes "propertytype") attrs)) (put (codes "value") v.1 no_members)))

abbrev pub are_none : Members → Bool
are_none no_members = true
are_none (member k d ms) = false

-- the members, with these under the name of notes, if there are any
abbrev pub with_note : Members → Members → Members
with_note notes ms = if are_none notes then ms else put note_name (object notes) ms

-- what is noted of a member of a class: its type, unless that is a text, its class, and what is noted of its own members
abbrev pub other_type : List ℕ → Option Data
other_type t = if bytes_eq t (codes "string") then None else Some (string t)

abbrev pub note_of_member : Attributes → List ℕ → Members → Members
note_of_member attrs t notes =
    with_note notes (put_some (codes "type") (other_type t) (put_some (codes "propertytype") (unless_empty (text_at (codes "propertytype") attrs)) no_members))

abbrev pub put_note_of : List ℕ → Members → Members → Members
put_note_of name own notes = if are_none own then notes else put name (object own) notes

-- the values of a class's members, and what is noted of them
abbrev pub Class : Type 0
Class = Members × Members

abbrev pub class_view : code_class.Class → Class
class_view c = (members_view c.values.entries, members_view c.notes.entries)

-- a property but for its name: its type, its value, and what is noted of its members
abbrev pub property_view : code_property.Property → Typed × Members
property_view p = (typed_of p.typed, members_view p.notes.entries)

abbrev pub with_class_member : Attributes → Typed × Members → Class → Class
with_class_member attrs v found =
    (put (text_at (codes "name") attrs) v.0.1 found.0, put_note_of (text_at (codes "name") attrs) (note_of_member attrs v.0.0 v.1) found.1)

-- the type and the value of a property of which this is read as a class, and what is noted of its members
abbrev pub value_in : Attributes → Children → Result Class Refusal → Result (Typed × Members) Refusal
value_in attrs kids as_class =
    if bytes_eq (text_at (codes "type") attrs) (codes "class") then (as_class >>= λ c. Ok ((codes "class", object c.0), c.1))
    else (plain_value (text_at (codes "type") attrs) (value_text attrs kids) >>= λ v. Ok (v, no_members))

abbrev mutual
  -- the members of a class: they stand in an element of their own
  pub class_in : Children → Class → Result Class Refusal
  class_in no_children found = Ok found
  class_in (child x xs) found = class_of x found >>= λ more. class_in xs more

  pub class_of : Xml → Class → Result Class Refusal
  class_of (element name attrs kids) found = if bytes_eq name (codes "properties") then class_members kids found else Ok found
  class_of (text s) found = Ok found

  pub class_members : Children → Class → Result Class Refusal
  class_members no_children found = Ok found
  class_members (child x xs) found = class_member x found >>= λ more. class_members xs more

  pub class_member : Xml → Class → Result Class Refusal
  class_member (element name attrs kids) found =
      if bytes_eq name (codes "property") then (value_in attrs kids (class_in kids (no_members, no_members)) >>= λ v. Ok (with_class_member attrs v found))
      else Ok found
  class_member (text s) found = Ok found

abbrev pub value_of : Xml → Result (Typed × Members) Refusal
value_of x = value_in (attributes_of x) (kids_of x) (class_in (kids_of x) (no_members, no_members))

-- a property, as an object
unfoldable pub property_of : Xml → Result Data Refusal
property_of x = value_of x >>= λ v. Ok (object (with_note v.1 (named_value (attributes_of x) v.0)))

-- ---- all of an owner
abbrev pub with_property_of : Xml → List Data → Result (List Data) Refusal
with_property_of x found = property_of x >>= λ d. Ok (found ++ d ∷ [])

abbrev pub with_property : Xml → List Data → Result (List Data) Refusal
with_property x found = if is_named (codes "property") x then with_property_of x found else Ok found

abbrev pub with_properties : Children → List Data → Result (List Data) Refusal
with_properties no_children found = Ok found
with_properties (child x xs) found = with_property x found >>= λ more. with_properties xs more

abbrev pub with_properties_of : Xml → List Data → Result (List Data) Refusal
with_properties_of x found = if is_named (codes "properties") x then with_properties (kids_of x) found else Ok found

-- the properties among the children of an owner, in the order of the file
abbrev pub properties_in : Children → List Data → Result (List Data) Refusal
properties_in no_children found = Ok found
properties_in (child x xs) found = with_properties_of x found >>= λ more. properties_in xs more

abbrev pub has_none : List Data → Bool
has_none [] = true
has_none (d ∷ ds) = false

abbrev pub unless_none : List Data → Option Data
unless_none ds = if has_none ds then None else Some (array (items_of ds))

-- an owner's members, with its properties if it has any
abbrev pub own_properties : Children → Members → Result Members Refusal
own_properties kids ms = properties_in kids [] >>= λ found. Ok (put_some (codes "properties") (unless_none found) ms)
