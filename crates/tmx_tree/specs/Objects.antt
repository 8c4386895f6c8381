-- Objects, and the ids of objects and layers.
use Rattle.std.specs.Prelude.{ℕ, ◌+◌, ◌^◌, max, ℤ, pos, negsuc, List, [], ◌∷◌, ◌++◌, ◌&&◌, ◌||◌, not, Bool, true, nat_lt, codes, Option, Some, None}
use Rattle.std.specs.Prelude.{option_and_then}
use Rattle.std.specs.Prelude.{unwrap_or, Result, Ok, Err, if◌then◌else◌}
use Rattle.std.specs.Str.{bytes_eq}
use Rattle.serde_json.specs.Data.{Num, unsigned, Data, boolean, number, string, object, Members, no_members, put}
use Rattle.serde_json.specs.Find.{as_integer, to_float}
use Rattle.std.specs.Float.{binary64}
use Rattle.std.specs.Float.Ieee.{of_int, lt}
use Rattle.json_members.specs.Members.{put_some}
use Rattle.xml_text.specs.Xml.{Xml, Children, no_children, child}
use Rattle.tmx_tree.specs.declared.fault.Refusal.{Refusal}
use Rattle.tmx_tree.specs.declared.fault.Refusal.TheVariants.{NoIdLeft}
use Rattle.tmx_tree.specs.declared.objects.Id.{Id}
use Rattle.tmx_tree.specs.Answers.{◌>>=◌}
use Rattle.tmx_tree.specs.Numbers.{whole_of, real_of}
use Rattle.tmx_tree.specs.Rows.{whole_data, real_in, is_whole_data, with_rows}
use Rattle.tmx_tree.specs.Tables.{object_rows, own_object_rows, instance_rows, text_rows}
use Rattle.tmx_tree.specs.Elements.{Attributes, attribute, attributes_of, kids_of, is_named, text_in}
use Rattle.tmx_tree.specs.Texts.{is_one_of}
use Rattle.tmx_tree.specs.Properties.{text_at, own_properties}
use Rattle.tmx_tree.specs.Cells.{array_of}
use Rattle.tmx_tree.specs.Corners.{corners}

-- ---- ids
-- the id that is said, 0 where none is
abbrev pub said_id : Attributes → ℤ
said_id attrs = unwrap_or (option_and_then whole_of (attribute (codes "id") attrs)) (pos 0)

abbrev pub least_behind : ℤ → ℕ
least_behind (pos n) = n + 1
least_behind (negsuc n) = 0

abbrev pub id_view : Id → ℤ × ℕ
id_view i = (i.id, i.next)

-- an id and the next one: where none is said it is the next one
abbrev pub id_or_next : ℤ → ℕ → Result (ℤ × ℕ) Refusal
id_or_next z next =
    if is_whole_data (pos 0) (Some z) then (if nat_lt next (2 ^ 31) then Ok (pos next, next + 1) else Err NoIdLeft)
    else Ok (z, max next (least_behind z))

-- ---- pairs of numbers that are members if one is not 0
abbrev pub real_or_zero : Option (List ℕ) → Result Num Refusal
real_or_zero None = Ok (unsigned 0)
real_or_zero (Some s) = real_in (real_of s) >>= λ n. Ok (unwrap_or n (unsigned 0))

abbrev pub real_at : List ℕ → Attributes → Result Num Refusal
real_at k attrs = real_or_zero (attribute k attrs)

abbrev pub is_zero : Num → Bool
is_zero n = is_whole_data (pos 0) (as_integer n)

abbrev pub put_pair : List ℕ → List ℕ → Num → Num → Members → Members
put_pair k l a b ms = if is_zero a && is_zero b then ms else put k (number a) (put l (number b) ms)

abbrev pub with_pair : List ℕ → List ℕ → Attributes → Members → Result Members Refusal
with_pair k l attrs ms = real_at k attrs >>= λ a. real_at l attrs >>= λ b. Ok (put_pair k l a b ms)

-- ---- the text of an object
abbrev pub text_if : List (List ℕ) → List ℕ → Option Data
text_if ks s = if is_one_of ks s then Some (string s) else None

abbrev pub text_unless : List (List ℕ) → List ℕ → Option Data
text_unless ks s = if is_one_of ks s then None else Some (string s)

-- where it stands in its rectangle
abbrev pub with_alignment : Attributes → Members → Members
with_alignment attrs ms =
    put_some (codes "halign") (text_if (codes "center" ∷ codes "right" ∷ codes "justify" ∷ []) (text_at (codes "halign") attrs))
    (put_some (codes "valign") (text_if (codes "center" ∷ codes "bottom" ∷ []) (text_at (codes "valign") attrs)) ms)

abbrev pub with_font : Attributes → Members → Members
with_font attrs ms =
    put_some (codes "fontfamily") (text_unless ([] ∷ codes "sans-serif" ∷ []) (text_at (codes "fontfamily") attrs))
    (put_some (codes "color") (text_unless ([] ∷ codes "#000000" ∷ codes "#ff000000" ∷ []) (text_at (codes "color") attrs)) ms)

abbrev pub with_words : Attributes → List ℕ → Members → Members
with_words attrs content ms = put (codes "text") (string content) (with_font attrs (with_alignment attrs ms))

abbrev pub text_of : Xml → Result Members Refusal
text_of x = with_rows text_rows (attributes_of x) no_members >>= λ ms. Ok (with_words (attributes_of x) (text_in (kids_of x)) ms)

-- ---- its shape
abbrev pub is_flat : Xml → Bool
is_flat x = is_named (codes "ellipse") x || (is_named (codes "point") x || is_named (codes "capsule") x)

abbrev pub shape_name : Xml → List ℕ
shape_name x = if is_named (codes "ellipse") x then codes "ellipse" else (if is_named (codes "point") x then codes "point" else codes "capsule")

abbrev pub with_corners : List ℕ → Xml → Members → Result Members Refusal
with_corners k x ms = corners (text_at (codes "points") (attributes_of x)) >>= λ ds. Ok (put k (array_of ds) ms)

abbrev pub with_shape : Xml → Members → Result Members Refusal
with_shape x ms =
    if is_named (codes "polygon") x then with_corners (codes "polygon") x ms
    else (if is_named (codes "polyline") x then with_corners (codes "polyline") x ms else Ok ms)

-- the members of an object, with what one of its children says
abbrev pub with_part : Xml → Members → Result Members Refusal
with_part x ms =
    if is_flat x then Ok (put (shape_name x) (boolean true) ms)
    else (if is_named (codes "text") x then (text_of x >>= λ t. Ok (put (codes "text") (object t) ms))
    else with_shape x ms)

abbrev pub with_parts : Children → Members → Result Members Refusal
with_parts no_children ms = Ok ms
with_parts (child x xs) ms = with_part x ms >>= λ more. with_parts xs more

-- ---- an object
abbrev pub is_instance : Attributes → Bool
is_instance attrs = not (bytes_eq (text_at (codes "template") attrs) [])

abbrev pub is_positive : Num → Bool
is_positive n = lt (of_int binary64 (pos 0)) (to_float n)

-- an object of a template has a size if both are above 0
abbrev pub put_size : Num → Num → Members → Members
put_size w h ms = if is_positive w && is_positive h then put (codes "width") (number w) (put (codes "height") (number h) ms) else ms

abbrev pub with_size : Attributes → Members → Result Members Refusal
with_size attrs ms = real_at (codes "width") attrs >>= λ w. real_at (codes "height") attrs >>= λ h. Ok (put_size w h ms)

unfoldable pub with_own : Attributes → Members → Result Members Refusal
with_own attrs ms =
    if is_instance attrs then (with_rows instance_rows attrs ms >>= λ more. with_size attrs more) else with_rows own_object_rows attrs ms

-- all of an object but its id
unfoldable pub object_members : Xml → Members → Result Members Refusal
object_members x ms = do
  a ← with_rows object_rows (attributes_of x) ms
  b ← with_own (attributes_of x) a
  c ← with_parts (kids_of x) b
  own_properties (kids_of x) c

abbrev pub id_member : ℤ → Members
id_member z = put (codes "id") (whole_data z) no_members

-- the objects found, and the next id
abbrev pub Objects : Type 0
Objects = List Data × ℕ

abbrev pub with_another : Xml → Objects → Result Objects Refusal
with_another x found = do
  id ← id_or_next (said_id (attributes_of x)) found.1
  ms ← object_members x (id_member id.0)
  Ok (found.0 ++ object ms ∷ [], id.1)

abbrev pub with_object : Xml → Objects → Result Objects Refusal
with_object x found =
    if is_named (codes "object") x then with_another x found else Ok found

abbrev pub with_objects : Children → Objects → Result Objects Refusal
with_objects no_children found = Ok found
with_objects (child x xs) found = with_object x found >>= λ more. with_objects xs more
