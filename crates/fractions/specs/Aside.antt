-- A map's tree with its fractions set aside.
use Rattle.std.specs.Prelude.{ℕ, ◌/◌, ◌%◌, ◌^◌, ℤ, List, codes, Float, Option, Some, None, option_map, option_and_then, if◌then◌else◌, to_bits}
use Rattle.std.specs.Float.{binary64, floor, float_to_signed}
use Rattle.std.specs.Int.{w64}
use Rattle.serde_json.specs.Data.{Num, unsigned, Data, null, boolean, number, string, array, object, Items, no_items, item, Members, no_members, member, put}
use Rattle.serde_json.specs.Find.{as_number, of_integer, is_float, to_float, get_member}
use Rattle.fractions.specs.declared.place.Place.{Place}
use Rattle.fractions.specs.declared.place.Place.TheVariants.{Map, Layer, Object, Coordinate, Version, Elsewhere}
use Rattle.json_members.specs.Members.{put_some}
use Rattle.fractions.specs.Places.{below, inside}

-- the name that no member of a map may have
abbrev pub reserved_name : List ℕ
reserved_name = codes "roskevad"

-- what stands for a fraction: its 64 bits in two halves, the upper one first, under the reserved name
unfoldable pub stand_in : Float → Data
stand_in x =
    object (member reserved_name (array (item (number (unsigned (to_bits binary64 x / 2 ^ 32)))
    (item (number (unsigned (to_bits binary64 x % 2 ^ 32))) no_items))) no_members)

-- the greatest whole number that is not above it, as far as 64 bits reach
unfoldable pub whole_part : Float → ℤ
whole_part x = float_to_signed w64 (floor binary64 x)

-- the number, if it is a fraction
abbrev pub fraction_of : Num → Option Num
fraction_of n = if is_float n then Some n else None

abbrev pub fraction_at : Data → Option Num
fraction_at d = option_and_then fraction_of (as_number d)

-- what a fraction becomes: a coordinate its whole part, any other its stand-in
abbrev pub fraction_aside : Place → Num → Data
fraction_aside Map n = stand_in (to_float n)
fraction_aside Layer n = stand_in (to_float n)
fraction_aside Object n = stand_in (to_float n)
fraction_aside Coordinate n = number (of_integer (whole_part (to_float n)))
fraction_aside Version n = number n
fraction_aside Elsewhere n = stand_in (to_float n)

abbrev pub number_aside : Place → Num → Data
number_aside p n = if is_float n then fraction_aside p n else number n

-- the note of a coordinate, if it is a fraction: its stand-in
abbrev pub note_of : List ℕ → Members → Option Data
note_of k ms = option_map (λ n. stand_in (to_float n)) (option_and_then fraction_at (get_member k ms))

-- the notes of an object; nothing else has any
abbrev pub notes_of : Place → Members → Members
notes_of Map ms = no_members
notes_of Layer ms = no_members
notes_of Object ms =
    put_some (codes "x") (note_of (codes "x") ms) (put_some (codes "y") (note_of (codes "y") ms)
    (put_some (codes "width") (note_of (codes "width") ms) (put_some (codes "height") (note_of (codes "height") ms) no_members)))
notes_of Coordinate ms = no_members
notes_of Version ms = no_members
notes_of Elsewhere ms = no_members

-- the members, with the notes under the reserved name, if there are any
abbrev pub with_notes : Members → Members → Members
with_notes no_members ms = ms
with_notes (member k d ns) ms = put reserved_name (object (member k d ns)) ms

abbrev mutual
  pub aside : Place → Data → Data
  aside p null = null
  aside p (boolean b) = boolean b
  aside p (number n) = number_aside p n
  aside p (string s) = string s
  aside p (array ds) = array (items_aside (inside p) ds)
  aside p (object ms) = object (with_notes (notes_of p ms) (members_aside p ms))

  pub items_aside : Place → Items → Items
  items_aside p no_items = no_items
  items_aside p (item d ds) = item (aside p d) (items_aside p ds)

  pub members_aside : Place → Members → Members
  members_aside p no_members = no_members
  members_aside p (member k d ms) = member k (aside (below p k) d) (members_aside p ms)

-- the tree of a whole map
abbrev pub set_aside_of : Data → Data
set_aside_of d = aside Map d
