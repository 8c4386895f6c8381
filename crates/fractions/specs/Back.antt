-- A tree in which what was set aside is put back.
use Rattle.std.specs.Prelude.{ℕ, ◌+◌, ◌*◌, ◌^◌, ℤ, Bool, true, false, ◌&&◌, nat_lt, Float, Option, Some, None, option_map, option_and_then, unwrap_or}
use Rattle.std.specs.Prelude.{if◌then◌else◌, from_bits}
use Rattle.std.specs.Float.{binary64}
use Rattle.std.specs.Ordering.{int_eq}
use Rattle.serde_json.specs.Data.{Num, Data, null, boolean, number, string, array, object, Items, no_items, item, Members, no_members, member}
use Rattle.serde_json.specs.Find.{to_float, as_number, as_u64, as_integer, as_object, of_float, at, get_member}
use Rattle.json_members.specs.Members.{without}
use Rattle.fractions.specs.Aside.{reserved_name, whole_part, fraction_at}

-- ---- a stand-in
abbrev pub half : ℕ → Data → Option ℕ
half i d = option_and_then as_u64 (option_and_then as_number (at i d))

abbrev pub of_halves : ℕ → ℕ → Option Num
of_halves high low =
    if nat_lt high (2 ^ 32) && nat_lt low (2 ^ 32) then of_float (from_bits binary64 (high * 2 ^ 32 + low)) else None

-- the number whose halves stand here
unfoldable pub number_of_halves : Data → Option Num
number_of_halves d = option_and_then (λ high. option_and_then (λ low. of_halves high low) (half 1 d)) (half 0 d)

abbrev pub is_alone : Members → Bool
is_alone no_members = false
is_alone (member k d no_members) = true
is_alone (member k d (member l e ms)) = false

-- the number that an object stands for, if it is a stand-in: nothing but the halves is in it
abbrev pub number_in : Members → Option Num
number_in ms = if is_alone ms then option_and_then number_of_halves (get_member reserved_name ms) else None

-- ---- a note
abbrev pub is_integer_at : ℤ → Option ℤ → Bool
is_integer_at z None = false
is_integer_at z (Some w) = int_eq w z

-- whether a value still is the whole part of the number
abbrev pub still_is : Float → Data → Bool
still_is x d = is_integer_at (whole_part x) (option_and_then as_integer (as_number d))

-- the noted number, if the value still is its whole part
abbrev pub restored : Option Num → Data → Data
restored None d = d
restored (Some n) d = if still_is (to_float n) d then number n else d

-- each member restored by the note of its name
abbrev pub members_restored : Members → Members → Members
members_restored ns no_members = no_members
members_restored ns (member k d ms) =
    member k (restored (option_and_then fraction_at (get_member k ns)) d) (members_restored ns ms)

-- the notes of an object
abbrev pub notes_in : Members → Option Members
notes_in ms = option_and_then as_object (get_member reserved_name ms)

-- the object restored by its notes and without them, if it has notes
abbrev pub by_notes : Members → Option Data
by_notes ms = option_map (λ ns. object (without reserved_name (members_restored ns ms))) (notes_in ms)

-- ---- the tree
-- what an object stands for whose members are put back: a number, or an object
abbrev pub joined : Members → Data
joined ms = unwrap_or (option_map number (number_in ms)) (unwrap_or (by_notes ms) (object ms))

abbrev mutual
  pub back : Data → Data
  back null = null
  back (boolean b) = boolean b
  back (number n) = number n
  back (string s) = string s
  back (array ds) = array (items_back ds)
  back (object ms) = joined (members_back ms)

  pub items_back : Items → Items
  items_back no_items = no_items
  items_back (item d ds) = item (back d) (items_back ds)

  pub members_back : Members → Members
  members_back no_members = no_members
  members_back (member k d ms) = member k (back d) (members_back ms)
