-- Which chunks can be read.
use Rattle.std.specs.Prelude.{ℕ, ◌*◌, List, [], length, codes, ℤ, unsigned_abs, Bool, true, false, not, ◌&&◌, ◌||◌, ◌==◌, nat_lt, nat_le, is_some, Option}
use Rattle.std.specs.Prelude.{Some, None, option_and_then}
use Rattle.std.specs.Str.{bytes_eq}
use Rattle.serde_json.specs.Data.{Data, null, boolean, number, string, array, object, Items, no_items, item, Members, no_members, member}
use Rattle.serde_json.specs.Find.{get, get_member, as_number, as_i64, as_u64, as_str, as_array}
use Rattle.infinite_maps.specs.Cells.{is_text, cells_of}
use Rattle.infinite_maps.specs.Notes.{natural}

-- a place: a whole number within 2 ^ 31 of 0
abbrev pub is_near : Option ℤ → Bool
is_near None = false
is_near (Some z) = nat_le (unsigned_abs z) 2147483648

abbrev pub is_place : Option Data → Bool
is_place None = false
is_place (Some d) = is_near (option_and_then as_i64 (as_number d))

-- a size: a whole number from 1 to 2 ^ 31
abbrev pub is_some_length : Option ℕ → Bool
is_some_length None = false
is_some_length (Some n) = nat_lt 0 n && nat_le n 2147483648

abbrev pub is_length : Option Data → Bool
is_length None = false
is_length (Some d) = is_some_length (option_and_then as_u64 (as_number d))

-- a chunk has a place and a size
abbrev pub is_placed : Data → Bool
is_placed chunk = (is_place (get (codes "x") chunk) && is_place (get (codes "y") chunk))
    && (is_length (get (codes "width") chunk) && is_length (get (codes "height") chunk))

-- whole numbers alone
abbrev pub are_numbers : Items → Bool
are_numbers no_items = true
are_numbers (item d ds) = is_some (option_and_then as_u64 (as_number d)) && are_numbers ds

abbrev pub are_all_numbers : Option Items → Bool
are_all_numbers None = false
are_all_numbers (Some ds) = are_numbers ds

-- data are a text, or an array of whole numbers
abbrev pub is_of_kind : Bool → Data → Bool
is_of_kind true d = is_text d
is_of_kind false d = are_all_numbers (as_array d)

abbrev pub are_so_many : ℕ → Option (List ℕ) → Bool
are_so_many n None = false
are_so_many n (Some cells) = length cells == n

-- data have so many cells
abbrev pub is_filled : Bool → ℕ → Option Data → Bool
is_filled text n None = false
is_filled text n (Some d) = is_of_kind text d && are_so_many n (cells_of d)

-- how many cells a chunk has
abbrev pub area_of : Data → ℕ
area_of chunk = natural (get (codes "width") chunk) * natural (get (codes "height") chunk)

-- the places of the chunks of a list can be read
abbrev pub are_placed : Items → Bool
are_placed no_items = true
are_placed (item chunk chunks) = is_placed chunk && are_placed chunks

-- a chunk has a place and a size, and data with a whole number for each of its cells; compressed data may be any
abbrev pub is_sound : Bool → Bool → Data → Bool
is_sound packed text chunk = is_placed chunk && (packed || is_filled text (area_of chunk) (get (codes "data") chunk))

abbrev pub are_sound : Bool → Bool → Items → Bool
are_sound packed text no_items = true
are_sound packed text (item chunk chunks) = is_sound packed text chunk && are_sound packed text chunks

abbrev pub are_chunks : Bool → Bool → Option Items → Bool
are_chunks packed text None = false
are_chunks packed text (Some chunks) = are_sound packed text chunks

abbrev pub is_named : List ℕ → Option (List ℕ) → Bool
is_named name None = false
is_named name (Some s) = bytes_eq s name

-- the chunks of a layer in base64 are texts
abbrev pub is_base64 : Members → Bool
is_base64 ms = is_named (codes "base64") (option_and_then as_str (get_member (codes "encoding") ms))

-- the data of a layer are compressed
abbrev pub is_packed : Option Data → Bool
is_packed None = false
is_packed (Some d) = not (is_named [] (as_str d))

abbrev pub is_compressed : Members → Bool
is_compressed ms = is_packed (get_member (codes "compression") ms)

-- what a layer has as its chunks is a list of sound ones
abbrev pub has_sound_chunks : Bool → Bool → Option Data → Bool
has_sound_chunks packed text None = true
has_sound_chunks packed text (Some d) = are_chunks packed text (as_array d)

abbrev pub is_bad : Members → Bool
is_bad ms = not (has_sound_chunks (is_compressed ms) (is_base64 ms) (get_member (codes "chunks") ms))

-- whether a test holds of the members of an object, or of one in its layers
abbrev mutual
  pub some_layer : (Members → Bool) → Data → Bool
  some_layer test null = false
  some_layer test (boolean b) = false
  some_layer test (number n) = false
  some_layer test (string s) = false
  some_layer test (array ds) = items_some_layer test ds
  some_layer test (object ms) = test ms || members_some_layer test ms

  pub items_some_layer : (Members → Bool) → Items → Bool
  items_some_layer test no_items = false
  items_some_layer test (item d ds) = some_layer test d || items_some_layer test ds

  pub members_some_layer : (Members → Bool) → Members → Bool
  members_some_layer test no_members = false
  members_some_layer test (member k d ms) = (bytes_eq k (codes "layers") && some_layer test d) || members_some_layer test ms

abbrev pub group_has : (Members → Bool) → List ℕ → Data → Bool
group_has test k d = bytes_eq k (codes "layers") && some_layer test d

-- a layer, or the map, has a chunk that is not sound, or chunks that are no list
abbrev pub has_bad_chunk : Data → Bool
has_bad_chunk d = some_layer is_bad d
