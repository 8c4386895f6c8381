-- What a file says: the map, or the first fault.
use Rattle.std.specs.Prelude.{◌≡◌, ◌⊎◌, IsUtf8, ℕ, ◌*◌, ◌||◌, List, codes, false, Bool, not, nat_le, Option, Some, None, Result, Ok, Err}
use Rattle.std.specs.Str.{bytes_eq}
use Rattle.std.specs.Option.{ok_or}
use Rattle.serde_json.specs.Data.{Data, null, boolean, number, string, array, object, Members}
use Rattle.serde_json.specs.Find.{as_object, as_str, get_member}
use Rattle.serde_json.specs.Read.{read}
use Rattle.serde_json.specs.Written.{has_float, members_have_float}
use Rattle.map_model.specs.declared.names.TheConstants.{TYPE, VERSION}
use Rattle.map_model.specs.declared.limits.TheConstants.{MAX_CELLS}
use Rattle.map_model.specs.declared.parts.MapParts.{MapParts}
use Rattle.map_model.specs.Format.{map_width_member, map_height_member, tile_width_member, tile_height_member, infinite_member, next_layer_id_member}
use Rattle.map_model.specs.Format.{next_object_id_member, layers_list, tilesets_list, map_names}
use Rattle.map_model.specs.Refusing.{◌>>=◌, ◌>>◌, check}
use Rattle.refusals.specs.declared.map_refusal.MapRefusal.{MapRefusal}
use Rattle.refusals.specs.declared.map_refusal.MapRefusal.TheVariants.{NotJson, Fraction, Infinite, IdUsedTwice, OverLimit, NotAMap}
use Rattle.map_values.specs.declared.fault.MapFault.{MapFault}
use Rattle.map_values.specs.declared.fault.MapFault.TheVariants.{Memory, Refused}
use Rattle.map_values.specs.Presence.{required}
use Rattle.map_values.specs.Scalars.{required_member, member_or}
use Rattle.json_members.specs.Members.{without, without_all}
use Rattle.map_json.specs.Reading.{required_list, properties_of, tileset_at, map_layers_at}
use Rattle.map_json.specs.Distinctness.{ids_are_unique, are_below_next}

-- ---- fractions
-- whether a version that is no number has a number with a fraction in it
abbrev pub version_has_fraction : Option Data → Bool
version_has_fraction None = false
version_has_fraction (Some null) = false
version_has_fraction (Some (boolean b)) = false
version_has_fraction (Some (number n)) = false
version_has_fraction (Some (string s)) = false
version_has_fraction (Some (array ds)) = has_float (array ds)
version_has_fraction (Some (object ms)) = has_float (object ms)

-- whether a number that is not whole stands anywhere but as the version of the root
abbrev pub has_fraction : Data → Bool
has_fraction null = false
has_fraction (boolean b) = false
has_fraction (number n) = has_float (number n)
has_fraction (string s) = false
has_fraction (array ds) = has_float (array ds)
has_fraction (object ms) = members_have_float (without VERSION.now ms) || version_has_fraction (get_member VERSION.now ms)

-- ---- the root
abbrev pub is_map_text : Option (List ℕ) → Bool
is_map_text None = false
is_map_text (Some s) = bytes_eq s (codes "map")

-- the text `map`
abbrev pub is_map_type : Option Data → Bool
is_map_type None = false
is_map_type (Some d) = is_map_text (as_str d)

-- the parts of a map, member by member in this order
unfoldable pub parts_of : Members → Result MapParts MapRefusal
parts_of ms = do
  width ← required_member map_width_member ms
  height ← required_member map_height_member ms
  check (nat_le (width * height) MAX_CELLS) OverLimit
  tile_width ← required_member tile_width_member ms
  tile_height ← required_member tile_height_member ms
  infinite ← member_or infinite_member false ms
  check (not infinite) Infinite
  next_layer_id ← required_member next_layer_id_member ms
  next_object_id ← required_member next_object_id_member ms
  layers ← required (map_layers_at width height) (get_member layers_list.name ms)
  tilesets ← required_list tilesets_list tileset_at ms
  properties ← properties_of ms
  Ok (record {
    width = width;
    height = height;
    tile_width = tile_width;
    tile_height = tile_height;
    layers = layers;
    tilesets = tilesets;
    properties = properties;
    next_layer_id = next_layer_id;
    next_object_id = next_object_id;
    kept = without_all map_names ms;
  })

-- a map whose ids fit together
unfoldable pub consistent : MapParts → Result MapParts MapRefusal
consistent m = do
  check (ids_are_unique m) IdUsedTwice
  check (are_below_next m) OverLimit
  Ok m

-- what a tree says
unfoldable pub map_of : Data → Result MapParts MapRefusal
map_of d = do
  check (not (has_fraction d)) Fraction
  ms ← ok_or (as_object d) NotAMap
  check (is_map_type (get_member TYPE.now ms)) NotAMap
  m ← parts_of ms
  consistent m

-- ---- bytes
-- the bytes are UTF-8, and the JSON text of this tree
abbrev pub IsTreeOf : List ℕ → Data → Type 0
IsTreeOf bytes d = IsUtf8 bytes × (read bytes ≡ Some d)

-- the bytes have no tree, or their tree's first fault is this one
abbrev pub IsRefusedAs : List ℕ → MapRefusal → Type 0
IsRefusedAs bytes f = ((f ≡ NotJson) × (IsUtf8 bytes → read bytes ≡ None)) ⊎ ((d : Data) × IsTreeOf bytes d × (map_of d ≡ Err f))

-- what the bytes say, unless memory ran out
abbrev pub Says : List ℕ → Result MapParts MapFault → Type 0
Says bytes (Ok m) = (d : Data) × IsTreeOf bytes d × (map_of d ≡ Ok m)
Says bytes (Err Memory) = Unit {0}
Says bytes (Err (Refused f)) = IsRefusedAs bytes f
