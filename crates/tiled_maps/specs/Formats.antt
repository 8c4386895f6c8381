-- How the cells of a tile layer are written: as an array, or in base64. A layer that is an array, written as another one is.
use Rattle.std.specs.Prelude.{ℕ, zero, suc, ◌&&◌, ◌||◌, List, [], codes, nat_lt, Bool, true, false, if◌then◌else◌}
use Rattle.std.specs.Prelude.{Option, Some, None, option_map, option_and_then, is_some, is_none, unwrap_or}
use Rattle.base64.specs.Engines.{standard}
use Rattle.base64.specs.GeneralPurpose.{encode_of}
use Rattle.serde_json.specs.Data.{Data, null, boolean, number, string, array, object, Items, no_items, item, Members, put}
use Rattle.serde_json.specs.Find.{get_member, as_number, as_u64, as_array}
use Rattle.json_members.specs.Members.{without, put_some}
use Rattle.infinite_maps.specs.Cells.{wholes, bytes_of}
use Rattle.tiled_maps.specs.declared.packed_layers.Counted.{Counted}
use Rattle.tiled_maps.specs.declared.packed_layers.Counted.TheVariants.{Packed, Tiles}
use Rattle.tiled_maps.specs.Sources.{layers_in, or_else, has_text, object_with, array_with, member_with, tiers}
use Rattle.tiled_maps.specs.Packed.{compression, note_name, is_packed, object_or, all_cells, cells_of}

-- ---- tile layers
abbrev pub has_member : List ℕ → Members → Bool
has_member k ms = is_some (get_member k ms)

-- a tile layer that has its cells, or chunks of them
abbrev pub is_tiles : Members → Bool
is_tiles ms = has_text (codes "type") (codes "tilelayer") ms && (has_member (codes "data") ms || has_member (codes "chunks") ms)

abbrev pub first_in : (Members → Option Members) → Items → Option Members
first_in f no_items = None
first_in f (item d ds) = or_else (object_or f None d) (first_in f ds)

-- the first one in a map, a group or a layer, those in groups too, as they stand in the file
unfoldable pub first_tiles : ℕ → Members → Option Members
first_tiles zero ms = None
first_tiles (suc n) ms = if is_tiles ms then Some ms else option_and_then (first_in (λ own. first_tiles n own)) (layers_in ms)

-- whether a layer is one of those that are counted
abbrev pub is_counted : Counted → Members → Bool
is_counted Packed ms = is_packed ms
is_counted Tiles ms = is_tiles ms

-- how many cells the tile layers of a map have in all
abbrev pub tile_cells : Data → ℕ
tile_cells d = object_or (λ ms. all_cells is_tiles tiers (cells_of ms) ms) 0 d

-- ---- cells that are an array
-- a whole number of 32 bits
abbrev pub is_cell : Data → Bool
is_cell d = unwrap_or (option_map (λ n. nat_lt n 4294967296) (option_and_then as_u64 (as_number d))) false

abbrev pub are_cells : Items → Bool
are_cells no_items = true
are_cells (item d ds) = is_cell d && are_cells ds

-- whether a member is a list that passes a test, if there is one
abbrev pub is_list : (Items → Bool) → List ℕ → Members → Bool
is_list test k ms = unwrap_or (option_map (λ d. unwrap_or (option_map test (as_array d)) false) (get_member k ms)) true

-- a chunk, or a layer but for its chunks
abbrev pub has_array : Members → Bool
has_array ms = is_list are_cells (codes "data") ms

abbrev pub have_arrays : Items → Bool
have_arrays no_items = true
have_arrays (item d ds) = object_or has_array false d && have_arrays ds

-- a tile layer whose data, and those of its chunks, are arrays of cells
abbrev pub is_array : Members → Bool
is_array ms = is_tiles ms && has_array ms && is_list have_arrays (codes "chunks") ms

-- ---- the same in base64
abbrev pub data_encoded : Data → Data
data_encoded null = null
data_encoded (boolean b) = boolean b
data_encoded (number n) = number n
data_encoded (string s) = string s
data_encoded (array ds) = string (encode_of standard (bytes_of (wholes ds)))
data_encoded (object ms) = object ms

abbrev pub own_encoded : Members → Members
own_encoded ms = member_with (codes "data") data_encoded ms

abbrev pub layer_encoded : Members → Members
layer_encoded ms = member_with (codes "chunks") (array_with (object_with own_encoded)) (own_encoded ms)

-- whether a layer is in base64, packed by zlib or gzip, or by nothing
abbrev pub is_base64 : Members → Bool
is_base64 ms = is_packed ms
    || (has_text (codes "encoding") (codes "base64") ms && (is_none (get_member compression ms) || has_text compression [] ms))

-- with the compression of another layer, as a note if that is packed
abbrev pub compression_name : Members → List ℕ
compression_name other = if is_packed other then note_name else compression

abbrev pub compressed_as : Members → Members → Members
compressed_as other ms = put_some (compression_name other) (get_member compression other) (without compression ms)

abbrev pub encoded_as : Members → Members → Members
encoded_as other ms = compressed_as other (put (codes "encoding") (string (codes "base64")) (layer_encoded ms))

-- A layer that is an array, beside one in base64, is in base64, too. It notes how it is to be packed.
abbrev pub written_as : Option Members → Members → Members
written_as None ms = ms
written_as (Some other) ms = if is_base64 other && is_array ms then encoded_as other ms else ms
