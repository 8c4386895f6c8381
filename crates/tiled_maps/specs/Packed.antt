-- Layers whose cells are packed by zlib or gzip, and the map in which they are unpacked.
use Rattle.std.specs.Prelude.{false, ℕ, zero, suc, ◌+◌, ◌*◌, ◌==◌, Bool, not, ◌&&◌, ◌||◌, List, [], slice_index}
use Rattle.std.specs.Prelude.{codes, nat_lt, Option, Some, None, option_map, option_and_then, is_some, unwrap_or, if◌then◌else◌}
use Rattle.std.specs.List.{filter}
use Rattle.std.specs.Option.{option_or}
use Rattle.std.specs.Result.{result_ok}
use Rattle.std.specs.Str.{bytes_eq}
use Rattle.base64.specs.Engines.{standard}
use Rattle.base64.specs.GeneralPurpose.{decode_of, encode_of}
use Rattle.deflate.specs.declared.frame.Frame.{Frame}
use Rattle.deflate.specs.declared.frame.Frame.TheVariants.{Zlib, Gzip}
use Rattle.deflate.specs.Frames.{unpacked}
use Rattle.serde_json.specs.Data.{Data, null, boolean, number, string, array, object, Items, no_items, item, Members, put}
use Rattle.serde_json.specs.Find.{get_member, as_number, as_u64, as_str, as_array}
use Rattle.json_members.specs.Members.{without, put_some}
use Rattle.tiled_maps.specs.Sources.{has_text, object_with, array_with, member_with, layers_in, tiers}

-- the member that says how a layer is packed, and the one that notes how it was
abbrev pub compression : List ℕ
compression = codes "compression"

abbrev pub note_name : List ℕ
note_name = codes "roskevad_packed"

-- the frame of zlib's format, or of gzip's
abbrev pub frame_named : List ℕ → Option Frame
frame_named s = if bytes_eq s (codes "zlib") then Some Zlib else if bytes_eq s (codes "gzip") then Some Gzip else None

abbrev pub frame_at : List ℕ → Members → Option Frame
frame_at k ms = option_and_then frame_named (option_and_then as_str (get_member k ms))

-- how a layer says that it is packed, if it is
abbrev pub frame_of : Members → Option Frame
frame_of ms = if has_text (codes "encoding") (codes "base64") ms then frame_at compression ms else None

abbrev pub is_packed : Members → Bool
is_packed ms = is_some (frame_of ms)

-- how many cells a map or a chunk has; 0 where it does not say so, or has more than a map may have
abbrev pub whole_at : List ℕ → Members → ℕ
whole_at k ms = unwrap_or (option_and_then as_u64 (option_and_then as_number (get_member k ms))) 0

abbrev pub most_cells : ℕ
most_cells = 1048576

abbrev pub at_most : ℕ → ℕ → ℕ
at_most most n = if nat_lt most n then 0 else n

abbrev pub cells_of : Members → ℕ
cells_of ms = at_most most_cells (whole_at (codes "width") ms * whole_at (codes "height") ms)

-- ---- a text
abbrev pub is_blank : ℕ → Bool
is_blank c = (c == 32) || (c == 9) || (c == 10) || (c == 13)

abbrev pub without_blanks : List ℕ → List ℕ
without_blanks s = filter (λ c. not (is_blank c)) s

-- the bytes of a text in base64, in which blanks may stand
abbrev pub decoded : List ℕ → Option (List ℕ)
decoded s = option_or (result_ok (decode_of standard s)) (result_ok (decode_of standard (without_blanks s)))

-- the frame of a stream, as Tiled tells it: by its first two bytes, whatever the layer says
abbrev pub frame_in : List ℕ → Frame
frame_in bytes = if (slice_index bytes 0 == 31) && (slice_index bytes 1 == 139) then Gzip else Zlib

-- the bytes, so many, to which a text unpacks
abbrev pub unpacked_bytes : ℕ → List ℕ → Option (List ℕ)
unpacked_bytes size s = option_and_then (λ bytes. result_ok (unpacked (frame_in bytes) bytes size)) (decoded s)

-- the same of so many cells, four bytes each; none where the text does not unpack to them
abbrev pub bytes_in : ℕ → List ℕ → List ℕ
bytes_in cells s = unwrap_or (unpacked_bytes (4 * cells) s) []

-- ---- a layer
-- data as base64 that is not packed
abbrev pub unpacked_data : ℕ → Data → Data
unpacked_data cells null = null
unpacked_data cells (boolean b) = boolean b
unpacked_data cells (number n) = number n
unpacked_data cells (string s) = string (encode_of standard (bytes_in cells s))
unpacked_data cells (array ds) = array ds
unpacked_data cells (object ms) = object ms

-- the data of a layer or a chunk
abbrev pub data_unpacked : ℕ → Members → Members
data_unpacked cells ms = member_with (codes "data") (unpacked_data cells) ms

abbrev pub chunk_unpacked : Data → Data
chunk_unpacked chunk = object_with (λ ms. data_unpacked (cells_of ms) ms) chunk

-- whether a chunk has a text of nothing as its data, as one that did not unpack
abbrev pub is_void : Data → Bool
is_void null = false
is_void (boolean b) = false
is_void (number n) = false
is_void (string s) = false
is_void (array ds) = false
is_void (object ms) = has_text (codes "data") [] ms

abbrev pub any_void : Items → Bool
any_void no_items = false
any_void (item d ds) = is_void d || any_void ds

abbrev pub has_void : Members → Bool
has_void ms = unwrap_or (option_map any_void (option_and_then as_array (get_member (codes "chunks") ms))) false

-- A layer with such a chunk has a text of nothing in place of its chunks, so that a reader refuses it as it does any whose data are damaged.
abbrev pub void_checked : Members → Members
void_checked ms = if has_void ms then put (codes "data") (string []) (without (codes "chunks") ms) else ms

-- a member under another name
abbrev pub renamed : List ℕ → List ℕ → Members → Members
renamed old new ms = put_some new (get_member old ms) (without old ms)

-- a packed layer of a map of so many cells: its data and those of its chunks, and the note in place of its compression
abbrev pub layer_unpacked : ℕ → Members → Members
layer_unpacked cells ms =
    if is_packed ms then renamed compression note_name (void_checked (member_with (codes "chunks") (array_with chunk_unpacked) (data_unpacked cells ms)))
    else ms

-- ---- a map
-- a map, a group or a layer, with its own data and those of its layers
unfoldable pub layers_unpacked : ℕ → ℕ → Members → Members
layers_unpacked zero cells ms = ms
layers_unpacked (suc n) cells ms =
    layer_unpacked cells (member_with (codes "layers") (array_with (object_with (λ own. layers_unpacked n cells own))) ms)

abbrev pub item_unpacked : ℕ → ℕ → Data → Data
item_unpacked n cells d = object_with (λ own. layers_unpacked n cells own) d

abbrev pub map_unpacked : Members → Members
map_unpacked ms = layers_unpacked tiers (cells_of ms) ms

-- the layers in a map or a group that a test or a count takes
abbrev pub object_or : {A : Type 0} → (Members → A) → A → Data → A
object_or f none null = none
object_or f none (boolean b) = none
object_or f none (number n) = none
object_or f none (string s) = none
object_or f none (array ds) = none
object_or f none (object ms) = f ms

abbrev pub any_in : (Members → Bool) → Items → Bool
any_in f no_items = false
any_in f (item d ds) = object_or f false d || any_in f ds

abbrev pub sum_in : (Members → ℕ) → Items → ℕ
sum_in f no_items = 0
sum_in f (item d ds) = object_or f 0 d + sum_in f ds

abbrev pub any_below : (Members → Bool) → Members → Bool
any_below f ms = unwrap_or (option_map (any_in f) (layers_in ms)) false

abbrev pub sum_below : (Members → ℕ) → Members → ℕ
sum_below f ms = unwrap_or (option_map (sum_in f) (layers_in ms)) 0

-- whether a map, a group or a layer is packed, or a layer in it
unfoldable pub any_packed : ℕ → Members → Bool
any_packed zero ms = false
any_packed (suc n) ms = is_packed ms || any_below (λ own. any_packed n own) ms

abbrev pub has_packed : Data → Bool
has_packed d = object_or (λ ms. any_packed tiers ms) false d

-- the map with its packed layers unpacked, those in groups too
abbrev pub unpacked_layers : Data → Data
unpacked_layers d = if has_packed d then object_with map_unpacked d else d

-- how many cells those layers of a map with so many have in all that pass a test: each as many as the map, if it has data, and those of
-- its chunks
abbrev pub own_cells : ℕ → Members → ℕ
own_cells cells ms = if is_some (get_member (codes "data") ms) then cells else 0

abbrev pub cells_in_chunks : Members → ℕ
cells_in_chunks ms = unwrap_or (option_map (sum_in (λ chunk. cells_of chunk)) (option_and_then as_array (get_member (codes "chunks") ms))) 0

abbrev pub layer_cells : (Members → Bool) → ℕ → Members → ℕ
layer_cells test cells ms = if test ms then own_cells cells ms + cells_in_chunks ms else 0

unfoldable pub all_cells : (Members → Bool) → ℕ → ℕ → Members → ℕ
all_cells test zero cells ms = 0
all_cells test (suc n) cells ms = layer_cells test cells ms + sum_below (λ own. all_cells test n cells own) ms

-- how many the packed layers of a map have in all
abbrev pub packed_cells : Data → ℕ
packed_cells d = object_or (λ ms. all_cells is_packed tiers (cells_of ms) ms) 0 d

abbrev pub most_packed : ℕ
most_packed = 16777216
