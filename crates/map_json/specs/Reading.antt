-- What the tree of each owner says: properties, objects, tilesets and layers, member by member in this order.
use Rattle.std.specs.Prelude.{ℕ, zero, suc, ◌+◌, ◌*◌, ◌==◌, nat_le, ℤ, List, [], codes, true, if◌then◌else◌, ⊤, replicate, Option, Some, None, Result, Ok, Err}
use Rattle.std.specs.Str.{bytes_eq}
use Rattle.std.specs.Option.{ok_or}
use Rattle.serde_json.specs.Data.{Num, Data, null, boolean, number, string, array, object, Members}
use Rattle.serde_json.specs.Events.{items_len}
use Rattle.serde_json.specs.Find.{as_object, as_array, as_number, as_u64, as_i64, as_str, get_member}
use Rattle.map_model.specs.declared.names.TheConstants.{TYPE, WIDTH, HEIGHT, ENCODING, COMPRESSION, DATA, CHUNKS, VALUE}
use Rattle.map_model.specs.declared.limits.TheConstants.{MAX_GROUPS}
use Rattle.map_model.specs.declared.parts.Encoding.{Encoding}
use Rattle.map_model.specs.declared.parts.Encoding.TheVariants.{Array, Base64}
use Rattle.map_model.specs.declared.parts.PropValue.{PropValue}
use Rattle.map_model.specs.declared.parts.PropValue.TheVariants as values
use Rattle.map_model.specs.declared.parts.Property.{Property}
use Rattle.map_model.specs.declared.parts.Placing.{Placing}
use Rattle.map_model.specs.declared.parts.Object.{Object}
use Rattle.map_model.specs.declared.parts.Body.{Body}
use Rattle.map_model.specs.declared.parts.Body.TheVariants.{Tiles, Objects, Other, Group}
use Rattle.map_model.specs.declared.parts.Layer.{Layer}
use Rattle.map_model.specs.declared.parts.Tileset.{Tileset}
use Rattle.map_model.specs.Format.{ListMember, id_member, name_member, visible_member, properties_list, layers_list, objects_list, x_member, y_member}
use Rattle.map_model.specs.Format.{width_member}
use Rattle.map_model.specs.Format.{height_member, gid_member, first_id_member, source_member, property_type_member}
use Rattle.map_model.specs.Format.{layer_names, object_names, tileset_names, property_names}
use Rattle.map_model.specs.Refusing.{◌>>=◌, ◌>>◌, check}
use Rattle.map_json.specs.declared.body.LayerType.{LayerType}
use Rattle.map_json.specs.declared.body.LayerType.TheVariants.{TileLayer, ObjectGroup, ImageLayer, GroupLayer}
use Rattle.map_json.specs.declared.body.NoData.{NoData}
use Rattle.map_json.specs.declared.body.NoData.TheVariants.{Refused, Empty}
use Rattle.map_json.specs.declared.layer.Head.{Head}
use Rattle.refusals.specs.declared.map_refusal.MapRefusal.{MapRefusal}
use Rattle.refusals.specs.declared.map_refusal.MapRefusal.TheVariants.{MemberMissing, MemberOfAnotherKind, Compressed, BadData, OverLimit}
use Rattle.map_values.specs.Presence.{required, absent_means}
use Rattle.map_values.specs.Scalars.{required_member, optional_member, member_or}
use Rattle.map_json.specs.Elements.{Counting, each_counted, elements_at}
use Rattle.json_members.specs.Members.{without_all}
use Rattle.map_values.specs.Cells.{array_cells_at, base64_cells_at}

-- ---- properties
abbrev pub number_value : Num → Option ℤ → PropValue
number_value n None = values.Other (number n)
number_value n (Some z) = values.Whole z

-- a text, a truth value or a whole number of 64 bits is held as such, and any other value as it is
abbrev pub value_of : Data → PropValue
value_of null = values.Other null
value_of (boolean b) = values.Truth b
value_of (number n) = number_value n (as_i64 n)
value_of (string s) = values.Text s
value_of (array ds) = values.Other (array ds)
value_of (object ms) = values.Other (object ms)

abbrev pub value_at : Data → Result PropValue MapRefusal
value_at d = Ok (value_of d)

unfoldable pub property_at : Data → Result Property MapRefusal
property_at d = do
  ms ← ok_or (as_object d) MemberOfAnotherKind
  name ← required_member name_member ms
  kind ← member_or property_type_member (codes "string") ms
  value ← required value_at (get_member VALUE.now ms)
  Ok (record { name = name; kind = kind; value = value; kept = without_all property_names ms })

-- a list that must be there, and one that is empty where it is absent
abbrev pub required_list : {A : Type 0} → (m : ListMember) → (Data → Result A MapRefusal) → Members → Result (List A) MapRefusal
required_list m read ms = required (elements_at m.most read) (get_member m.name ms)

abbrev pub list_or_none : {A : Type 0} → (m : ListMember) → (Data → Result A MapRefusal) → Members → Result (List A) MapRefusal
list_or_none m read ms = absent_means [] (elements_at m.most read) (get_member m.name ms)

-- the properties of an owner
abbrev pub properties_of : Members → Result (List Property) MapRefusal
properties_of ms = list_or_none properties_list property_at ms

-- ---- objects
unfoldable pub placing_of : Members → Result Placing MapRefusal
placing_of ms = do
  x ← optional_member x_member ms
  y ← optional_member y_member ms
  width ← optional_member width_member ms
  height ← optional_member height_member ms
  Ok (record { x = x; y = y; width = width; height = height })

unfoldable pub object_at : Data → Result Object MapRefusal
object_at d = do
  ms ← ok_or (as_object d) MemberOfAnotherKind
  id ← required_member id_member ms
  placing ← placing_of ms
  name ← optional_member name_member ms
  visible ← optional_member visible_member ms
  gid ← optional_member gid_member ms
  properties ← properties_of ms
  Ok (record { id = id; placing = placing; name = name; visible = visible; gid = gid; properties = properties; kept = without_all object_names ms })

-- ---- tilesets
unfoldable pub tileset_at : Data → Result Tileset MapRefusal
tileset_at d = do
  ms ← ok_or (as_object d) MemberOfAnotherKind
  first_id ← required_member first_id_member ms
  source ← optional_member source_member ms
  Ok (record { first_id = first_id; source = source; kept = without_all tileset_names ms })

-- ---- layers
unfoldable pub type_at : Data → Result LayerType MapRefusal
type_at d = do
  s ← ok_or (as_str d) MemberOfAnotherKind
  if bytes_eq s (codes "tilelayer") then Ok TileLayer
      else if bytes_eq s (codes "objectgroup") then Ok ObjectGroup
      else if bytes_eq s (codes "imagelayer") then Ok ImageLayer
      else if bytes_eq s (codes "group") then Ok GroupLayer
      else Err MemberOfAnotherKind

unfoldable pub encoding_at : Data → Result Encoding MapRefusal
encoding_at d = do
  s ← ok_or (as_str d) MemberOfAnotherKind
  if bytes_eq s (codes "csv") then Ok Array else if bytes_eq s (codes "base64") then Ok Base64 else Err MemberOfAnotherKind

-- no compression is an empty text
unfoldable pub compression_at : Data → Result ⊤ MapRefusal
compression_at d = do
  s ← ok_or (as_str d) MemberOfAnotherKind
  check (bytes_eq s []) Compressed

-- the map's width or height
unfoldable pub same_at : ℕ → Data → Result ⊤ MapRefusal
same_at n d = do
  x ← ok_or (as_number d) MemberOfAnotherKind
  k ← ok_or (as_u64 x) BadData
  check (k == n) BadData

abbrev pub cells_at : Encoding → ℕ → Data → Result (List ℕ) MapRefusal
cells_at Array count d = array_cells_at count d
cells_at Base64 count d = base64_cells_at count d

-- the values of a tile layer that lacks them, and chunks too: it is empty
abbrev pub empty_cells : ℕ → Option Data → Result (List ℕ) MapRefusal
empty_cells count None = Ok (replicate count 0)
empty_cells count (Some chunks) = Err MemberMissing

-- the values of a tile layer that may lack them
abbrev pub cells_or_empty : Encoding → ℕ → Option Data → Option Data → Result (List ℕ) MapRefusal
cells_or_empty encoding count chunks None = empty_cells count chunks
cells_or_empty encoding count chunks (Some d) = cells_at encoding count d

-- the values of a tile layer, by what becomes of one that lacks them
abbrev pub tile_values : NoData → Encoding → ℕ → Members → Result (List ℕ) MapRefusal
tile_values Refused encoding count ms = required (cells_at encoding count) (get_member DATA.now ms)
tile_values Empty encoding count ms = cells_or_empty encoding count (get_member CHUNKS.now ms) (get_member DATA.now ms)

unfoldable pub tiles_of : NoData → ℕ → ℕ → Members → Result Body MapRefusal
tiles_of no_data width height ms = do
  encoding ← absent_means Array encoding_at (get_member ENCODING.now ms)
  absent_means tt compression_at (get_member COMPRESSION.now ms)
  absent_means tt (same_at width) (get_member WIDTH.now ms)
  absent_means tt (same_at height) (get_member HEIGHT.now ms)
  cells ← tile_values no_data encoding (width * height) ms
  Ok (Tiles encoding cells)

unfoldable pub objects_of : Members → Result Body MapRefusal
objects_of ms = do
  objects ← required_list objects_list object_at ms
  Ok (Objects objects)

-- what a layer of this type holds, on a map of this size; where it is a group, inner reads its layers
abbrev pub body_by : NoData → Counting (List Layer) → LayerType → ℕ → ℕ → ℕ → Members → Result (ℕ × Body) MapRefusal
body_by no_data inner TileLayer width height count ms = tiles_of no_data width height ms >>= λ body. Ok (count, body)
body_by no_data inner ObjectGroup width height count ms = objects_of ms >>= λ body. Ok (count, body)
body_by no_data inner ImageLayer width height count ms = Ok (count, Other)
body_by no_data inner GroupLayer width height count ms = required (inner count) (get_member layers_list.name ms) >>= λ ls. Ok (ls.0, Group ls.1)

-- the members of a layer of any kind
unfoldable pub head_of : Members → Result Head MapRefusal
head_of ms = do
  kind ← required type_at (get_member TYPE.now ms)
  id ← required_member id_member ms
  name ← member_or name_member [] ms
  visible ← member_or visible_member true ms
  properties ← properties_of ms
  Ok (record { kind = kind; id = id; name = name; visible = visible; properties = properties })

-- a layer, on a map of this size
unfoldable pub layer_by : NoData → Counting (List Layer) → ℕ → ℕ → Counting Layer
layer_by no_data inner width height count d = do
  ms ← ok_or (as_object d) MemberOfAnotherKind
  head ← head_of ms
  body ← body_by no_data inner head.kind width height count ms
  Ok (
    body.0,
    record {
      id = head.id;
      name = head.name;
      visible = head.visible;
      properties = head.properties;
      kept = without_all (layer_names body.1) ms;
      body = body.1;
    },
  )

-- an array of layers, where so many such arrays may stand in one another, itself among them
--
-- Its length is added to those of the arrays that were reached before it: a map has at most so many layers in all.
unfoldable pub layers_at : NoData → ℕ → ℕ → ℕ → Counting (List Layer)
layers_at no_data zero width height count d = do
  ds ← ok_or (as_array d) MemberOfAnotherKind
  Err OverLimit
layers_at no_data (suc groups) width height count d = do
  ds ← ok_or (as_array d) MemberOfAnotherKind
  check (nat_le (count + items_len ds) layers_list.most) OverLimit
  each_counted (layer_by no_data (layers_at no_data groups width height) width height) (count + items_len ds) ds

-- the layers of a map: an array, and those of groups within as many groups as may stand in one another
abbrev pub map_layers_at : ℕ → ℕ → Data → Result (List Layer) MapRefusal
map_layers_at width height d = layers_at Refused (suc MAX_GROUPS) width height 0 d >>= λ ls. Ok ls.1

-- a layer that is all layers of a map, with those that stand in it; a tile layer may lack its values
abbrev pub lone_layer_at : ℕ → ℕ → Data → Result Layer MapRefusal
lone_layer_at width height d = layer_by Empty (layers_at Empty MAX_GROUPS width height) width height 1 d >>= λ l. Ok l.1
