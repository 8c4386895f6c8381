-- What is written for a map: its tree, and the text of that tree. The own members of each owner stand in the reader's order.
use Rattle.std.specs.Prelude.{ℕ, zero, suc, ◌++◌, List, [], ◌∷◌, codes, false, Option, Some, None}
use Rattle.base64.specs.Engines.{standard}
use Rattle.base64.specs.GeneralPurpose.{encode_of}
use Rattle.serde_json.specs.Data.{Data, boolean, number, string, array, object, no_items}
use Rattle.serde_json.specs.Find.{of_integer}
use Rattle.serde_json.specs.Written.{compact_text}
use Rattle.map_model.specs.declared.names.TheConstants.{TYPE, WIDTH, HEIGHT, VERSION, ENCODING, COMPRESSION, DATA, VALUE}
use Rattle.map_model.specs.declared.limits.TheConstants.{MAX_GROUPS}
use Rattle.map_model.specs.declared.parts.Encoding.{Encoding}
use Rattle.map_model.specs.declared.parts.Encoding.TheVariants.{Array, Base64}
use Rattle.map_model.specs.declared.parts.PropValue.{PropValue}
use Rattle.map_model.specs.declared.parts.PropValue.TheVariants as values
use Rattle.map_model.specs.declared.parts.Property.{Property}
use Rattle.map_model.specs.declared.parts.Object.{Object}
use Rattle.map_model.specs.declared.parts.Body.{Body}
use Rattle.map_model.specs.declared.parts.Body.TheVariants.{Tiles, Objects, Other, Group'}
use Rattle.map_model.specs.declared.parts.Layer.{Layer}
use Rattle.map_model.specs.declared.parts.Tileset.{Tileset}
use Rattle.map_model.specs.declared.parts.MapParts.{MapParts}
use Rattle.map_model.specs.Format.{id_member, name_member, visible_member, properties_list, map_width_member, map_height_member, tile_width_member}
use Rattle.map_model.specs.Format.{tile_height_member}
use Rattle.map_model.specs.Format.{infinite_member, next_layer_id_member, next_object_id_member, layers_list, tilesets_list, objects_list, x_member, y_member}
use Rattle.map_model.specs.Format.{width_member, height_member, gid_member, first_id_member, source_member, property_type_member}
use Rattle.map_model.specs.Groups.{inside}
use Rattle.map_json.specs.Members.{Own, with_own}
use Rattle.map_values.specs.Arrays.{array_by, whole_tree}
use Rattle.map_values.specs.Cells.{bytes_of}
use Rattle.map_values.specs.Scalars.{own_value, own_some}

-- ---- properties
abbrev pub value_tree : PropValue → Data
value_tree (values.Text s) = string s
value_tree (values.Whole z) = number (of_integer z)
value_tree (values.Truth b) = boolean b
value_tree (values.Other d) = d

abbrev pub property_own : Property → Own
property_own p = own_value name_member p.name ∷ own_value property_type_member p.kind ∷ (VALUE.now, Some (value_tree p.value)) ∷ []

unfoldable pub property_tree : Property → Data
property_tree p = object (with_own (property_own p) p.kept)

-- written only where there is one
abbrev pub properties_member : List Property → Option Data
properties_member [] = None
properties_member (p ∷ ps) = Some (array_by property_tree (p ∷ ps))

-- ---- objects
abbrev pub object_own : Object → Own
object_own o =
    own_value id_member o.id
    ∷ own_some x_member o.placing.x
    ∷ own_some y_member o.placing.y
    ∷ own_some width_member o.placing.width
    ∷ own_some height_member o.placing.height
    ∷ own_some name_member o.name
    ∷ own_some visible_member o.visible
    ∷ own_some gid_member o.gid
    ∷ (properties_list.name, properties_member o.properties)
    ∷ []

unfoldable pub object_tree : Object → Data
object_tree o = object (with_own (object_own o) o.kept)

-- ---- tilesets
abbrev pub tileset_own : Tileset → Own
tileset_own t = own_value first_id_member t.first_id ∷ own_some source_member t.source ∷ []

unfoldable pub tileset_tree : Tileset → Data
tileset_tree t = object (with_own (tileset_own t) t.kept)

-- ---- layers
abbrev pub cells_tree : Encoding → List ℕ → Data
cells_tree Array cells = array_by whole_tree cells
cells_tree Base64 cells = string (encode_of standard (bytes_of cells))

abbrev pub encoding_member : Encoding → Option Data
encoding_member Array = None
encoding_member Base64 = Some (string (codes "base64"))

abbrev pub type_word : Body → List ℕ
type_word (Tiles e cells) = codes "tilelayer"
type_word (Objects os) = codes "objectgroup"
type_word Other = codes "imagelayer"
type_word (Group' s r) = codes "group"

-- the members of a layer's kind, with this for the layers of a group
abbrev pub body_own : ℕ → ℕ → Data → Body → Own
body_own width height layers (Tiles e cells) =
    (ENCODING.now, encoding_member e) ∷ (COMPRESSION.now, None) ∷ (WIDTH.now, Some (whole_tree width)) ∷ (HEIGHT.now, Some (whole_tree height))
    ∷ (DATA.now, Some (cells_tree e cells)) ∷ []
body_own width height layers (Objects os) = (objects_list.name, Some (array_by object_tree os)) ∷ []
body_own width height layers Other = []
body_own width height layers (Group' s r) = (layers_list.name, Some layers) ∷ []

-- the own members of a layer of any kind
abbrev pub common_own : Layer → Own
common_own l =
    (TYPE.now, Some (string (type_word l.body))) ∷ own_value id_member l.id ∷ own_value name_member l.name
    ∷ own_value visible_member l.visible ∷ (properties_list.name, properties_member l.properties) ∷ []

abbrev pub layer_own : ℕ → ℕ → Data → Layer → Own
layer_own width height layers l = common_own l ++ body_own width height layers l.body

-- a layer in which layers may stand in so many groups
unfoldable pub layer_tree : ℕ → ℕ → ℕ → Layer → Data
layer_tree zero width height l = object (with_own (layer_own width height (array no_items) l) l.kept)
layer_tree (suc groups) width height l = object (with_own (layer_own width height (array_by (layer_tree groups width height) (inside l)) l) l.kept)

abbrev pub layers_tree : ℕ → ℕ → ℕ → List Layer → Data
layers_tree groups width height ls = array_by (layer_tree groups width height) ls

-- ---- maps
-- the own members of a map that are no lists
abbrev pub plain_own : MapParts → Own
plain_own m =
    own_value map_width_member m.width
    ∷ own_value map_height_member m.height
    ∷ own_value tile_width_member m.tile_width
    ∷ own_value tile_height_member m.tile_height
    ∷ own_value infinite_member false
    ∷ own_value next_layer_id_member m.next_layer_id
    ∷ own_value next_object_id_member m.next_object_id
    ∷ []

-- its properties, and what says that it is a map
abbrev pub said_own : MapParts → Own
said_own m =
    (properties_list.name, properties_member m.properties)
    ∷ (TYPE.now, Some (string (codes "map")))
    ∷ (VERSION.now, Some (string (codes "1.10")))
    ∷ []

-- its layers, for which this stands, its tilesets, and the same
abbrev pub lists_own : Data → MapParts → Own
lists_own layers m = (layers_list.name, Some layers) ∷ (tilesets_list.name, Some (array_by tileset_tree m.tilesets)) ∷ said_own m

-- all of them
abbrev pub own_around : Data → MapParts → Own
own_around layers m = plain_own m ++ lists_own layers m

abbrev pub map_own : MapParts → Own
map_own m = own_around (layers_tree MAX_GROUPS m.width m.height m.layers) m

-- the tree of a map, and its text
unfoldable pub tree_of : MapParts → Data
tree_of m = object (with_own (map_own m) m.kept)

abbrev pub text_of : MapParts → List ℕ
text_of m = compact_text (tree_of m)
