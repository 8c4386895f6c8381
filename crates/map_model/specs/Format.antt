-- The members of a file that the editor reads and writes: of each its name, what its value is, and its limits.
--
-- Of a member that is read in a way of its own, as a layer's encoding, only the name stands here. The lists of names stand in
-- the order of reading.
use Rattle.std.specs.Prelude.{ℕ, ◌-◌, List, [], ◌∷◌, ◌++◌}
use Rattle.map_model.specs.declared.names.TheConstants.{ID, NAME, TYPE, VISIBLE, PROPERTIES, WIDTH, HEIGHT, TILE_WIDTH, TILE_HEIGHT, INFINITE, NEXT_LAYER_ID}
use Rattle.map_model.specs.declared.names.TheConstants.{NEXT_OBJECT_ID, LAYERS, TILESETS, VERSION, ENCODING, COMPRESSION, DATA, OBJECTS, X, Y, GID, FIRST_ID}
use Rattle.map_model.specs.declared.names.TheConstants.{SOURCE, VALUE}
use Rattle.map_model.specs.declared.limits.TheConstants.{MAX_SIDE, MAX_TILE_SIDE, MAX_NEXT_ID, MAX_FIRST_ID, MAX_LAYERS, MAX_OBJECTS, MAX_PROPERTIES}
use Rattle.map_model.specs.declared.limits.TheConstants.{MAX_TILESETS}
use Rattle.map_model.specs.declared.parts.Body.{Body}
use Rattle.map_model.specs.declared.parts.Body.TheVariants.{Tiles, Objects, Other, Group'}

-- what the value of a member is
pub data Kind : Type 0 where
  -- a whole number from the first to the second
  Whole : ℕ → ℕ → Kind
  -- a whole number of pixels, which may be below 0
  Pixels : Kind
  Text : Kind
  Truth : Kind

pub record Member : Type 0 where
  pub name : List ℕ
  pub kind : Kind

-- a member that is an array, with at most so many elements
pub record ListMember : Type 0 where
  pub name : List ℕ
  pub most : ℕ

abbrev pub member : List ℕ → Kind → Member
member name kind = record { name = name; kind = kind }

abbrev pub list_member : List ℕ → ℕ → ListMember
list_member name most = record { name = name; most = most }

-- ---- of several owners
abbrev pub id_member : Member
id_member = member ID.now (Whole 1 (MAX_NEXT_ID - 1))

abbrev pub name_member : Member
name_member = member NAME.now Text

abbrev pub visible_member : Member
visible_member = member VISIBLE.now Truth

abbrev pub properties_list : ListMember
properties_list = list_member PROPERTIES.now MAX_PROPERTIES

-- ---- of a map
abbrev pub map_width_member : Member
map_width_member = member WIDTH.now (Whole 1 MAX_SIDE)

abbrev pub map_height_member : Member
map_height_member = member HEIGHT.now (Whole 1 MAX_SIDE)

abbrev pub tile_width_member : Member
tile_width_member = member TILE_WIDTH.now (Whole 1 MAX_TILE_SIDE)

abbrev pub tile_height_member : Member
tile_height_member = member TILE_HEIGHT.now (Whole 1 MAX_TILE_SIDE)

abbrev pub infinite_member : Member
infinite_member = member INFINITE.now Truth

abbrev pub next_layer_id_member : Member
next_layer_id_member = member NEXT_LAYER_ID.now (Whole 1 MAX_NEXT_ID)

abbrev pub next_object_id_member : Member
next_object_id_member = member NEXT_OBJECT_ID.now (Whole 1 MAX_NEXT_ID)

-- of a map or a group: the layers of all groups are counted with those of the map
abbrev pub layers_list : ListMember
layers_list = list_member LAYERS.now MAX_LAYERS

abbrev pub tilesets_list : ListMember
tilesets_list = list_member TILESETS.now MAX_TILESETS

abbrev pub map_names : List (List ℕ)
map_names =
    map_width_member.name ∷ map_height_member.name ∷ tile_width_member.name ∷ tile_height_member.name ∷ infinite_member.name
    ∷ next_layer_id_member.name ∷ next_object_id_member.name ∷ layers_list.name ∷ tilesets_list.name ∷ properties_list.name
    ∷ TYPE.now ∷ VERSION.now ∷ []

-- ---- of a layer
abbrev pub objects_list : ListMember
objects_list = list_member OBJECTS.now MAX_OBJECTS

-- those of a layer of any kind
abbrev pub common_names : List (List ℕ)
common_names = TYPE.now ∷ id_member.name ∷ name_member.name ∷ visible_member.name ∷ properties_list.name ∷ []

-- those of a layer's kind
abbrev pub body_names : Body → List (List ℕ)
body_names (Tiles e cells) = ENCODING.now ∷ COMPRESSION.now ∷ WIDTH.now ∷ HEIGHT.now ∷ DATA.now ∷ []
body_names (Objects os) = objects_list.name ∷ []
body_names Other = []
body_names (Group' s r) = layers_list.name ∷ []

abbrev pub layer_names : Body → List (List ℕ)
layer_names body = common_names ++ body_names body

-- ---- of an object
abbrev pub x_member : Member
x_member = member X.now Pixels

abbrev pub y_member : Member
y_member = member Y.now Pixels

abbrev pub width_member : Member
width_member = member WIDTH.now Pixels

abbrev pub height_member : Member
height_member = member HEIGHT.now Pixels

abbrev pub gid_member : Member
gid_member = member GID.now (Whole 0 4294967295)

abbrev pub object_names : List (List ℕ)
object_names =
    id_member.name ∷ x_member.name ∷ y_member.name ∷ width_member.name ∷ height_member.name ∷ name_member.name ∷ visible_member.name
    ∷ gid_member.name ∷ properties_list.name ∷ []

-- ---- of a tileset
abbrev pub first_id_member : Member
first_id_member = member FIRST_ID.now (Whole 1 MAX_FIRST_ID)

abbrev pub source_member : Member
source_member = member SOURCE.now Text

abbrev pub tileset_names : List (List ℕ)
tileset_names = first_id_member.name ∷ source_member.name ∷ []

-- ---- of a property
abbrev pub property_type_member : Member
property_type_member = member TYPE.now Text

abbrev pub property_names : List (List ℕ)
property_names = name_member.name ∷ property_type_member.name ∷ VALUE.now ∷ []
