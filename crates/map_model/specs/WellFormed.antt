-- When a map is well formed.
use Rattle.std.specs.Prelude.{◌≡◌, IsUtf8, ℕ, ◌-◌, ◌*◌, ◌^◌, ◌<◌, ◌≤◌, ℤ, pos, neg_ℤ, ◌≤ℤ◌, List, [], ◌∷◌, length, IfSome}
use Rattle.std.specs.List.{flat_map}
use Rattle.map_model.specs.declared.limits.TheConstants.{MAX_SIDE, MAX_CELLS, MAX_TILE_SIDE, MAX_LAYERS, MAX_OBJECTS, MAX_PROPERTIES, MAX_TILESETS, MAX_NEXT_ID}
use Rattle.map_model.specs.declared.limits.TheConstants.{MAX_FIRST_ID, MAX_PIXELS}
use Rattle.map_model.specs.declared.parts.PropValue.{PropValue}
use Rattle.map_model.specs.declared.parts.PropValue.TheVariants as values
use Rattle.map_model.specs.declared.parts.Property.{Property}
use Rattle.map_model.specs.declared.parts.Placing.{Placing}
use Rattle.map_model.specs.declared.parts.Object.{Object}
use Rattle.map_model.specs.declared.parts.Body.{Body}
use Rattle.map_model.specs.declared.parts.Body.TheVariants.{Tiles, Objects, Other, Group'}
use Rattle.map_model.specs.declared.parts.Layer.{Layer}
use Rattle.map_model.specs.declared.parts.Tileset.{Tileset}
use Rattle.map_model.specs.declared.parts.MapParts.{MapParts}
use Rattle.map_model.specs.Bodies.{objects_in}
use Rattle.map_model.specs.Groups.{all_drawn}
use Rattle.map_model.specs.Lists.{Each, Distinct, or_empty}
use Rattle.map_model.specs.Keeping.{AreKept, IsKeptValue, map_tier, deepest_tier, object_tier, tileset_tier, property_tier}
use Rattle.map_model.specs.Format.{map_names, layer_names}
use Rattle.map_model.specs.Format.{object_names, tileset_names, property_names}

-- ---- sizes
-- a map is at least 1 cell wide and high
pub record IsSize (width height : ℕ) : Type 0 where
  pub wide : 1 ≤ width
  pub high : 1 ≤ height
  pub width_limit : width ≤ MAX_SIDE
  pub height_limit : height ≤ MAX_SIDE
  pub cells_limit : width * height ≤ MAX_CELLS

-- a tile is at least 1 pixel wide and high
pub record IsTileSize (width height : ℕ) : Type 0 where
  pub wide : 1 ≤ width
  pub high : 1 ≤ height
  pub width_limit : width ≤ MAX_TILE_SIDE
  pub height_limit : height ≤ MAX_TILE_SIDE

-- ---- ids
-- an id from 1 on, below the next one
pub record IsId (next id : ℕ) : Type 0 where
  pub low : 1 ≤ id
  pub high : id < next

-- distinct ids below the next one
pub record AreIds (next : ℕ) (ids : List ℕ) : Type 0 where
  pub next_low : 1 ≤ next
  pub next_high : next ≤ MAX_NEXT_ID
  pub each : Each (IsId next) ids
  pub distinct : Distinct ids

-- the ids of a layer, and those of all layers, in drawing order
abbrev pub ids_of : ℕ × Layer → List ℕ
ids_of d = d.1.id ∷ []

abbrev pub layer_ids : List Layer → List ℕ
layer_ids ls = flat_map ids_of (all_drawn ls)

-- the ids of an object
abbrev pub ids_of_object : Object → List ℕ
ids_of_object o = o.id ∷ []

-- the ids of the objects in a layer, and of those in all layers
abbrev pub object_ids_in : Body → List ℕ
object_ids_in b = flat_map ids_of_object (or_empty (objects_in b))

abbrev pub object_ids_of : ℕ × Layer → List ℕ
object_ids_of d = object_ids_in d.1.body

abbrev pub object_ids : List Layer → List ℕ
object_ids ls = flat_map object_ids_of (all_drawn ls)

-- ---- properties
-- a whole number of 64 bits
pub record IsWhole (z : ℤ) : Type 0 where
  pub low : neg_ℤ (pos (2 ^ 63)) ≤ℤ z
  pub high : z ≤ℤ pos (2 ^ 63 - 1)

-- a value that a text, a whole number or a truth value can hold is held so
abbrev pub IsValue : ℕ → PropValue → Type 0
IsValue tier (values.Text s) = IsUtf8 s
IsValue tier (values.Whole z) = IsWhole z
IsValue tier (values.Truth b) = Unit {0}
IsValue tier (values.Other d) = IsKeptValue tier d

pub record IsProperty (tier : ℕ) (p : Property) : Type 0 where
  pub name : IsUtf8 p.name
  pub kind : IsUtf8 p.kind
  pub value : IsValue tier p.value
  pub kept : AreKept tier property_names p.kept

-- the names of a property
abbrev pub names_of_property : Property → List (List ℕ)
names_of_property p = p.name ∷ []

-- the properties of an owner at this tier, with distinct names
pub record AreProperties (tier : ℕ) (ps : List Property) : Type 0 where
  pub few : length ps ≤ MAX_PROPERTIES
  pub each : Each (IsProperty (property_tier tier)) ps
  pub distinct : Distinct (flat_map names_of_property ps)

-- ---- objects
-- a number of an object, in pixels
pub record IsPixels (z : ℤ) : Type 0 where
  pub low : neg_ℤ MAX_PIXELS ≤ℤ z
  pub high : z ≤ℤ MAX_PIXELS

pub record IsPlacing (p : Placing) : Type 0 where
  pub x : IfSome p.x IsPixels
  pub y : IfSome p.y IsPixels
  pub width : IfSome p.width IsPixels
  pub height : IfSome p.height IsPixels

-- a tile value is a number of 32 bits
abbrev pub IsTileValue : ℕ → Type 0
IsTileValue value = value < 2 ^ 32

-- an object at this tier
pub record IsObject (tier : ℕ) (o : Object) : Type 0 where
  pub placing : IsPlacing o.placing
  pub name : IfSome o.name IsUtf8
  pub gid : IfSome o.gid IsTileValue
  pub properties : AreProperties tier o.properties
  pub kept : AreKept tier object_names o.kept

-- ---- layers
-- a tile layer has one value for each cell of the map, and a group leaves room for layers in it
abbrev pub IsBody : ℕ → ℕ → Body → Type 0
IsBody tier size (Tiles e cells) = (length cells ≡ size) × Each IsTileValue cells
IsBody tier size (Objects os) = (length os ≤ MAX_OBJECTS) × Each (IsObject (object_tier tier)) os
IsBody tier size Other = Unit {0}
IsBody tier size (Group' s r) = tier < deepest_tier

-- a layer at this tier, of a map of so many cells
pub record IsLayer (tier size : ℕ) (l : Layer) : Type 0 where
  pub name : IsUtf8 l.name
  pub properties : AreProperties tier l.properties
  pub kept : AreKept tier (layer_names l.body) l.kept
  pub body : IsBody tier size l.body

-- a layer of a map of so many cells, with its tier
abbrev pub IsDrawn : ℕ → ℕ × Layer → Type 0
IsDrawn size d = IsLayer d.0 size d.1

-- the layers of a map of so many cells, in drawing order and with these next ids
pub record AreDrawn (size next_layer next_object : ℕ) (ds : List (ℕ × Layer)) : Type 0 where
  pub few : length ds ≤ MAX_LAYERS
  pub each : Each (IsDrawn size) ds
  pub layer_ids : AreIds next_layer (flat_map ids_of ds)
  pub object_ids : AreIds next_object (flat_map object_ids_of ds)

-- layers, and those that stand in them, of a map of so many cells and with these next ids
abbrev pub AreLayers : ℕ → ℕ → ℕ → List Layer → Type 0
AreLayers size next_layer next_object ls = AreDrawn size next_layer next_object (all_drawn ls)

-- ---- tilesets
pub record IsTileset (t : Tileset) : Type 0 where
  pub low : 1 ≤ t.first_id
  pub high : t.first_id ≤ MAX_FIRST_ID
  pub source : IfSome t.source IsUtf8
  pub kept : AreKept tileset_tier tileset_names t.kept

-- the first ids of a tileset
abbrev pub first_ids_of : Tileset → List ℕ
first_ids_of t = t.first_id ∷ []

-- tilesets with distinct first ids
pub record AreTilesets (ts : List Tileset) : Type 0 where
  pub few : length ts ≤ MAX_TILESETS
  pub each : Each IsTileset ts
  pub distinct : Distinct (flat_map first_ids_of ts)

-- ---- maps
pub record IsWellFormed (m : MapParts) : Type 0 where
  pub size : IsSize m.width m.height
  pub tile_size : IsTileSize m.tile_width m.tile_height
  pub layers : AreLayers (m.width * m.height) m.next_layer_id m.next_object_id m.layers
  pub tilesets : AreTilesets m.tilesets
  pub properties : AreProperties map_tier m.properties
  pub kept : AreKept map_tier map_names m.kept
