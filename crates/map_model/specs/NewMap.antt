-- New layers and objects, and a new map as the session line `new` makes it.
use Rattle.std.specs.Prelude.{ℕ, ◌*◌, List, [], ◌∷◌, true, Some, None, replicate, codes}
use Rattle.serde_json.specs.Data.{number, unsigned, string, Members, no_members, member}
use Rattle.map_model.specs.declared.parts.Encoding.TheVariants.{Array}
use Rattle.map_model.specs.declared.parts.Body.TheVariants.{Tiles, Objects, Other, Group}
use Rattle.map_model.specs.declared.parts.LayerKind.{LayerKind}
use Rattle.map_model.specs.declared.parts.LayerKind.TheVariants as kinds
use Rattle.map_model.specs.declared.parts.MoreLayerKind.{MoreLayerKind}
use Rattle.map_model.specs.declared.parts.MoreLayerKind.TheVariants as more_kinds
use Rattle.map_model.specs.declared.parts.Layer.{Layer}
use Rattle.map_model.specs.declared.parts.MapParts.{MapParts}
use Rattle.map_model.specs.declared.parts.Tileset.{Tileset}
use Rattle.map_model.specs.declared.parts.Object.{Object}
use Rattle.map_model.specs.declared.parts.Placing.{Placing}

-- the members that a new tile layer keeps
abbrev pub tile_layer_members : Members
tile_layer_members = member (codes "opacity") (number (unsigned 1))
    (member (codes "x") (number (unsigned 0)) (member (codes "y") (number (unsigned 0)) no_members))

-- the members that a new object layer keeps
abbrev pub object_layer_members : Members
object_layer_members = member (codes "draworder") (string (codes "topdown")) tile_layer_members

-- the members that a new image layer keeps
abbrev pub image_layer_members : Members
image_layer_members = member (codes "image") (string []) tile_layer_members

-- the members that a new map keeps
abbrev pub map_members : Members
map_members = member (codes "orientation") (string (codes "orthogonal")) (member (codes "renderorder") (string (codes "right-down")) no_members)

-- a visible tile layer of so many empty cells
abbrev pub empty_layer : ℕ → List ℕ → ℕ → Layer
empty_layer id name size = record {
  id = id;
  name = name;
  visible = true;
  properties = [];
  kept = tile_layer_members;
  body = Tiles Array (replicate size 0);
}

-- a visible object layer without objects
abbrev pub empty_object_layer : ℕ → List ℕ → Layer
empty_object_layer id name = record {
  id = id;
  name = name;
  visible = true;
  properties = [];
  kept = object_layer_members;
  body = Objects [];
}

-- a new layer of a map of so many cells
abbrev pub new_layer : LayerKind → ℕ → List ℕ → ℕ → Layer
new_layer kinds.Tile id name size = empty_layer id name size
new_layer kinds.Object id name size = empty_object_layer id name

-- a visible group in which no layer stands
abbrev pub empty_group : ℕ → List ℕ → Layer
empty_group id name = record { id = id; name = name; visible = true; properties = []; kept = tile_layer_members; body = Group [] }

-- a visible image layer that shows no image
abbrev pub empty_image_layer : ℕ → List ℕ → Layer
empty_image_layer id name = record { id = id; name = name; visible = true; properties = []; kept = image_layer_members; body = Other }

-- a new layer of a further kind
abbrev pub new_more_layer : MoreLayerKind → ℕ → List ℕ → Layer
new_more_layer more_kinds.Group id name = empty_group id name
new_more_layer more_kinds.Image id name = empty_image_layer id name

-- a tileset whose tiles stand in a file of their own
abbrev pub external_tileset : ℕ → List ℕ → Tileset
external_tileset first_id source = record { first_id = first_id; source = Some source; kept = no_members }

-- the members that a new object keeps
abbrev pub object_members : Members
object_members = member (codes "rotation") (number (unsigned 0)) (member (codes "type") (string []) no_members)

-- a visible object that shows no tile
abbrev pub new_object : ℕ → Placing → List ℕ → Object
new_object id placing name = record {
  id = id;
  placing = placing;
  name = Some name;
  visible = Some true;
  gid = None;
  properties = [];
  kept = object_members;
}

-- a map of one empty tile layer and one external tileset, from 1 on
abbrev pub new_map : ℕ → ℕ → ℕ → ℕ → List ℕ → MapParts
new_map width height tile_width tile_height source = record {
  width = width;
  height = height;
  tile_width = tile_width;
  tile_height = tile_height;
  layers = empty_layer 1 (codes "Tile Layer 1") (width * height) ∷ [];
  tilesets = external_tileset 1 source ∷ [];
  properties = [];
  next_layer_id = 2;
  next_object_id = 1;
  kept = map_members;
}
