-- The places of a document, and what stands at each of them.
use Rattle.std.specs.Prelude.{◌≡◌, ℕ, List, [], true, map, find, Option, option_and_then}
use Rattle.std.specs.Option.{option_map}
use Rattle.std.specs.FinSet as set
use Rattle.region.specs.Cells.{cell_cmp}
use Rattle.serde_json.specs.Data.{no_members}
use Rattle.map_model.specs.declared.heads.LayerHead.{LayerHead}
use Rattle.map_model.specs.declared.heads.MapHead.{MapHead}
use Rattle.map_model.specs.declared.heads.ObjectHead.{ObjectHead}
use Rattle.map_model.specs.declared.heads.TilesetHead.{TilesetHead}
use Rattle.map_model.specs.declared.owner.MemberOwner.{MemberOwner}
use Rattle.map_model.specs.declared.owner.MemberOwner.TheVariants as members
use Rattle.map_model.specs.declared.owner.Owner.{Owner}
use Rattle.map_model.specs.declared.parts.Layer.{Layer}
use Rattle.map_model.specs.declared.parts.MapParts.{MapParts}
use Rattle.map_model.specs.declared.parts.Property.{Property}
use Rattle.map_model.specs.Bodies.{body_with_contents}
use Rattle.map_model.specs.Document.{DocumentParts}
use Rattle.map_model.specs.Groups.{all_drawn}
use Rattle.map_model.specs.Heads.{head_of_map, head_with_id, layer_head_with_id, tileset_head_with_id}
use Rattle.map_model.specs.Lookups.{cell_of}
use Rattle.map_model.specs.Objects.{object_place}
use Rattle.map_model.specs.Properties.{has_name, owner_place, properties_of}

-- a cell of the layer with an id, by its column and row; the own members of an owner; the property of an owner with a name; the
-- layer in which the object with an id stands; the selection; and the outline of the map
pub data Place : Type 0 where
  Cell : ℕ → ℕ → ℕ → Place
  MembersOf : MemberOwner → Place
  PropertyOf : Owner → List ℕ → Place
  LayerOf : ℕ → Place
  Selection : Place
  Outline : Place

-- ---- the outline
-- a layer's id and what kind it is of, and nothing else
abbrev pub layer_outline : Layer → Layer
layer_outline l = record l {
  name = [];
  visible = true;
  properties = [];
  kept = no_members;
  body = body_with_contents (λ cells. []) (λ os. []) l.body;
}

abbrev pub drawn_outline : ℕ × Layer → ℕ × Layer
drawn_outline drawn = (drawn.0, layer_outline drawn.1)

-- the size of the map, the first ids of its tilesets, and the outlines of its layers in drawing order, each with its depth
pub record MapOutline : Type 0 where
  pub width : ℕ
  pub height : ℕ
  pub tilesets : List ℕ
  pub layers : List (ℕ × Layer)

abbrev pub outline_of : MapParts → MapOutline
outline_of m = record {
  width = m.width;
  height = m.height;
  tilesets = map (λ t. t.first_id) m.tilesets;
  layers = map drawn_outline (all_drawn m.layers);
}

-- ---- what stands at a place
-- the property of an owner with a name
abbrev pub property_named : MapParts → Owner → List ℕ → Option Property
property_named m owner name = option_and_then (find (has_name name)) (option_and_then (properties_of m) (owner_place m owner))

abbrev pub Content : Place → Type 0
Content (Cell layer x y) = Option ℕ
Content (MembersOf members.Map) = Option MapHead
Content (MembersOf (members.Layer id)) = Option LayerHead
Content (MembersOf (members.Object id)) = Option ObjectHead
Content (MembersOf (members.Tileset first_id)) = Option TilesetHead
Content (PropertyOf owner name) = Option Property
Content (LayerOf id) = Option ℕ
Content Selection = set.FinSet cell_cmp
Content Outline = MapOutline

-- what stands at a place of a document; nothing, where it has no such place
abbrev pub content : (place : Place) → DocumentParts → Content place
content (Cell layer x y) d = cell_of d.map layer x y
content (MembersOf members.Map) d = head_of_map.get d
content (MembersOf (members.Layer id)) d = (layer_head_with_id id).get d
content (MembersOf (members.Object id)) d = (head_with_id id).get d
content (MembersOf (members.Tileset first_id)) d = (tileset_head_with_id first_id).get d
content (PropertyOf owner name) d = property_named d.map owner name
content (LayerOf id) d = option_map (λ at. at.layer) (object_place d.map id)
content Selection d = d.selection
content Outline d = outline_of d.map

-- two documents have the same at a place
abbrev pub AgreeAt : Place → DocumentParts → DocumentParts → Type 0
AgreeAt place d e = content place d ≡ content place e
