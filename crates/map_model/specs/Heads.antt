-- The heads of owners: what an object, a layer, a tileset or a map is beside its id, its size and its lists; and owners with another head.
use Rattle.std.specs.Prelude.{ℕ, List}
use Rattle.std.specs.Ordering.{nat_cmp, match_ordering}
use Rattle.std.specs.Cmp.Lexicographic.{slice_cmp}
use Rattle.serde_json.specs.Data.{Data, Members, no_members, member}
use Rattle.serde_json.specs.Find.{get_member}
use Rattle.map_model.specs.declared.heads.LayerHead.{LayerHead}
use Rattle.map_model.specs.declared.heads.MapHead.{MapHead}
use Rattle.map_model.specs.declared.heads.ObjectHead.{ObjectHead}
use Rattle.map_model.specs.declared.heads.TilesetHead.{TilesetHead}
use Rattle.map_model.specs.declared.parts.Layer.{Layer}
use Rattle.map_model.specs.declared.parts.MapParts.{MapParts}
use Rattle.map_model.specs.declared.parts.Object.{Object}
use Rattle.map_model.specs.declared.parts.Tileset.{Tileset}
use Rattle.map_model.specs.Document.{DocumentParts, with_map}
use Rattle.map_model.specs.Lens.{Lens, found, inner, of_layer, of_object, of_tileset, whole}
use Rattle.map_model.specs.Objects.{object_place}

-- ---- objects

abbrev pub object_head : Object → ObjectHead
object_head o = record { placing = o.placing; name = o.name; visible = o.visible; gid = o.gid; kept = o.kept }

abbrev pub object_with_head : ObjectHead → Object → Object
object_with_head h o = record o { placing = h.placing; name = h.name; visible = h.visible; gid = h.gid; kept = h.kept }

-- the lens of an object's head
abbrev pub head : Lens Object ObjectHead
head = whole object_head object_with_head

-- the head of the object with the id
abbrev pub head_with_id : ℕ → Lens DocumentParts ObjectHead
head_with_id id = found (λ d. object_place d.map id) (λ place. of_object place head)

-- ---- layers
abbrev pub layer_head : Layer → LayerHead
layer_head l = record { name = l.name; visible = l.visible; kept = l.kept }

abbrev pub layer_with_head : LayerHead → Layer → Layer
layer_with_head h l = record l { name = h.name; visible = h.visible; kept = h.kept }

-- the lens of a layer's head
abbrev pub head_of_layer : Lens Layer LayerHead
head_of_layer = whole layer_head layer_with_head

-- the head of the layer with the id
abbrev pub layer_head_with_id : ℕ → Lens DocumentParts LayerHead
layer_head_with_id id = of_layer id head_of_layer

-- ---- tilesets
abbrev pub tileset_head : Tileset → TilesetHead
tileset_head t = record { source = t.source; kept = t.kept }

abbrev pub tileset_with_head : TilesetHead → Tileset → Tileset
tileset_with_head h t = record t { source = h.source; kept = h.kept }

-- the lens of a tileset's head
abbrev pub head_of_tileset : Lens Tileset TilesetHead
head_of_tileset = whole tileset_head tileset_with_head

-- the head of the tileset with the first id
abbrev pub tileset_head_with_id : ℕ → Lens DocumentParts TilesetHead
tileset_head_with_id first_id = of_tileset first_id head_of_tileset

-- the members, with f of the value of this name in its place
abbrev pub with_member : List ℕ → (Data → Data) → Members → Members
with_member k f no_members = no_members
with_member k f (member l d ms) = match_ordering (slice_cmp nat_cmp k l) (member l d (with_member k f ms)) (member l (f d) ms) (member l d (with_member k f ms))

-- the lens of the value of this name
abbrev pub value_named : List ℕ → Lens Members Data
value_named name = record { get = get_member name; update = with_member name }

-- the kept members of a tileset
abbrev pub kept_of_tileset : Lens Tileset Members
kept_of_tileset = whole (λ t. t.kept) (λ kept t. record t { kept = kept })

-- the value of the kept member of a name, of the tileset with the first id
abbrev pub tileset_value : ℕ → List ℕ → Lens DocumentParts Data
tileset_value first_id name = of_tileset first_id (inner kept_of_tileset (value_named name))

-- ---- maps
abbrev pub map_head : MapParts → MapHead
map_head m = record {
  tile_width = m.tile_width;
  tile_height = m.tile_height;
  next_layer_id = m.next_layer_id;
  next_object_id = m.next_object_id;
  kept = m.kept;
}

abbrev pub map_with_head : MapHead → MapParts → MapParts
map_with_head h m = record m {
  tile_width = h.tile_width;
  tile_height = h.tile_height;
  next_layer_id = h.next_layer_id;
  next_object_id = h.next_object_id;
  kept = h.kept;
}

-- the lens of the map's head
abbrev pub head_of_map : Lens DocumentParts MapHead
head_of_map = whole (λ d. map_head d.map) (λ h. with_map (map_with_head h))
