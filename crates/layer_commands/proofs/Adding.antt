-- A layer that is added.
use Rattle.std.proofs.Common.{◌≡◌, IsUtf8, ℕ, ◌*◌, ◌<◌, List, [], length, true, ltb, Option, Some, Result, Ok, refl, ap, arith}
use Rattle.std.proofs.lemmas.Bool.{and_parts, ltb-true}
use Rattle.map_model.specs.declared.limits.TheConstants.{MAX_LAYERS, MAX_NEXT_ID}
use Rattle.map_model.specs.declared.parts.Layer.{Layer}
use Rattle.map_model.specs.declared.parts.LayerKind.{LayerKind}
use Rattle.map_model.specs.declared.parts.LayerKind.TheVariants as kinds
use Rattle.map_model.specs.declared.parts.MoreLayerKind.{MoreLayerKind}
use Rattle.map_model.specs.declared.parts.MoreLayerKind.TheVariants as more_kinds
use Rattle.map_model.specs.declared.parts.MapParts.{MapParts}
use Rattle.map_model.specs.Document.{DocumentParts, with_map}
use Rattle.map_model.specs.Groups.{all_drawn, inside}
use Rattle.map_model.specs.NewMap.{new_layer, new_more_layer}
use Rattle.map_model.specs.Keeping.{layer_tier}
use Rattle.map_model.specs.WellFormed.{IsLayer, IsWellFormed, object_ids_in}
use Rattle.map_model.specs.Lists.{or_empty}
use Rattle.map_model.proofs.GroupBodies.{group_in-Group}
use Rattle.map_model.proofs.Keeps.{numbered-keeps}
use Rattle.map_model.proofs.NewMaps.{new_layer-IsLayer, new_more_layer-IsLayer}
use Rattle.command_api.specs.declared.EditFault.{EditFault}
use Rattle.command_api.specs.Making.{Makes}
use Rattle.command_api.proofs.Links.{link_made}
use Rattle.edits.specs.LayerEdits.{with_last, next_layer, after_add, after_add_more, has_room}
use Rattle.layer_commands.specs.Changes.{add_change, numbered}
use Rattle.layer_commands.specs.Names.{add_names}

new_layer-id : (kind : LayerKind) (id : ℕ) (name : List ℕ) (size : ℕ) → (new_layer kind id name size).id ≡ id
new_layer-id kinds.Tile id name size = refl
new_layer-id kinds.Object id name size = refl

new_layer-objects : (kind : LayerKind) (id : ℕ) (name : List ℕ) (size : ℕ) → object_ids_in (new_layer kind id name size).body ≡ []
new_layer-objects kinds.Tile id name size = refl
new_layer-objects kinds.Object id name size = refl

new_layer-inside : (kind : LayerKind) (id : ℕ) (name : List ℕ) (size : ℕ) → inside (new_layer kind id name size) ≡ []
new_layer-inside kinds.Tile id name size = refl
new_layer-inside kinds.Object id name size = refl

new_more_layer-id : (kind : MoreLayerKind) (id : ℕ) (name : List ℕ) → (new_more_layer kind id name).id ≡ id
new_more_layer-id more_kinds.Group id name = refl
new_more_layer-id more_kinds.Image id name = refl

new_more_layer-objects : (kind : MoreLayerKind) (id : ℕ) (name : List ℕ) → object_ids_in (new_more_layer kind id name).body ≡ []
new_more_layer-objects more_kinds.Group id name = refl
new_more_layer-objects more_kinds.Image id name = refl

new_more_layer-inside : (kind : MoreLayerKind) (id : ℕ) (name : List ℕ) → inside (new_more_layer kind id name) ≡ []
new_more_layer-inside more_kinds.Group id name = ap or_empty (group_in-Group [])
new_more_layer-inside more_kinds.Image id name = refl

-- a layer with the next id, in which nothing stands, is put in
numbered_made : (d : DocumentParts) (l : Layer) (loose : Option Layer) (after : Result DocumentParts EditFault) → has_room d.map ≡ true → loose ≡ Some l
    → IsLayer layer_tier (d.map.width * d.map.height) l → l.id ≡ d.map.next_layer_id → object_ids_in l.body ≡ [] → inside l ≡ [] → IsWellFormed d.map
    → after ≡ Ok (with_map (with_last l) d)
    → Makes add_names d after (add_change (numbered d.map loose))
numbered_made d l loose after room is layer id none alone h result =
    let both = and_parts (ltb (length (all_drawn d.map.layers)) MAX_LAYERS) (ltb d.map.next_layer_id MAX_NEXT_ID) room in
    rw is (
    link_made refl (record {
      ready = (refl, omega arith);
      before = h;
      after = numbered-keeps d.map (length d.map.layers) l (ltb-true (length (all_drawn d.map.layers)) MAX_LAYERS both.0)
          (ltb-true d.map.next_layer_id MAX_NEXT_ID both.1) layer id none alone h;
    }) result
    )

-- there is a next id that is no greatest one
pub room-next : (m : MapParts) → has_room m ≡ true → m.next_layer_id < MAX_NEXT_ID
room-next m room =
    let both = and_parts (ltb (length (all_drawn m.layers)) MAX_LAYERS) (ltb m.next_layer_id MAX_NEXT_ID) room in
    ltb-true m.next_layer_id MAX_NEXT_ID both.1

pub add_made : (d : DocumentParts) (kind : LayerKind) (name : List ℕ) (loose : Option Layer) → IsUtf8 name → loose ≡ Some (next_layer kind name d.map)
    → has_room d.map ≡ true → IsWellFormed d.map
    → Makes add_names d (after_add d kind name) (add_change (numbered d.map loose))
add_made d kind name loose utf8 is room h =
    let id = d.map.next_layer_id in
    let size = d.map.width * d.map.height in
    numbered_made d (next_layer kind name d.map) loose (after_add d kind name) room is (new_layer-IsLayer kind id name size utf8)
    (new_layer-id kind id name size) (new_layer-objects kind id name size) (new_layer-inside kind id name size) h (rw room refl)

pub add_more_made : (d : DocumentParts) (kind : MoreLayerKind) (name : List ℕ) (loose : Option Layer) → IsUtf8 name
    → loose ≡ Some (new_more_layer kind d.map.next_layer_id name) → has_room d.map ≡ true → IsWellFormed d.map
    → Makes add_names d (after_add_more d kind name) (add_change (numbered d.map loose))
add_more_made d kind name loose utf8 is room h =
    let id = d.map.next_layer_id in
    numbered_made d (new_more_layer kind id name) loose (after_add_more d kind name) room is
    (new_more_layer-IsLayer kind id name (d.map.width * d.map.height) utf8) (new_more_layer-id kind id name) (new_more_layer-objects kind id name)
    (new_more_layer-inside kind id name) h (rw room refl)
