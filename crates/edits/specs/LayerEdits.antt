-- The document after an edit of its layers, or the edit's refusal.
use Rattle.std.specs.Prelude.{ℕ, ◌+◌, ◌*◌, List, [], ◌∷◌, Bool, ◌&&◌, not, nat_le, nat_lt, Option, Some, None, is_some, Result, Ok, length}
use Rattle.std.specs.Option.{ok_or}
use Rattle.map_model.specs.declared.limits.TheConstants.{MAX_LAYERS, MAX_NEXT_ID}
use Rattle.map_model.specs.declared.parts.Layer.{Layer}
use Rattle.map_model.specs.declared.parts.LayerKind.{LayerKind}
use Rattle.map_model.specs.declared.parts.MoreLayerKind.{MoreLayerKind}
use Rattle.map_model.specs.declared.parts.MapParts.{MapParts}
use Rattle.map_model.specs.declared.place.LayerPlace.{LayerPlace}
use Rattle.map_model.specs.Document.{DocumentParts, with_map}
use Rattle.map_model.specs.Groups.{all_drawn, group_of}
use Rattle.map_model.specs.Layers.{layer_place, layer_at, last_place, place_under, sibling_count, sibling_place, with_layer_at, without_layer_at, layer_with_name}
use Rattle.map_model.specs.Layers.{layer_with_visible, with_next_ids}
use Rattle.map_model.specs.Moving.{is_parent_in, layer_fits, other_layers, tier_in}
use Rattle.map_model.specs.NewLayers.{own_count, own_layer_ids, own_object_ids}
use Rattle.map_model.specs.NewMap.{new_layer, new_more_layer}
use Rattle.map_model.specs.Lookups.{layer_of, with_layer}
use Rattle.map_model.specs.Refusing.{◌>>=◌, ◌>>◌, check}
use Rattle.edits.specs.ObjectEdits.{next_above}
use Rattle.refusals.specs.declared.edit_fault.EditFault.{EditFault}
use Rattle.refusals.specs.declared.edit_fault.EditFault.TheVariants.{LayerOfAnotherKind, NoSuchLayer, OutOfRange, TooMany}

-- ---- a layer more
-- the layer goes last, and the next layer id is one higher
abbrev pub with_last : Layer → MapParts → MapParts
with_last l m = with_next_ids (m.next_layer_id + 1) m.next_object_id (with_layer_at (last_place m) l m)

-- the layer that a map would get, with the next layer id
abbrev pub next_layer : LayerKind → List ℕ → MapParts → Layer
next_layer kind name m = new_layer kind m.next_layer_id name (m.width * m.height)

-- there may be one more layer, those in groups counted too, and one more id
abbrev pub has_room : MapParts → Bool
has_room m = nat_lt (length (all_drawn m.layers)) MAX_LAYERS && nat_lt m.next_layer_id MAX_NEXT_ID

abbrev pub after_add : DocumentParts → LayerKind → List ℕ → Result DocumentParts EditFault
after_add d kind name = do
  check (has_room d.map) TooMany
  Ok (with_map (with_last (next_layer kind name d.map)) d)

-- a layer of a further kind
abbrev pub after_add_more : DocumentParts → MoreLayerKind → List ℕ → Result DocumentParts EditFault
after_add_more d kind name = do
  check (has_room d.map) TooMany
  Ok (with_map (with_last (new_more_layer kind d.map.next_layer_id name)) d)

-- ---- a layer less
abbrev pub after_remove : DocumentParts → ℕ → Result DocumentParts EditFault
after_remove d id = do
  place ← ok_or (layer_place d.map id) NoSuchLayer
  Ok (with_map (without_layer_at place) d)

-- ---- a layer at another place
-- a layer, where there is one, put in at a place
abbrev pub put_in : Option Layer → LayerPlace → MapParts → MapParts
put_in None place m = m
put_in (Some l) place m = with_layer_at place l m

-- the layer at one place is taken out, and put in at the other, which is its place in the result
abbrev pub with_layer_moved : LayerPlace → LayerPlace → MapParts → MapParts
with_layer_moved from to m = put_in (layer_at m from) to (without_layer_at from m)

abbrev pub after_move : DocumentParts → ℕ → ℕ → Result DocumentParts EditFault
after_move d id to = do
  from ← ok_or (layer_place d.map id) NoSuchLayer
  check (nat_lt to (sibling_count d.map from)) OutOfRange
  Ok (with_map (with_layer_moved from (sibling_place from to)) d)

-- ---- a layer in another group
-- the layers of a parent: those of a group, or else the map's own
abbrev pub siblings_or_fault : MapParts → Option ℕ → Result (List Layer) EditFault
siblings_or_fault m None = Ok m.layers
siblings_or_fault m (Some id) = do
  l ← ok_or (layer_of m id) NoSuchLayer
  ok_or (group_of l) LayerOfAnotherKind

-- The layer goes, with all in it, to a place among the other layers of the parent, which may be its own. It may not go into itself.
-- It may stand in too many groups there, or a layer in it, and what a file kept of them may nest too deep.
abbrev pub after_layer_into : DocumentParts → ℕ → Option ℕ → ℕ → Result DocumentParts EditFault
after_layer_into d id parent at = do
  from ← ok_or (layer_place d.map id) NoSuchLayer
  l ← ok_or (layer_at d.map from) NoSuchLayer
  layers ← siblings_or_fault d.map parent
  check (not (is_parent_in l parent)) OutOfRange
  check (nat_le at (other_layers from parent layers)) OutOfRange
  check (layer_fits (tier_in d.map parent) l) OutOfRange
  Ok (with_map (with_layer_moved from (place_under parent at)) d)

-- ---- a layer more, as it is given
-- the next id, above these ids too
abbrev pub next_above_all : List ℕ → ℕ → ℕ
next_above_all [] next = next
next_above_all (id ∷ ids) next = next_above_all ids (next_above id next)

-- the layer stands at the place, and the next ids are above all ids in it
abbrev pub with_given_layer : LayerPlace → Layer → MapParts → MapParts
with_given_layer place l m =
    with_next_ids (next_above_all (own_layer_ids l) m.next_layer_id) (next_above_all (own_object_ids l) m.next_object_id) (with_layer_at place l m)

-- there may be one more layer, with those that stand in it
abbrev pub has_room_for : MapParts → Layer → Bool
has_room_for m l = nat_le (length (all_drawn m.layers) + own_count l) MAX_LAYERS

-- The layer goes, with all in it, to a place among the layers of the parent. It may stand in too many groups there, or a layer in
-- it.
abbrev pub after_put_layer : DocumentParts → Option ℕ → ℕ → Layer → Result DocumentParts EditFault
after_put_layer d parent at l = do
  layers ← siblings_or_fault d.map parent
  check (nat_le at (length layers)) OutOfRange
  check (layer_fits (tier_in d.map parent) l) OutOfRange
  check (has_room_for d.map l) TooMany
  Ok (with_map (with_given_layer (place_under parent at) l) d)

-- ---- a layer changed where it stands
abbrev pub after_rename : DocumentParts → ℕ → List ℕ → Result DocumentParts EditFault
after_rename d id name = do
  check (is_some (layer_of d.map id)) NoSuchLayer
  Ok (with_map (with_layer id (layer_with_name name)) d)

abbrev pub after_show : DocumentParts → ℕ → Bool → Result DocumentParts EditFault
after_show d id visible = do
  check (is_some (layer_of d.map id)) NoSuchLayer
  Ok (with_map (with_layer id (layer_with_visible visible)) d)
