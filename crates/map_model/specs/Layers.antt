-- Layers put in, taken out and changed.
use Rattle.std.specs.Prelude.{ℕ, zero, suc, ◌≤◌, List, Bool, Option, Some, None, IsSomeAnd, option_and_then, length, slice_get, position}
use Rattle.std.specs.Option.{option_map}
use Rattle.std.specs.List.{insert, remove}
use Rattle.map_model.specs.declared.limits.TheConstants.{MAX_GROUPS}
use Rattle.map_model.specs.declared.parts.Layer.{Layer}
use Rattle.map_model.specs.declared.parts.MapParts.{MapParts}
use Rattle.map_model.specs.declared.next_ids.NextIds.{NextIds}
use Rattle.map_model.specs.declared.place.LayerPlace.{LayerPlace}
use Rattle.map_model.specs.Groups.{group_of, has_id, inside, layer_with_layers}
use Rattle.map_model.specs.Lists.{first_some, or_else}
use Rattle.map_model.specs.Lookups.{layer_of, with_layer}

-- ---- where a layer stands
-- the place so far from the first layer of a group, or of the map's own
abbrev pub place_under : Option ℕ → ℕ → LayerPlace
place_under parent at = record { parent = parent; at = at }

-- the place so far from the first of the layers among which a place stands
abbrev pub sibling_place : LayerPlace → ℕ → LayerPlace
sibling_place place at = record place { at = at }

-- the place of the layer with the id, in layers of this parent, or else in one that stands in them
unfoldable pub place_among : ℕ → ℕ → Option ℕ → List Layer → Option LayerPlace
place_among id zero parent ls = option_map (place_under parent) (position (has_id id) ls)
place_among id (suc groups) parent ls =
    or_else (option_map (place_under parent) (position (has_id id) ls)) (first_some (λ l. place_among id groups (Some l.id) (inside l)) ls)

-- the place of the layer with the id, among those that stand in a layer, or in one of them
abbrev pub place_inside : ℕ → ℕ → Layer → Option LayerPlace
place_inside id groups l = place_among id groups (Some l.id) (inside l)

-- the place of the layer with the id
abbrev pub layer_place : MapParts → ℕ → Option LayerPlace
layer_place m id = place_among id MAX_GROUPS None m.layers

-- the layers of this parent: those of a group, or else the map's own
abbrev pub siblings_of : MapParts → Option ℕ → Option (List Layer)
siblings_of m None = Some m.layers
siblings_of m (Some id) = option_and_then group_of (layer_of m id)

-- the map with f of the layers of this parent
abbrev pub with_siblings : Option ℕ → (List Layer → List Layer) → MapParts → MapParts
with_siblings None f m = record m { layers = f m.layers }
with_siblings (Some id) f m = with_layer id (layer_with_layers f) m

-- the layer at a place
abbrev pub layer_at : MapParts → LayerPlace → Option Layer
layer_at m place = option_and_then (λ ls. slice_get ls place.at) (siblings_of m place.parent)

-- a layer put in at the place would stand among the layers of its parent, or behind the last of them
abbrev pub IsPlaceIn : MapParts → LayerPlace → Type 0
IsPlaceIn m place = IsSomeAnd (siblings_of m place.parent) (λ ls. place.at ≤ length ls)

-- the place behind the last layer that stands in no group
abbrev pub last_place : MapParts → LayerPlace
last_place m = place_under None (length m.layers)

-- how many layers stand among those of a place, its own included
abbrev pub count_of : Option (List Layer) → ℕ
count_of None = 0
count_of (Some ls) = length ls

abbrev pub sibling_count : MapParts → LayerPlace → ℕ
sibling_count m place = count_of (siblings_of m place.parent)

-- the map with a layer put in at a place: those from there on stand one place higher
abbrev pub with_layer_at : LayerPlace → Layer → MapParts → MapParts
with_layer_at place l m = with_siblings place.parent (λ ls. insert ls place.at l) m

-- the map without the layer at a place
abbrev pub without_layer_at : LayerPlace → MapParts → MapParts
without_layer_at place m = with_siblings place.parent (λ ls. remove ls place.at) m

-- ---- a layer's name, and whether it is shown
abbrev pub layer_name : Layer → List ℕ
layer_name l = l.name

abbrev pub layer_with_name : List ℕ → Layer → Layer
layer_with_name name l = record l { name = name }

abbrev pub layer_visible : Layer → Bool
layer_visible l = l.visible

abbrev pub layer_with_visible : Bool → Layer → Layer
layer_with_visible visible l = record l { visible = visible }

-- ---- the next ids
-- the map with these next ids, of a layer and of an object
abbrev pub with_next_ids : ℕ → ℕ → MapParts → MapParts
with_next_ids layer object m = record m { next_layer_id = layer; next_object_id = object }

abbrev pub next_ids_of : MapParts → NextIds
next_ids_of m = record { layer = m.next_layer_id; object = m.next_object_id }
