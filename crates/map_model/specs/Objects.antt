-- Objects: where they stand, and layers with others.
use Rattle.std.specs.Prelude.{ℕ, ◌≤◌, List, Bool, nat_eq, length, Option, IsSomeAnd, option_and_then, slice_get, position, ℤ, ◌+ℤ◌}
use Rattle.std.specs.Option.{option_map}
use Rattle.std.specs.List.{insert, remove}
use Rattle.map_model.specs.declared.parts.Layer.{Layer}
use Rattle.map_model.specs.declared.parts.MapParts.{MapParts}
use Rattle.map_model.specs.declared.parts.Object.{Object}
use Rattle.map_model.specs.declared.parts.Placing.{Placing}
use Rattle.map_model.specs.declared.place.ObjectPlace.{ObjectPlace}
use Rattle.map_model.specs.Bodies.{body_with_objects, objects_in}
use Rattle.map_model.specs.Groups.{all_drawn}
use Rattle.map_model.specs.Lists.{change_at, first_some}
use Rattle.map_model.specs.Lookups.{layer_of, with_layer}

-- ---- the objects of a layer
-- the objects of an object layer; another layer has no list of them
abbrev pub objects_of : Layer → Option (List Object)
objects_of l = objects_in l.body

-- an object layer with f of its objects; another layer as it is
abbrev pub layer_with_objects : (List Object → List Object) → Layer → Layer
layer_with_objects f l = record l { body = body_with_objects f l.body }

-- ---- where an object stands
-- whether an object has the id
abbrev pub has_object_id : ℕ → Object → Bool
has_object_id id o = nat_eq o.id id

-- the place so far from the first object of a layer
abbrev pub place_of_layer : Layer → ℕ → ObjectPlace
place_of_layer l at = record { layer = l.id; at = at }

-- the place in the same layer, so far from its first object
abbrev pub sibling_object_place : ObjectPlace → ℕ → ObjectPlace
sibling_object_place place at = record place { at = at }

-- the place of the object with the id in a layer
abbrev pub place_in_layer : ℕ → ℕ × Layer → Option ObjectPlace
place_in_layer id d = option_map (place_of_layer d.1) (option_and_then (position (has_object_id id)) (objects_of d.1))

-- the place of the object with the id, in the first layer in drawing order that has one
abbrev pub object_place : MapParts → ℕ → Option ObjectPlace
object_place m id = first_some (place_in_layer id) (all_drawn m.layers)

-- the object with the id in a layer, behind its place
abbrev pub found_at : Layer → List Object → ℕ → Option (ObjectPlace × Object)
found_at l os at = option_map (λ o. (place_of_layer l at, o)) (slice_get os at)

abbrev pub found_in_layer : ℕ → ℕ × Layer → Option (ObjectPlace × Object)
found_in_layer id d = option_and_then (λ os. option_and_then (found_at d.1 os) (position (has_object_id id) os)) (objects_of d.1)

-- the objects of the object layer with the id
abbrev pub objects_of_layer : MapParts → ℕ → Option (List Object)
objects_of_layer m layer = option_and_then objects_of (layer_of m layer)

-- the object at a place
abbrev pub object_at : MapParts → ObjectPlace → Option Object
object_at m place = option_and_then (λ os. slice_get os place.at) (objects_of_layer m place.layer)

-- the place behind the last object of the object layer with the id
abbrev pub last_object_place : MapParts → ℕ → Option ObjectPlace
last_object_place m layer = option_map (λ os. record { layer = layer; at = length os }) (objects_of_layer m layer)

-- an object put in at the place would stand in its layer, or behind its last object
abbrev pub IsObjectPlaceIn : MapParts → ObjectPlace → Type 0
IsObjectPlaceIn m place = IsSomeAnd (objects_of_layer m place.layer) (λ os. place.at ≤ length os)

-- ---- maps with other objects
-- the map with f of the objects of the layer with the id
abbrev pub with_objects : ℕ → (List Object → List Object) → MapParts → MapParts
with_objects layer f m = with_layer layer (layer_with_objects f) m

-- the map with an object put in at a place: those from there on stand one place higher
abbrev pub with_object_at : ObjectPlace → Object → MapParts → MapParts
with_object_at place o m = with_objects place.layer (λ os. insert os place.at o) m

-- the map without the object at a place
abbrev pub without_object_at : ObjectPlace → MapParts → MapParts
without_object_at place m = with_objects place.layer (λ os. remove os place.at) m

-- the map with f of the object at a place in its place
abbrev pub with_object : ObjectPlace → (Object → Object) → MapParts → MapParts
with_object place f m = with_objects place.layer (change_at place.at f) m

abbrev pub object_placing : Object → Placing
object_placing o = o.placing

abbrev pub object_with_placing : Placing → Object → Object
object_with_placing placing o = record o { placing = placing }

-- ---- objects that are moved
-- an object's numbers, moved by so many pixels to the right and down; a number that is absent stays so
abbrev pub placing_moved : ℤ → ℤ → Placing → Placing
placing_moved right down p = record p { x = option_map (λ x. x +ℤ right) p.x; y = option_map (λ y. y +ℤ down) p.y }

abbrev pub object_moved : ℤ → ℤ → Object → Object
object_moved right down o = record o { placing = placing_moved right down o.placing }
