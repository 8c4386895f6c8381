-- The document after an edit of its objects, or the edit's refusal.
use Rattle.std.specs.Prelude.{ℕ, ◌+◌, ℤ, pos, int_le, List, Bool, true, false, ◌&&◌, ◌||◌, nat_le, nat_lt, if◌then◌else◌, Option, Some, Result, Ok, length}
use Rattle.std.specs.List.{insert}
use Rattle.std.specs.Option.{ok_or}
use Rattle.map_model.specs.declared.limits.TheConstants.{MAX_OBJECTS, MAX_NEXT_ID, MAX_PIXELS}
use Rattle.map_model.specs.declared.parts.Layer.{Layer}
use Rattle.map_model.specs.declared.parts.MapParts.{MapParts}
use Rattle.map_model.specs.declared.parts.Object.{Object}
use Rattle.map_model.specs.declared.parts.Placing.{Placing}
use Rattle.map_model.specs.declared.place.ObjectPlace.{ObjectPlace}
use Rattle.map_model.specs.Document.{DocumentParts, with_map}
use Rattle.map_model.specs.Layers.{with_next_ids}
use Rattle.map_model.specs.Keeping.{object_tier}
use Rattle.map_model.specs.Moving.{object_fits, other_objects}
use Rattle.map_model.specs.NewMap.{new_object}
use Rattle.map_model.specs.Objects.{objects_of, object_at, object_place, object_with_placing, with_object, with_object_at, with_objects, without_object_at}
use Rattle.map_model.specs.Properties.{tier_of}
use Rattle.map_model.specs.Lookups.{layer_of}
use Rattle.map_model.specs.Refusing.{◌>>=◌, ◌>>◌, check}
use Rattle.refusals.specs.declared.edit_fault.EditFault.{EditFault}
use Rattle.refusals.specs.declared.edit_fault.EditFault.TheVariants.{NoSuchLayer, LayerOfAnotherKind, NoSuchObject, OutOfRange, TooMany}

-- an object may be so wide and high
abbrev pub is_object_size : ℕ → ℕ → Bool
is_object_size width height = int_le (pos width) MAX_PIXELS && int_le (pos height) MAX_PIXELS

-- ---- an object more
-- where a new object stands, and how large it is
abbrev pub placing_of : ℤ → ℤ → ℕ → ℕ → Placing
placing_of x y width height = record { x = Some x; y = Some y; width = Some (pos width); height = Some (pos height) }

-- the objects of an object layer
abbrev pub objects_or_fault : Option Layer → Result (List Object) EditFault
objects_or_fault found = do
  l ← ok_or found NoSuchLayer
  ok_or (objects_of l) LayerOfAnotherKind

-- there may be one more object beside these, and one more id
abbrev pub has_object_room : MapParts → List Object → Bool
has_object_room m os = nat_lt (length os) MAX_OBJECTS && nat_lt m.next_object_id MAX_NEXT_ID

-- the object goes last in its layer, and the next object id is one higher
abbrev pub with_last_object : ℕ → Object → MapParts → MapParts
with_last_object layer o m = with_next_ids m.next_layer_id (m.next_object_id + 1) (with_objects layer (λ os. insert os (length os) o) m)

-- a new object with the next object id
abbrev pub after_add_object : DocumentParts → ℕ → ℤ → ℤ → ℕ → ℕ → List ℕ → Result DocumentParts EditFault
after_add_object d layer x y width height name = do
  objects ← objects_or_fault (layer_of d.map layer)
  check (is_object_size width height) OutOfRange
  check (has_object_room d.map objects) TooMany
  Ok (with_map (with_last_object layer (new_object d.map.next_object_id (placing_of x y width height) name)) d)

-- ---- an object more, as it is given
-- the next id, above an id too
abbrev pub next_above : ℕ → ℕ → ℕ
next_above id next = if nat_lt id next then next else id + 1

-- the object goes last in its layer, and the next object id is above its id
abbrev pub with_given_object : ℕ → Object → MapParts → MapParts
with_given_object layer o m =
    with_next_ids m.next_layer_id (next_above o.id m.next_object_id) (with_objects layer (λ os. insert os (length os) o) m)

-- an object that has an id, or gets the next object id
abbrev pub with_own_id : MapParts → Bool → Object → Object
with_own_id m true o = o
with_own_id m false o = record o { id = m.next_object_id }

-- there may be one more object beside these, and one more id where it has none
abbrev pub has_given_room : MapParts → Bool → List Object → Bool
has_given_room m has_id os = nat_lt (length os) MAX_OBJECTS && (has_id || nat_lt m.next_object_id MAX_NEXT_ID)

abbrev pub after_put_object : DocumentParts → ℕ → Bool → Object → Result DocumentParts EditFault
after_put_object d layer has_id o = do
  objects ← objects_or_fault (layer_of d.map layer)
  check (has_given_room d.map has_id objects) TooMany
  Ok (with_map (with_given_object layer (with_own_id d.map has_id o)) d)

-- ---- an object less
abbrev pub after_remove_object : DocumentParts → ℕ → Result DocumentParts EditFault
after_remove_object d id = do
  place ← ok_or (object_place d.map id) NoSuchObject
  Ok (with_map (without_object_at place) d)

-- ---- an object at another place, or of another size
abbrev pub moved : ℤ → ℤ → Placing → Placing
moved x y p = record p { x = Some x; y = Some y }

abbrev pub resized : ℕ → ℕ → Placing → Placing
resized width height p = record p { width = Some (pos width); height = Some (pos height) }

-- the object at a place has its placing changed so
abbrev pub with_placing : ObjectPlace → (Placing → Placing) → MapParts → MapParts
with_placing place f m = with_object place (λ o. object_with_placing (f o.placing) o) m

abbrev pub after_move_object : DocumentParts → ℕ → ℤ → ℤ → Result DocumentParts EditFault
after_move_object d id x y = do
  place ← ok_or (object_place d.map id) NoSuchObject
  Ok (with_map (with_placing place (moved x y)) d)

abbrev pub after_resize_object : DocumentParts → ℕ → ℕ → ℕ → Result DocumentParts EditFault
after_resize_object d id width height = do
  place ← ok_or (object_place d.map id) NoSuchObject
  check (is_object_size width height) OutOfRange
  Ok (with_map (with_placing place (resized width height)) d)

-- ---- an object in another layer
-- The object goes to a place among the other objects of the layer, which may be its own. What a file kept of it may nest too
-- deep there.
abbrev pub after_object_into : DocumentParts → ℕ → ℕ → ℕ → Result DocumentParts EditFault
after_object_into d id layer at = do
  from ← ok_or (object_place d.map id) NoSuchObject
  o ← ok_or (object_at d.map from) NoSuchObject
  objects ← objects_or_fault (layer_of d.map layer)
  check (nat_le at (other_objects from layer objects)) OutOfRange
  check (nat_lt (other_objects from layer objects) MAX_OBJECTS) TooMany
  check (object_fits (object_tier (tier_of d.map layer)) o) OutOfRange
  Ok (with_map (λ m. with_object_at (record { layer = layer; at = at }) o (without_object_at from m)) d)
