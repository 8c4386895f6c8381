-- An object that is added.
use Rattle.std.proofs.Common.{◌≡◌, ◌≢◌, IsUtf8, ℕ, ◌+◌, ◌-◌, ◌<◌, ◌≤◌, ℤ, List, length, Bool, true, false, IsTrue, cond, ltb, Result, Ok, Option, Some, None}
use Rattle.std.proofs.Common.{IsSome, IsSomeAnd, option_map, option_and_then, refl, ap, ◌∙◌, subst, arith}
use Rattle.std.specs.List.{slice_get, insert, remove}
use Rattle.std.specs.Option.{ok_or}
use Rattle.std.proofs.lemmas.Bool.{and_parts, lt-ltb, ltb-true, ltb-false}
use Rattle.map_model.specs.declared.limits.TheConstants.{MAX_OBJECTS, MAX_NEXT_ID}
use Rattle.map_model.specs.declared.parts.Layer.{Layer}
use Rattle.map_model.specs.declared.parts.Object.{Object}
use Rattle.map_model.specs.declared.place.ObjectPlace.{ObjectPlace}
use Rattle.map_model.specs.Document.{DocumentParts, with_map}
use Rattle.map_model.specs.Layers.{with_next_ids}
use Rattle.map_model.specs.Objects.{objects_of, objects_of_layer, object_at, last_object_place, sibling_object_place, with_objects, with_object_at}
use Rattle.map_model.specs.Objects.{object_place, without_object_at}
use Rattle.map_model.specs.Keeping.{object_tier}
use Rattle.map_model.specs.Lists.{Each}
use Rattle.map_model.specs.NewMap.{new_object}
use Rattle.map_model.specs.Properties.{tier_of}
use Rattle.map_model.specs.Lookups.{layer_of}
use Rattle.map_model.specs.Slot.{next_object_slot}
use Rattle.map_model.specs.WellFormed.{IsId, IsObject, IsPixels, IsWellFormed, object_ids}
use Rattle.map_model.proofs.Lookups.{tier_of-low}
use Rattle.map_model.proofs.NewMaps.{new_object-IsObject}
use Rattle.map_model.proofs.Keeps.{Each-apart}
use Rattle.map_model.proofs.ObjectKeeps.{put_object-keeps, with_objects-along, without_object_at-keeps}
use Rattle.map_model.proofs.ObjectPlaces.{no_object-apart}
use Rattle.map_model.proofs.SlotLaws.{next_object_slot-laws}
use Rattle.refusals.specs.declared.edit_fault.EditFault.{EditFault}
use Rattle.refusals.specs.declared.edit_fault.EditFault.TheVariants.{LayerOfAnotherKind}
use Rattle.command_api.specs.Link.{FitsLink}
use Rattle.command_api.specs.Making.{Makes}
use Rattle.command_api.proofs.Links.{link_made}
use Rattle.edits.specs.ObjectEdits.{is_object_size, objects_or_fault, placing_of, after_add_object, after_put_object, has_given_room, next_above}
use Rattle.object_commands.specs.Changes.{add_object_change}
use Rattle.object_commands.specs.Names.{add_object_names}
use Rattle.object_commands.proofs.Placements.{placing_of-IsPlacing}

-- ---- the place behind the last object
last_at : (layer : ℕ) (place : ObjectPlace) (o : Option (List Object)) → option_map (λ os. record { layer = layer; at = length os }) o ≡ Some place
    → (os : List Object) × ((o ≡ Some os) × (place ≡ record { layer = layer; at = length os }))
last_at layer place None e = cc
last_at layer place (Some os) e = (os, (refl, (let is : place ≡ record { layer = layer; at = length os } = cc in is)))

taken_from : (o : Option (List Object)) (os : List Object) → o ≡ Some os
    → option_and_then (λ xs. slice_get xs (length os - 1)) o ≡ option_and_then (λ xs. slice_get xs (length xs - 1)) o
taken_from None os e = refl
taken_from (Some xs) os e = let is : os ≡ xs = cc in ap (λ ys. slice_get xs (length ys - 1)) is

module _ (layer : ℕ) (d : DocumentParts) (place : ObjectPlace) (last : last_object_place d.map layer ≡ Some place) where
  with_object_at-last : (o : Object) → with_object_at place o d.map ≡ with_objects layer (λ os. insert os (length os) o) d.map
  with_object_at-last o =
      let found = last_at layer place (objects_of_layer d.map layer) last in
      ap (λ p. with_object_at p o d.map) found.1.1 ∙ with_objects-along d.map layer (λ os. insert os (length found.0) o)
      (λ os. insert os (length os) o) found.0 found.1.0 refl

  without_object_at-last : without_object_at (sibling_object_place place (place.at - 1)) d.map ≡ with_objects layer (λ os. remove os (length os - 1)) d.map
  without_object_at-last =
      let found = last_at layer place (objects_of_layer d.map layer) last in
      ap (λ p. without_object_at (sibling_object_place p (p.at - 1)) d.map) found.1.1
      ∙ with_objects-along d.map layer (λ os. remove os (length found.0 - 1)) (λ os. remove os (length os - 1)) found.0 found.1.0 refl

  pub object_at-last : (next raised : ℕ) → object_at d.map (sibling_object_place place (place.at - 1)) ≡ (next_object_slot layer next raised).item d
  object_at-last next raised =
      let found = last_at layer place (objects_of_layer d.map layer) last in
      ap (λ p. object_at d.map (sibling_object_place p (p.at - 1))) found.1.1 ∙ taken_from (objects_of_layer d.map layer) found.0 found.1.0

-- ---- the object put in, behind the next ids
module _ (layer next raised next_layer : ℕ) (d e : DocumentParts) (place : ObjectPlace) (last : last_object_place d.map layer ≡ Some place)
    (same : next_layer ≡ d.map.next_layer_id)
    (set : e ≡ with_map (with_next_ids next_layer raised) d) where
  put_last : (o : Object) → with_map (with_object_at place o) e ≡ (next_object_slot layer next raised).with_item o d
  put_last o =
      rw (set, same) (ap (λ m. record d { map = m })
      (with_object_at-last layer (with_map (with_next_ids d.map.next_layer_id raised) d) place last o))

  pub put_last-IsWellFormed : (held : Option Object) → FitsLink (next_object_slot layer next raised) (Some held) d
      → IsSomeAnd held (λ o. IsWellFormed (with_object_at place o e.map))
  put_last-IsWellFormed None fits = fits.ready
  put_last-IsWellFormed (Some o) fits = let is = ap (λ (f : DocumentParts). f.map) (put_last o) in rw is fits.after

  pub put_last-with_item : (held : Option Object) (f : DocumentParts) → IsSomeAnd held (λ o. f ≡ with_map (with_object_at place o) e)
      → IsSomeAnd held (λ o. f ≡ (next_object_slot layer next raised).with_item o d)
  put_last-with_item None f is = is
  put_last-with_item (Some o) f is = is ∙ put_last o

-- the next object id raised before the object is put in
module _ (layer next raised : ℕ) (d : DocumentParts) where
  -- with the object, and with the next object id raised alone
  abbrev full : Object → DocumentParts
  full o = (next_object_slot layer raised raised).with_item o (with_map (with_next_ids d.map.next_layer_id raised) d)

  module _ (o : Object) (fits : FitsLink (next_object_slot layer next raised) (Some (Some o)) d) where
    full-filled : (next_object_slot layer raised raised).is_filled (full o)
    full-filled = (next_object_slot-laws layer raised raised).filled o (with_map (with_next_ids d.map.next_layer_id raised) d) (refl, fits.ready.1)

    full-back : (next_object_slot layer raised raised).without_item (full o) ≡ with_map (with_next_ids d.map.next_layer_id raised) d
    full-back = (next_object_slot-laws layer raised raised).without-with o (with_map (with_next_ids d.map.next_layer_id raised) d) (refl, fits.ready.1)

    raised_by : (os : Option (List Object)) → objects_of_layer (full o).map layer ≡ os → IsSomeAnd os (λ xs. 0 < length xs)
        → IsWellFormed (with_next_ids d.map.next_layer_id raised d.map)
    raised_by None e some = absurd some
    raised_by (Some os) e some =
        let place : ObjectPlace = record { layer = layer; at = length os } in
        let last : last_object_place (full o).map layer ≡ Some place = ap (option_map (λ xs. record { layer = layer; at = length xs })) e in
        let there : IsSome (object_at (full o).map (sibling_object_place place (place.at - 1))) =
        rw (object_at-last layer (full o) place last raised raised) ((next_object_slot-laws layer raised raised).there (full o) full-filled) in
        let less = without_object_at-keeps (sibling_object_place place (place.at - 1)) (full o).map there fits.after in
        subst IsWellFormed (ap (λ (f : DocumentParts). f.map) full-back) (rw (without_object_at-last layer (full o) place last) at less)

  pub raised-IsWellFormed : (next_layer : ℕ) (held : Option Object) → next_layer ≡ d.map.next_layer_id
      → FitsLink (next_object_slot layer next raised) (Some held) d
      → IsWellFormed (with_next_ids next_layer raised d.map)
  raised-IsWellFormed next_layer None same fits = absurd fits.ready
  raised-IsWellFormed next_layer (Some o) same fits = rw same (raised_by o fits (objects_of_layer (full o).map layer) refl (full-filled o fits).1)

-- ---- the object taken out, before the next ids
module _ (layer next raised next_layer : ℕ) (d e : DocumentParts) (place : ObjectPlace) (last : last_object_place d.map layer ≡ Some place)
    (same : next_layer ≡ d.map.next_layer_id)
    (taken : e ≡ with_map (without_object_at (sibling_object_place place (place.at - 1))) d) where
  pub take_last : with_map (with_next_ids next_layer next) e ≡ (next_object_slot layer next raised).without_item d
  take_last = rw (taken, same) (ap (λ m. record d { map = with_next_ids d.map.next_layer_id next m }) (without_object_at-last layer d place last))

  pub take_last-IsWellFormed : FitsLink (next_object_slot layer next raised) None d → IsWellFormed (with_next_ids next_layer next e.map)
  take_last-IsWellFormed fits = let is = ap (λ (f : DocumentParts). f.map) take_last in rw is fits.after

pub object_at-there : (layer next raised : ℕ) (d : DocumentParts) (place : ObjectPlace) → last_object_place d.map layer ≡ Some place
    → FitsLink (next_object_slot layer next raised) None d
    → IsSome (object_at d.map (sibling_object_place place (place.at - 1)))
object_at-there layer next raised d place last fits =
    rw (object_at-last layer d place last next raised) ((next_object_slot-laws layer next raised).there d fits.ready)

-- ---- the next id, above an id too
next_above-above : (id next : ℕ) → next ≤ next_above id next
next_above-above id next = by_test (ltb id next) refl
  where
    by_test : (b : Bool) → ltb id next ≡ b → next ≤ cond b next (id + 1)
    by_test true q = omega arith
    by_test false q = omega (arith, ltb-false id next q)

next_above-over : (id next : ℕ) → id < next_above id next
next_above-over id next = by_test (ltb id next) refl
  where
    by_test : (b : Bool) → ltb id next ≡ b → id < cond b next (id + 1)
    by_test true q = ltb-true id next q
    by_test false q = omega arith

next_above-below : (id next : ℕ) → id + 1 ≤ MAX_NEXT_ID → next ≤ MAX_NEXT_ID → next_above id next ≤ MAX_NEXT_ID
next_above-below id next l h = by_test (ltb id next)
  where
    by_test : (b : Bool) → cond b next (id + 1) ≤ MAX_NEXT_ID
    by_test true = h
    by_test false = l

-- ---- an addition that is asked for
pub listed : (o : Option Layer) (os : List Object) → objects_or_fault o ≡ Ok os → option_and_then objects_of o ≡ Some os
listed None os e = cc
listed (Some l) os e = by_objects (objects_of l) e
  where
    by_objects : (o : Option (List Object)) → ok_or o LayerOfAnotherKind ≡ Ok os → o ≡ Some os
    by_objects None q = cc
    by_objects (Some own) q = let is : own ≡ os = cc in ap Some is

-- an object is put in with an id that no other has
put_made : (d : DocumentParts) (layer raised : ℕ) (o : Object) (os : List Object) (loose : Option Object) (after : Result DocumentParts EditFault)
    → objects_or_fault (layer_of d.map layer) ≡ Ok os → length os < MAX_OBJECTS → d.map.next_object_id ≤ raised → raised ≤ MAX_NEXT_ID
    → IsId raised o.id → Each (λ id. o.id ≢ id) (object_ids d.map.layers) → IsObject (object_tier (tier_of d.map layer)) o → IsWellFormed d.map
    → loose ≡ Some o
    → after ≡ Ok (with_map (λ m. with_next_ids m.next_layer_id raised (with_objects layer (λ ps. insert ps (length ps) o) m)) d)
    → Makes add_object_names d after
    (add_object_change (record { layer = layer; id = o.id; next = d.map.next_object_id; raised = raised; object = Some loose }))
put_made d layer raised o os loose after objects few above below id apart object h is result =
    let there = listed (layer_of d.map layer) os objects in
    rw is (
    link_made refl (record {
      ready = (refl, rw there refl);
      before = h;
      after = put_object-keeps d.map layer raised (λ ps. insert ps (length ps) o) os (length os) o there refl few above below object id apart h;
    }) result
    )

pub add_made : (d : DocumentParts) (layer : ℕ) (x y : ℤ) (width height : ℕ) (name : List ℕ) (os : List Object) (loose : Option Object) → IsUtf8 name
    → objects_or_fault (layer_of d.map layer) ≡ Ok os
    → IsPixels x → IsPixels y → is_object_size width height ≡ true → length os < MAX_OBJECTS → d.map.next_object_id < MAX_NEXT_ID → IsWellFormed d.map
    → loose ≡ Some (new_object d.map.next_object_id (placing_of x y width height) name)
    → Makes add_object_names d (after_add_object d layer x y width height name)
    (add_object_change (record {
      layer = layer;
      id = d.map.next_object_id;
      next = d.map.next_object_id;
      raised = d.map.next_object_id + 1;
      object = Some loose;
    }))
add_made d layer x y width height name os loose utf8 objects left top size few below h is =
    let next = d.map.next_object_id in
    let ids = h.layers.object_ids in
    put_made d layer (next + 1) (new_object next (placing_of x y width height) name) os loose (after_add_object d layer x y width height name) objects few
    (omega arith) (omega (arith, below)) (record { low = ids.next_low; high = omega arith }) (Each-apart next (object_ids d.map.layers) ids.each)
    (new_object-IsObject (tier_of d.map layer) next (placing_of x y width height) name utf8 (tier_of-low d.map layer)
    (placing_of-IsPlacing x y width height left top size)) h is
    (rw (objects, size, lt-ltb (length os) MAX_OBJECTS few, lt-ltb next MAX_NEXT_ID below) refl)

-- ---- an object that is given
-- one that has an id, which no other has
given_with_id : (d : DocumentParts) (layer : ℕ) (o : Object) (os : List Object) (loose : Option Object) → objects_or_fault (layer_of d.map layer) ≡ Ok os
    → length os < MAX_OBJECTS → IsId MAX_NEXT_ID o.id → object_place d.map o.id ≡ None → IsObject (object_tier (tier_of d.map layer)) o → IsWellFormed d.map
    → loose ≡ Some o
    → Makes add_object_names d (after_put_object d layer true o) (add_object_change (record {
      layer = layer;
      id = o.id;
      next = d.map.next_object_id;
      raised = next_above o.id d.map.next_object_id;
      object = Some loose;
    }))
given_with_id d layer o os loose objects few id free object h is =
    let next = d.map.next_object_id in
    put_made d layer (next_above o.id next) o os loose (after_put_object d layer true o) objects few
    (next_above-above o.id next) (next_above-below o.id next (omega (arith, id.high)) h.layers.object_ids.next_high)
    (record { low = id.low; high = next_above-over o.id next }) (no_object-apart d.map o.id free) object h is
    (rw (objects, lt-ltb (length os) MAX_OBJECTS few) refl)

-- one that gets the next object id
given_next : (d : DocumentParts) (layer : ℕ) (o : Object) (os : List Object) (loose : Option Object) → objects_or_fault (layer_of d.map layer) ≡ Ok os
    → length os < MAX_OBJECTS → d.map.next_object_id < MAX_NEXT_ID → IsObject (object_tier (tier_of d.map layer)) o → IsWellFormed d.map
    → loose ≡ Some (record o { id = d.map.next_object_id })
    → Makes add_object_names d (after_put_object d layer false o) (add_object_change (record {
      layer = layer;
      id = d.map.next_object_id;
      next = d.map.next_object_id;
      raised = next_above d.map.next_object_id d.map.next_object_id;
      object = Some loose;
    }))
given_next d layer o os loose objects few below object h is =
    let next = d.map.next_object_id in
    let ids = h.layers.object_ids in
    put_made d layer (next_above next next) (record o { id = next }) os loose (after_put_object d layer false o) objects few
    (next_above-above next next) (next_above-below next next (omega (arith, below)) ids.next_high)
    (record { low = ids.next_low; high = next_above-over next next }) (Each-apart next (object_ids d.map.layers) ids.each)
    (record { placing = object.placing; name = object.name; gid = object.gid; properties = object.properties; kept = object.kept }) h is
    (rw (objects, lt-ltb (length os) MAX_OBJECTS few, lt-ltb next MAX_NEXT_ID below) refl)

pub given_made : (d : DocumentParts) (layer : ℕ) (has_id : Bool) (o own : Object) (os : List Object) (loose : Option Object)
    → own ≡ cond has_id o (record o { id = d.map.next_object_id }) → objects_or_fault (layer_of d.map layer) ≡ Ok os
    → has_given_room d.map has_id os ≡ true → (IsTrue has_id → IsId MAX_NEXT_ID o.id) → (IsTrue has_id → object_place d.map o.id ≡ None)
    → IsObject (object_tier (tier_of d.map layer)) o → IsWellFormed d.map → loose ≡ Some own
    → Makes add_object_names d (after_put_object d layer has_id o) (add_object_change (record {
      layer = layer;
      id = own.id;
      next = d.map.next_object_id;
      raised = next_above own.id d.map.next_object_id;
      object = Some loose;
    }))
given_made d layer true o own os loose own_is objects room id free object h is =
    let both = and_parts _ _ room in
    rw own_is (given_with_id d layer o os loose objects (ltb-true (length os) MAX_OBJECTS both.0) (id refl) (free refl) object h (is ∙ ap Some own_is))
given_made d layer false o own os loose own_is objects room id free object h is =
    let both = and_parts _ _ room in
    rw own_is (given_next d layer o os loose objects (ltb-true (length os) MAX_OBJECTS both.0) (ltb-true d.map.next_object_id MAX_NEXT_ID both.1) object h
    (is ∙ ap Some own_is))
