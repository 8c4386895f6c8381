-- A layer that is put in as it is given, and the turns of a layer that is added.
use Rattle.std.proofs.Common.{◌≡◌, ℕ, suc, ◌+◌, ◌<◌, ◌≤◌, List, [], ◌∷◌, length, Bool, true, false, ltb, cond, Option, Some, None, IsSome, IsSomeAnd}
use Rattle.std.proofs.Common.{Result, Ok, Err, refl, sym, ap, ◌∙◌, subst, arith}
use Rattle.std.specs.Prelude.{nat_le}
use Rattle.std.specs.Result.{IsOk}
use Rattle.std.specs.List.{flat_map, insert, remove}
use Rattle.std.proofs.lemmas.Bool.{le-leb, leb-true, ltb-false, ltb-true}
use Rattle.map_model.specs.declared.limits.TheConstants.{MAX_LAYERS, MAX_NEXT_ID}
use Rattle.map_model.specs.declared.next_ids.NextIds.{NextIds}
use Rattle.map_model.specs.declared.parts.Layer.{Layer}
use Rattle.map_model.specs.declared.parts.MapParts.{MapParts}
use Rattle.map_model.specs.declared.place.LayerPlace.{LayerPlace}
use Rattle.map_model.specs.Document.{DocumentParts, with_map}
use Rattle.map_model.specs.Groups.{all_drawn}
use Rattle.map_model.specs.Layers.{IsPlaceIn, layer_at, next_ids_of, place_under, siblings_of, with_layer_at, with_next_ids, without_layer_at}
use Rattle.map_model.specs.Lens.{next_ids, put, siblings}
use Rattle.map_model.specs.Lists.{Each}
use Rattle.map_model.specs.Moving.{layer_fits, tier_in}
use Rattle.map_model.specs.NewLayers.{IsNewLayer, own_count, own_layer_ids, own_object_ids}
use Rattle.map_model.specs.Slot.{layer_slot, new_layer_slot}
use Rattle.map_model.specs.WellFormed.{IsId, IsWellFormed, ids_of}
use Rattle.map_model.proofs.Keeps.{remove-keeps}
use Rattle.map_model.proofs.LensLaws.{siblings-next_ids}
use Rattle.map_model.proofs.NewLayers.{given_layer-keeps, with_siblings-raised}
use Rattle.map_model.proofs.SlotLaws.{layer_slot-laws, new_layer_slot-laws}
use Rattle.refusals.specs.declared.edit_fault.EditFault.TheVariants.{TooMany}
use Rattle.command_api.specs.Link.{FitsLink}
use Rattle.command_api.specs.Making.{Makes}
use Rattle.command_api.proofs.Links.{link_made}
use Rattle.edits.specs.LayerEdits.{after_put_layer, has_room_for, next_above_all, siblings_or_fault, with_given_layer}
use Rattle.edits.specs.ObjectEdits.{next_above}
use Rattle.layer_commands.specs.Changes.{add_change}
use Rattle.layer_commands.specs.Names.{add_names}
use Rattle.layer_commands.proofs.Moving.{found_siblings}
use Rattle.layer_commands.proofs.SiblingSlots.{siblings-get, slot-item, slot-with, slot-without}

-- ---- the next ids
next_above-least : (id next : ℕ) → (next ≤ next_above id next) × (id < next_above id next)
next_above-least id next = by_test (ltb id next) refl
  where
    by_test : (b : Bool) → ltb id next ≡ b → (next ≤ cond b next (id + 1)) × (id < cond b next (id + 1))
    by_test true e = (omega arith, ltb-true id next e)
    by_test false e = let high = ltb-false id next e in (omega (arith, high), omega arith)

next_above-most : (id next : ℕ) → id < MAX_NEXT_ID → next ≤ MAX_NEXT_ID → next_above id next ≤ MAX_NEXT_ID
next_above-most id next h k = by_test (ltb id next)
  where
    by_test : (b : Bool) → cond b next (id + 1) ≤ MAX_NEXT_ID
    by_test true = k
    by_test false = omega (arith, h)

above-least : (ids : List ℕ) (next : ℕ) → next ≤ next_above_all ids next
above-least [] next = omega arith
above-least (id ∷ ids) next =
    let first = next_above-least id next in
    let rest = above-least ids (next_above id next) in
    omega (arith, first.0, rest)

above-most : (ids : List ℕ) (next : ℕ) → Each (IsId MAX_NEXT_ID) ids → next ≤ MAX_NEXT_ID → next_above_all ids next ≤ MAX_NEXT_ID
above-most [] next h k = k
above-most (id ∷ ids) next h k = above-most ids (next_above id next) h.1 (next_above-most id next h.0.high k)

above-each : (ids : List ℕ) (next : ℕ) → Each (IsId MAX_NEXT_ID) ids → Each (IsId (next_above_all ids next)) ids
above-each [] next h = tt
above-each (id ∷ ids) next h =
    let first = next_above-least id next in
    let rest = above-least ids (next_above id next) in
    (record { low = h.0.low; high = omega (arith, first.1, rest) }, above-each ids (next_above id next) h.1)

-- ---- the turns
siblings-raised : (layer object : ℕ) (m : MapParts) (parent : Option ℕ) → siblings_of (with_next_ids layer object m) parent ≡ siblings_of m parent
siblings-raised layer object m None = refl
siblings-raised layer object m (Some id) = refl

module _ (place : LayerPlace) (next raised : NextIds) (d : DocumentParts) where
  with_new : (l : Layer) → with_map (λ m. with_next_ids raised.layer raised.object (with_layer_at place l m)) d ≡ (new_layer_slot place next raised).with_item l d
  with_new l = ap (put next_ids raised) (slot-with place l d)

  without_new : with_map (λ m. with_next_ids next.layer next.object (without_layer_at place m)) d ≡ (new_layer_slot place next raised).without_item d
  without_new = ap (put next_ids next) (slot-without place d)

  -- the ids are raised before the layer is put in
  pub raised-IsWellFormed : (held : Option Layer) → FitsLink (new_layer_slot place next raised) (Some held) d
      → IsWellFormed (with_next_ids raised.layer raised.object d.map)
  raised-IsWellFormed None fits = absurd fits.ready
  raised-IsWellFormed (Some l) fits =
      let f = (new_layer_slot place next raised).with_item l d in
      let filled = (new_layer_slot-laws place next raised).filled l d fits.ready in
      let there : IsSome (layer_at f.map place) = subst IsSome (sym (slot-item place f)) filled.1 in
      let back : with_map (without_layer_at place) f ≡ with_map (with_next_ids raised.layer raised.object) d =
      slot-without place f
      ∙ (siblings-next_ids place.parent).swapped (λ ls. remove ls place.at) (λ n. raised) ((layer_slot place).with_item l d)
      ∙ ap (put next_ids raised) ((layer_slot-laws place).without-with l d fits.ready.1) in
      subst (λ (x : DocumentParts). IsWellFormed x.map) back (remove-keeps f.map place there fits.after)

  module _ (e : DocumentParts) (set : e ≡ with_map (with_next_ids raised.layer raised.object) d) where
    put_new : (l : Layer) → with_map (with_layer_at place l) e ≡ (new_layer_slot place next raised).with_item l d
    put_new l =
        ap (with_map (with_layer_at place l)) set
        ∙ ap (λ m. record d { map = m }) (with_siblings-raised raised.layer raised.object d.map place.parent (λ ls. insert ls place.at l))
        ∙ with_new l

    pub put_new-place : (held : Option Layer) → FitsLink (new_layer_slot place next raised) (Some held) d → IsPlaceIn e.map place
    put_new-place None fits = absurd fits.ready
    put_new-place (Some l) fits =
        let same : siblings_of e.map place.parent ≡ (siblings place.parent).get d =
        ap (λ (x : DocumentParts). siblings_of x.map place.parent) set
        ∙ siblings-raised raised.layer raised.object d.map place.parent ∙ siblings-get place.parent d in
        rw same fits.ready.1

    pub put_new-IsWellFormed : (held : Option Layer) → FitsLink (new_layer_slot place next raised) (Some held) d
        → IsSomeAnd held (λ l. IsWellFormed (with_layer_at place l e.map))
    put_new-IsWellFormed None fits = fits.ready
    put_new-IsWellFormed (Some l) fits = subst (λ (x : DocumentParts). IsWellFormed x.map) (sym (put_new l)) fits.after

    pub put_new-item : (held : Option Layer) (f : DocumentParts) → IsSomeAnd held (λ l. f ≡ with_map (with_layer_at place l) e)
        → IsSomeAnd held (λ l. f ≡ (new_layer_slot place next raised).with_item l d)
    put_new-item None f h = h
    put_new-item (Some l) f h = h ∙ put_new l

  pub new-there : FitsLink (new_layer_slot place next raised) None d → IsSome (layer_at d.map place)
  new-there fits = subst IsSome (sym (slot-item place d)) fits.ready.1

  -- and set back once it is taken out
  module _ (e : DocumentParts) (gone : e ≡ with_map (without_layer_at place) d) where
    set_back : with_map (with_next_ids next.layer next.object) e ≡ (new_layer_slot place next raised).without_item d
    set_back = ap (with_map (with_next_ids next.layer next.object)) gone ∙ without_new

    pub set_back-IsWellFormed : FitsLink (new_layer_slot place next raised) None d → IsWellFormed (with_next_ids next.layer next.object e.map)
    set_back-IsWellFormed fits = subst (λ (x : DocumentParts). IsWellFormed x.map) (sym set_back) fits.after

    pub set_back-item : (f : DocumentParts) → f ≡ with_map (with_next_ids next.layer next.object) e
        → f ≡ (new_layer_slot place next raised).without_item d
    set_back-item f is = is ∙ set_back

-- ---- a layer that is given
length-ids : (ds : List (ℕ × Layer)) → length (flat_map ids_of ds) ≡ length ds
length-ids [] = refl
length-ids (d ∷ ds) = ap suc (length-ids ds)

pub room-is : (m : MapParts) (l : Layer) (ids : List ℕ) → ids ≡ own_layer_ids l
    → nat_le (length (all_drawn m.layers) + length ids) MAX_LAYERS ≡ has_room_for m l
room-is m l ids e = ap (λ n. nat_le (length (all_drawn m.layers) + n) MAX_LAYERS) (ap length e ∙ length-ids (all_drawn (l ∷ [])))

module _ (d : DocumentParts) (parent : Option ℕ) (at : ℕ) (l : Layer) (ls : List Layer) (are : siblings_or_fault d.map parent ≡ Ok ls) (low : at ≤ length ls)
    (fits : layer_fits (tier_in d.map parent) l ≡ true) where
  pub full-refused : has_room_for d.map l ≡ false → after_put_layer d parent at l ≡ Err TooMany
  full-refused full = rw (are, le-leb at (length ls) low, fits, full) refl

  put_done : has_room_for d.map l ≡ true → after_put_layer d parent at l ≡ Ok (with_map (with_given_layer (place_under parent at) l) d)
  put_done room = rw (are, le-leb at (length ls) low, fits, room) refl

  pub put-IsOk : has_room_for d.map l ≡ true → IsOk (after_put_layer d parent at l)
  put-IsOk room = rw (put_done room) refl

pub put_made : (d : DocumentParts) (parent : Option ℕ) (at : ℕ) (l : Layer) (ls : List Layer) (raised : NextIds) (loose : Option Layer) → loose ≡ Some l
    → siblings_or_fault d.map parent ≡ Ok ls → at ≤ length ls → layer_fits (tier_in d.map parent) l ≡ true → has_room_for d.map l ≡ true
    → IsNewLayer d.map l → raised.layer ≡ next_above_all (own_layer_ids l) d.map.next_layer_id
    → raised.object ≡ next_above_all (own_object_ids l) d.map.next_object_id → IsWellFormed d.map
    → Makes add_names d (after_put_layer d parent at l)
    (add_change (record { id = l.id; place = place_under parent at; next = next_ids_of d.map; raised = raised; layer = Some loose }))
put_made d parent at l ls raised loose is are low fits room new layer_is object_is h =
    let place = place_under parent at in
    let m = d.map in
    let there = found_siblings m parent ls are in
    let ids = own_layer_ids l in
    let objects = own_object_ids l in
    let ids_low = above-least ids m.next_layer_id in
    let ids_high = above-most ids m.next_layer_id new.alone.layer_ids.each h.layers.layer_ids.next_high in
    let ids_each = above-each ids m.next_layer_id new.alone.layer_ids.each in
    let objects_low = above-least objects m.next_object_id in
    let objects_high = above-most objects m.next_object_id new.alone.object_ids.each h.layers.object_ids.next_high in
    let objects_each = above-each objects m.next_object_id new.alone.object_ids.each in
    let few = leb-true (length (all_drawn m.layers) + own_count l) MAX_LAYERS room in
    let keeps : IsWellFormed (with_next_ids raised.layer raised.object (with_layer_at place l m)) =
    given_layer-keeps m place l ls raised there fits few new (omega (arith, layer_is, ids_low)) (omega (arith, layer_is, ids_high))
    (omega (arith, object_is, objects_low)) (omega (arith, object_is, objects_high)) (rw layer_is ids_each) (rw object_is objects_each) h in
    let done : with_map (with_given_layer place l) d ≡ (new_layer_slot place (next_ids_of m) raised).with_item l d =
    (λ i. record d { map = with_next_ids (sym layer_is i) (sym object_is i) (with_layer_at place l m) }) ∙ with_new place (next_ids_of m) raised d l in
    let result = put_done d parent at l ls are low fits room ∙ ap Ok done in
    let free : IsSomeAnd ((siblings parent).get d) (λ ks. at ≤ length ks) = rw (sym (siblings-get parent d), there) low in
    rw is (
    link_made refl (record {
      ready = (refl, free);
      before = h;
      after = subst (λ (x : DocumentParts). IsWellFormed x.map) (with_new place (next_ids_of m) raised d l) keeps;
    }) result
    )
