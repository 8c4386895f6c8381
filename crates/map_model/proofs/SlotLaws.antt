-- The laws of slots.
use Rattle.std.proofs.Common.{◌≡◌, ℕ, ◌+◌, ◌-◌, ◌<◌, ◌≤◌, List, length, Option, Some, None, IsSome, IsSomeAnd, option_and_then, refl, ap, ◌∙◌, arith}
use Rattle.std.specs.List.{slice_get, insert, remove}
use Rattle.std.proofs.lemmas.List.Edits.{length-remove}
use Rattle.map_model.specs.declared.next_ids.NextIds.{NextIds}
use Rattle.map_model.specs.declared.place.LayerPlace.{LayerPlace}
use Rattle.map_model.specs.declared.place.ObjectPlace.{ObjectPlace}
use Rattle.map_model.specs.Document.{DocumentParts}
use Rattle.map_model.specs.Lens.{Lens, IsLawfulLens, AreApart, siblings, next_ids, tilesets, layer_objects, next_object_id}
use Rattle.map_model.specs.Slot.{IsLawfulSlot, slot_in, next_slot_in, raising_slot_in, layer_slot, new_layer_slot, tileset_slot, object_slot, next_object_slot}
use Rattle.map_model.proofs.LensLaws.{siblings-laws, next_ids-laws, siblings-next_ids, tilesets-laws, layer_objects-laws}
use Rattle.map_model.proofs.LensLaws.{next_object_id-laws, layer_objects-next_object_id}
use Rattle.map_model.proofs.Changes.{remove-insert, insert-remove, slice_get-insert, length-insert, slice_get-within, slice_get-Some, within-removed}

-- ---- places in a list
pub slot_in-laws : {X : Type 0} (p : Lens DocumentParts (List X)) → IsLawfulLens p → (k : ℕ) → IsLawfulSlot (slot_in p k)
slot_in-laws {X = X} p laws k = record {
  there = λ d h. h;
  filled = λ x d h. let s = room (p.get d) h in
      rw (laws.get-update (λ xs. insert xs k x) s.0 d s.1.0) (rw (slice_get-insert s.0 k x s.1.1) refl);
  without-with = λ x d h. let s = room (p.get d) h in
      laws.update-update (λ xs. remove xs k) (λ xs. insert xs k x) d
      ∙ laws.update-same (λ xs. remove (insert xs k x) k) s.0 d s.1.0 (remove-insert s.0 k x s.1.1);
  vacated = λ x d h e. let s = place x (p.get d) e in
      rw (laws.get-update (λ xs. remove xs k) s.0 d s.1.0) (within-removed s.0 k (slice_get-within s.0 k x s.1.1)).0;
  with-without = λ x d h e. let s = place x (p.get d) e in
      laws.update-update (λ xs. insert xs k x) (λ xs. remove xs k) d
      ∙ laws.update-same (λ xs. insert (remove xs k) k x) s.0 d s.1.0 (insert-remove s.0 k x s.1.1);
}
  where
    room : (o : Option (List X)) → IsSomeAnd o (λ xs. k ≤ length xs) → (xs : List X) × ((o ≡ Some xs) × (k ≤ length xs))
    room None h = absurd h
    room (Some xs) h = (xs, (refl, h))

    place : (x : X) (o : Option (List X)) → option_and_then (λ xs. slice_get xs k) o ≡ Some x → (xs : List X) × ((o ≡ Some xs) × (slice_get xs k ≡ Some x))
    place x None e = cc
    place x (Some xs) e = (xs, (refl, e))

-- ---- places in a list that raise ids
pub raising_slot_in-laws : {X V : Type 0} (p : Lens DocumentParts (List X)) (ids : Lens DocumentParts V) → IsLawfulLens p → IsLawfulLens ids → AreApart p ids
    → (next raised : V) (k : ℕ)
    → IsLawfulSlot (raising_slot_in p ids next raised k)
raising_slot_in-laws {X = X} {V = V} p ids laws id-laws apart next raised k = record {
  there = λ d h. own.there d h.1;
  filled = λ x d h. (
    id-laws.get-update (λ n. raised) next (p.update (more x) d) (apart.get-right (more x) d ∙ h.0),
    rw (apart.get-left (λ n. raised) (p.update (more x) d)) (own.filled x d h.1),
  );
  without-with = λ x d h.
      ap (ids.update (λ n. next)) (apart.swapped less (λ n. raised) (p.update (more x) d) ∙ ap (ids.update (λ n. raised)) (own.without-with x d h.1))
      ∙ back next raised d h.0;
  vacated = λ x d h e. (
    id-laws.get-update (λ n. next) raised (p.update less d) (apart.get-right less d ∙ h.0),
    rw (apart.get-left (λ n. next) (p.update less d)) (own.vacated x d h.1 e),
  );
  with-without = λ x d h e.
      ap (ids.update (λ n. raised)) (apart.swapped (more x) (λ n. next) (p.update less d) ∙ ap (ids.update (λ n. next)) (own.with-without x d h.1 e))
      ∙ back raised next d h.0;
}
  where
    own : IsLawfulSlot (slot_in p k)
    own = slot_in-laws p laws k

    more : X → List X → List X
    more x xs = insert xs k x

    less : List X → List X
    less xs = remove xs k

    -- ids that are set to others and back
    back : (v w : V) (d : DocumentParts) → ids.get d ≡ Some v → ids.update (λ n. v) (ids.update (λ n. w) d) ≡ d
    back v w d e = id-laws.update-update (λ n. v) (λ n. w) d ∙ id-laws.update-same (λ n. v) v d e refl

-- ---- the place behind a list
last_there : {X : Type 0} (xs : List X) → 0 < length xs → IsSome (slice_get xs (length xs - 1))
last_there xs h = let there = slice_get-Some xs (length xs - 1) (omega (arith, h)) in rw there.1 refl

module _ {X : Type 0} (xs : List X) (x : X) where
  remove-last : remove (insert xs (length xs) x) (length (insert xs (length xs) x) - 1) ≡ xs
  remove-last =
      let place : length (insert xs (length xs) x) - 1 ≡ length xs = let more = length-insert xs (length xs) x in omega arith in
      ap (remove (insert xs (length xs) x)) place ∙ remove-insert xs (length xs) x (omega arith)

  insert-last : slice_get xs (length xs - 1) ≡ Some x → insert (remove xs (length xs - 1)) (length (remove xs (length xs - 1))) x ≡ xs
  insert-last there =
      let within = slice_get-within xs (length xs - 1) x there in
      let place : length (remove xs (length xs - 1)) ≡ length xs - 1 = let less = length-remove xs (length xs - 1) within in omega arith in
      ap (λ k. insert (remove xs (length xs - 1)) k x) place ∙ insert-remove xs (length xs - 1) x there

pub next_slot_in-laws : {X : Type 0} (p : Lens DocumentParts (List X)) (ids : Lens DocumentParts ℕ) → IsLawfulLens p → IsLawfulLens ids → AreApart p ids
    → (next raised : ℕ)
    → IsLawfulSlot (next_slot_in p ids next raised)
next_slot_in-laws {X = X} p ids laws id-laws apart next raised = record {
  there = λ d h. let s = some_list (p.get d) h.1 in rw s.1.0 (last_there s.0 s.1.1);
  filled = λ x d h. let s = some (p.get d) h.1 in (
    id-laws.get-update (λ n. raised) next (p.update (more x) d) (apart.get-right (more x) d ∙ h.0),
    rw (apart.get-left (λ n. raised) (p.update (more x) d), laws.get-update (more x) s.0 d s.1) (let l = length-insert s.0 (length s.0) x in omega arith),
  );
  without-with = λ x d h. let s = some (p.get d) h.1 in
      ap (ids.update (λ n. next)) (apart.swapped less (λ n. raised) (p.update (more x) d) ∙ ap (ids.update (λ n. raised)) (
      laws.update-update less (more x) d ∙ laws.update-same (λ xs. less (more x xs)) s.0 d s.1 (remove-last s.0 x)))
      ∙ id-laws.update-update (λ n. next) (λ n. raised) d ∙ id-laws.update-same (λ n. next) next d h.0 refl;
  vacated = λ x d h e. let s = some_list (p.get d) h.1 in (
    id-laws.get-update (λ n. next) raised (p.update less d) (apart.get-right less d ∙ h.0),
    rw (apart.get-left (λ n. next) (p.update less d), laws.get-update less s.0 d s.1.0) refl,
  );
  with-without = λ x d h e. let s = found x (p.get d) e in
      ap (ids.update (λ n. raised)) (apart.swapped (more x) (λ n. next) (p.update less d) ∙ ap (ids.update (λ n. next)) (
      laws.update-update (more x) less d ∙ laws.update-same (λ xs. more x (less xs)) s.0 d s.1.0 (insert-last s.0 x s.1.1)))
      ∙ id-laws.update-update (λ n. raised) (λ n. next) d ∙ id-laws.update-same (λ n. raised) raised d h.0 refl;
}
  where
    more : X → List X → List X
    more x xs = insert xs (length xs) x

    less : List X → List X
    less xs = remove xs (length xs - 1)

    some : (o : Option (List X)) → IsSome o → (xs : List X) × (o ≡ Some xs)
    some None h = cc
    some (Some xs) h = (xs, refl)

    some_list : (o : Option (List X)) → IsSomeAnd o (λ xs. 0 < length xs) → (xs : List X) × ((o ≡ Some xs) × (0 < length xs))
    some_list None h = absurd h
    some_list (Some xs) h = (xs, (refl, h))

    found : (x : X) (o : Option (List X)) → option_and_then (λ xs. slice_get xs (length xs - 1)) o ≡ Some x
        → (xs : List X) × ((o ≡ Some xs) × (slice_get xs (length xs - 1) ≡ Some x))
    found x None e = cc
    found x (Some xs) e = (xs, (refl, e))

-- ---- slots of layers
pub layer_slot-laws : (place : LayerPlace) → IsLawfulSlot (layer_slot place)
layer_slot-laws place = slot_in-laws (siblings place.parent) (siblings-laws place.parent) place.at

pub new_layer_slot-laws : (place : LayerPlace) (next raised : NextIds) → IsLawfulSlot (new_layer_slot place next raised)
new_layer_slot-laws place next raised =
    raising_slot_in-laws (siblings place.parent) next_ids (siblings-laws place.parent) next_ids-laws (siblings-next_ids place.parent) next raised place.at

-- ---- the place of a tileset
pub tileset_slot-laws : (at : ℕ) → IsLawfulSlot (tileset_slot at)
tileset_slot-laws = slot_in-laws tilesets tilesets-laws

-- ---- slots of objects
pub object_slot-laws : (place : ObjectPlace) → IsLawfulSlot (object_slot place)
object_slot-laws place = slot_in-laws (layer_objects place.layer) (layer_objects-laws place.layer) place.at

pub next_object_slot-laws : (layer next raised : ℕ) → IsLawfulSlot (next_object_slot layer next raised)
next_object_slot-laws layer = next_slot_in-laws (layer_objects layer) next_object_id (layer_objects-laws layer) next_object_id-laws
    (layer_objects-next_object_id layer)
