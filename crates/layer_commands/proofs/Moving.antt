-- A layer that is moved.
use Rattle.std.proofs.Common.{◌≡◌, ℕ, ◌<◌, ◌≤◌, List, length, true, false, Result, Ok, Err, Option, Some, None, IsSome, IsSomeAnd, option_and_then, refl}
use Rattle.std.proofs.Common.{sym, ap, subst, ◌∙◌, arith}
use Rattle.std.specs.Prelude.{nat_le, not}
use Rattle.std.specs.List.{insert, remove, slice_get}
use Rattle.std.specs.Option.{ok_or}
use Rattle.std.proofs.lemmas.Bool.{le-leb, lt-ltb}
use Rattle.std.proofs.lemmas.Bool.Decides.{nat_tests}
use Rattle.std.proofs.lemmas.List.Edits.{length-remove}
use Rattle.map_model.specs.declared.parts.Layer.{Layer}
use Rattle.map_model.specs.declared.parts.MapParts.{MapParts}
use Rattle.map_model.specs.declared.place.LayerPlace.{LayerPlace}
use Rattle.map_model.specs.Document.{DocumentParts, with_map}
use Rattle.map_model.specs.Groups.{group_of}
use Rattle.map_model.specs.Layers.{IsPlaceIn, count_of, layer_at, layer_place, place_under, sibling_count, sibling_place, siblings_of, with_layer_at}
use Rattle.map_model.specs.Layers.{without_layer_at}
use Rattle.map_model.specs.Lens.{siblings}
use Rattle.map_model.specs.Lookups.{layer_of}
use Rattle.map_model.specs.Moving.{is_parent_in, layer_fits, other_layers, tier_in}
use Rattle.map_model.specs.Refusing.{◌>>=◌, ◌>>◌, check}
use Rattle.map_model.specs.Slot.{layer_slot}
use Rattle.map_model.specs.WellFormed.{IsWellFormed}
use Rattle.map_model.proofs.Changes.{slice_get-within}
use Rattle.map_model.proofs.Keeps.{moved-keeps}
use Rattle.map_model.proofs.LensLaws.{siblings-laws}
use Rattle.map_model.proofs.MovedLayers.{layer_into-keeps, layer_into-others}
use Rattle.map_model.proofs.Places.{layer_place-there}
use Rattle.map_model.proofs.SlotLaws.{layer_slot-laws}
use Rattle.refusals.specs.declared.edit_fault.EditFault.TheVariants.{LayerOfAnotherKind, NoSuchLayer, OutOfRange}
use Rattle.command_api.specs.Exchange.{IsExchanged, change_of}
use Rattle.command_api.specs.Making.{Makes}
use Rattle.command_api.specs.Move.{FitsMove, move, moved, with_some}
use Rattle.command_api.proofs.Moves.{is_moved, slot_in-holds}
use Rattle.edits.specs.LayerEdits.{after_layer_into, after_move, put_in, siblings_or_fault, with_layer_moved}
use Rattle.layer_commands.specs.Changes.{moving}
use Rattle.layer_commands.specs.Names.{move_names}
use Rattle.layer_commands.proofs.SiblingSlots.{siblings-get, siblings-two, siblings-with, slot-item, slot-with, slot-without}

-- ---- the layers of a parent
some_at : (o : Option Layer) → IsSome o → (l : Layer) × (o ≡ Some l)
some_at None h = cc
some_at (Some l) h = (l, refl)

-- the layer at a place, and those among which it stands
record FoundAt (m : MapParts) (place : LayerPlace) : Type 0 where
  own : List Layer
  layer : Layer
  among : siblings_of m place.parent ≡ Some own
  there : slice_get own place.at ≡ Some layer

found_at : (m : MapParts) (place : LayerPlace) → IsSome (layer_at m place) → FoundAt m place
found_at m place h = by_siblings (siblings_of m place.parent) refl h
  where
    by_siblings : (o : Option (List Layer)) → siblings_of m place.parent ≡ o → IsSome (option_and_then (λ ls. slice_get ls place.at) o) → FoundAt m place
    by_siblings None e q = cc
    by_siblings (Some ls) e q = let s = some_at (slice_get ls place.at) q in record { own = ls; layer = s.0; among = e; there = s.1 }

module _ (parent : Option ℕ) (ls : List Layer) (d : DocumentParts) (e : siblings_of d.map parent ≡ Some ls) where
  updated-get : (f : List Layer → List Layer) → siblings_of ((siblings parent).update f d).map parent ≡ Some (f ls)
  updated-get f = siblings-get parent ((siblings parent).update f d) ∙ (siblings-laws parent).get-update f ls d (sym (siblings-get parent d) ∙ e)

  at-get : (k : ℕ) (l : Layer) → slice_get ls k ≡ Some l → layer_at d.map (place_under parent k) ≡ Some l
  at-get k l there = ap (option_and_then (λ ks. slice_get ks k)) e ∙ there

  -- the layers of the parent with the one at place a moved to place b
  moved-is : (a b : ℕ) (l : Layer) → slice_get ls a ≡ Some l
      → with_map (with_layer_moved (place_under parent a) (place_under parent b)) d ≡ (siblings parent).update (λ ks. insert (remove ks a) b l) d
  moved-is a b l there =
      ap (λ o. with_map (λ m. put_in o (place_under parent b) (without_layer_at (place_under parent a) m)) d) (at-get a l there)
      ∙ siblings-two parent (λ ks. insert ks b l) (λ ks. remove ks a) d
      ∙ (siblings-laws parent).update-update (λ ks. insert ks b l) (λ ks. remove ks a) d

-- ---- a turn
module _ (from to : LayerPlace) (d : DocumentParts) where
  -- a layer, where there is one, put in
  put_in-is : (o : Option Layer) → with_map (λ m. put_in o to (without_layer_at from m)) d ≡ with_some (layer_slot to) o (with_map (without_layer_at from) d)
  put_in-is None = refl
  put_in-is (Some l) = slot-with to l (with_map (without_layer_at from) d)

  -- the layer goes from one slot to the other
  pub slots-moved : with_map (with_layer_moved from to) d ≡ moved (layer_slot from) (layer_slot to) d
  slots-moved = put_in-is (layer_at d.map from) ∙ (λ i. with_some (layer_slot to) (slot-item from d i) (slot-without from d i))

  -- the place is one among the layers that are left
  pub moved_place : FitsMove (layer_slot from) (layer_slot to) d → IsPlaceIn (without_layer_at from d.map) to
  moved_place fits =
      let same : siblings_of (without_layer_at from d.map) to.parent ≡ (siblings to.parent).get ((layer_slot from).without_item d) =
      siblings-get to.parent (with_map (without_layer_at from) d) ∙ ap (siblings to.parent).get (slot-without from d) in
      rw same fits.vacant

  pub moved_there : FitsMove (layer_slot from) (layer_slot to) d → IsSome (layer_at d.map from)
  moved_there fits = subst IsSome (sym (slot-item from d)) fits.filled

  pub moved_well_formed : FitsMove (layer_slot from) (layer_slot to) d → IsSomeAnd (layer_at d.map from)
      (λ l. IsWellFormed (with_layer_at to l (without_layer_at from d.map)))
  moved_well_formed fits =
      by_layer (layer_at d.map from) (moved_there fits) (subst (λ (x : DocumentParts). IsWellFormed x.map) (sym slots-moved) fits.after)
    where
      by_layer : (o : Option Layer) → IsSome o → IsWellFormed (put_in o to (without_layer_at from d.map))
          → IsSomeAnd o (λ l. IsWellFormed (with_layer_at to l (without_layer_at from d.map)))
      by_layer None there h = cc
      by_layer (Some l) there h = h

-- the turn back takes it from there
pub move_turned : (from to : LayerPlace) (d e : DocumentParts) → FitsMove (layer_slot from) (layer_slot to) d → e ≡ with_map (with_layer_moved from to) d
    → IsExchanged (moving from to) (moving to from) d e
move_turned from to d e fits is =
    let there : e ≡ moved (layer_slot from) (layer_slot to) d = is ∙ slots-moved from to d in
    let turn : IsExchanged (move move_names (layer_slot from) (layer_slot to)) (move move_names (layer_slot to) (layer_slot from)) d e =
    is_moved (layer_slot-laws from) (layer_slot-laws to) (slot_in-holds (siblings to.parent) (siblings-laws to.parent) to.at) fits there in
    record {
      document = is;
      fits = turn.fits;
      back = slots-moved to from e ∙ turn.back;
      names = refl;
      obsolete = refl;
      made = refl;
    }

-- a command that moves it
module _ (from to : LayerPlace) (d : DocumentParts) (there : IsSome (layer_at d.map from)) (place : IsPlaceIn (without_layer_at from d.map) to)
    (before : IsWellFormed d.map) (after : IsWellFormed (with_layer_moved from to d.map)) where
  fits-moved : FitsMove (layer_slot from) (layer_slot to) d
  fits-moved =
      let same : siblings_of (without_layer_at from d.map) to.parent ≡ (siblings to.parent).get ((layer_slot from).without_item d) =
      siblings-get to.parent (with_map (without_layer_at from) d) ∙ ap (siblings to.parent).get (slot-without from d) in
      record {
        filled = subst IsSome (slot-item from d) there;
        vacant = rw (← same) place;
        before = before;
        after = subst (λ (x : DocumentParts). IsWellFormed x.map) (slots-moved from to d) after;
      }

  move_made : {E : Type 0} {result : Result DocumentParts E} → result ≡ Ok (with_map (with_layer_moved from to) d)
      → Makes move_names d result (change_of (moving from to))
  move_made is = record { fits = (λ e. cc, record { fits = fits-moved; settled = refl }); document = is; names = refl }

-- ---- a move among siblings
module _ (parent : Option ℕ) (a b : ℕ) (d : DocumentParts) (ls : List Layer) (e : siblings_of d.map parent ≡ Some ls) (l : Layer)
    (there : slice_get ls a ≡ Some l) (room : b < length ls) where
  place_left : IsPlaceIn (without_layer_at (place_under parent a) d.map) (place_under parent b)
  place_left =
      let own : siblings_of (without_layer_at (place_under parent a) d.map) parent ≡ Some (remove ls a) =
      ap (λ x. siblings_of x.map parent) (siblings-with parent (λ ks. remove ks a) d) ∙ updated-get parent ls d e (λ ks. remove ks a) in
      let left : b ≤ length (remove ls a) = let less = length-remove ls a (slice_get-within ls a l there) in omega (arith, less, room) in
      rw own left

  among-IsWellFormed : IsWellFormed d.map → IsWellFormed (with_layer_moved (place_under parent a) (place_under parent b) d.map)
  among-IsWellFormed h =
      let after = moved-keeps d.map parent ls e h a b l there in
      subst (λ (x : DocumentParts). IsWellFormed x.map) (siblings-with parent (λ ks. insert (remove ks a) b l) d ∙ sym (moved-is parent ls d e a b l there)) after

pub move_asked : (d : DocumentParts) (id to : ℕ) (from : LayerPlace) → layer_place d.map id ≡ Some from → to < sibling_count d.map from → IsWellFormed d.map
    → Makes move_names d (after_move d id to) (change_of (moving from (sibling_place from to)))
move_asked d id to from e room h =
    let there = layer_place-there d.map id from e h in
    let first = found_at d.map from there in
    let size : sibling_count d.map from ≡ length first.own = ap count_of first.among in
    let within : to < length first.own = omega (arith, room, size) in
    move_made from (sibling_place from to) d there (place_left from.parent from.at to d first.own first.among first.layer first.there within) h
    (among-IsWellFormed from.parent from.at to d first.own first.among first.layer first.there within h)
    (rw (e, lt-ltb to (sibling_count d.map from) room) refl)

-- ---- a move to another parent
-- the layers of a parent
pub found_siblings : (m : MapParts) (parent : Option ℕ) (ls : List Layer) → siblings_or_fault m parent ≡ Ok ls → siblings_of m parent ≡ Some ls
found_siblings m None ls e = let is : m.layers ≡ ls = cc in ap Some is
found_siblings m (Some id) ls e = by_layer (layer_of m id) e
  where
    by_group : (o : Option (List Layer)) → ok_or o LayerOfAnotherKind ≡ Ok ls → o ≡ Some ls
    by_group None q = cc
    by_group (Some ks) q = let is : ks ≡ ls = cc in ap Some is

    by_layer : (o : Option Layer) → (ok_or o NoSuchLayer >>= (λ l. ok_or (group_of l) LayerOfAnotherKind)) ≡ Ok ls → option_and_then group_of o ≡ Some ls
    by_layer None q = cc
    by_layer (Some l) q = by_group (group_of l) q

-- the layer l stands at the place from, and the parent has these layers
module _ (d : DocumentParts) (id at : ℕ) (parent : Option ℕ) (from : LayerPlace) (l : Layer) (ls : List Layer) (place : layer_place d.map id ≡ Some from)
    (there : layer_at d.map from ≡ Some l) (are : siblings_or_fault d.map parent ≡ Ok ls) where
  asked : after_layer_into d id parent at
      ≡ (check (not (is_parent_in l parent)) OutOfRange
      >> (check (nat_le at (other_layers from parent ls)) OutOfRange
      >> (check (layer_fits (tier_in d.map parent) l) OutOfRange
      >> Ok (with_map (with_layer_moved from (place_under parent at)) d))))
  asked = rw (place, there, are) refl

  pub inside-refused : is_parent_in l parent ≡ true → after_layer_into d id parent at ≡ Err OutOfRange
  inside-refused e = asked ∙ rw e refl

  pub above-refused : is_parent_in l parent ≡ false → other_layers from parent ls < at → after_layer_into d id parent at ≡ Err OutOfRange
  above-refused e above = let f : nat_le at (other_layers from parent ls) ≡ false = grind (arith, nat_tests, above) in asked ∙ rw (e, f) refl

  pub deep-refused : is_parent_in l parent ≡ false → at ≤ other_layers from parent ls → layer_fits (tier_in d.map parent) l ≡ false
      → after_layer_into d id parent at ≡ Err OutOfRange
  deep-refused e low deep = asked ∙ rw (e, le-leb at (other_layers from parent ls) low, deep) refl

  pub reparent_made : is_parent_in l parent ≡ false → at ≤ other_layers from parent ls → layer_fits (tier_in d.map parent) l ≡ true → IsWellFormed d.map
      → Makes move_names d (after_layer_into d id parent at) (change_of (moving from (place_under parent at)))
  reparent_made e low fits h =
      let others = layer_into-others d.map from l parent ls there (found_siblings d.map parent ls are) e in
      let many = others.1.1 in
      let left : IsPlaceIn (without_layer_at from d.map) (place_under parent at) = rw others.1.0 (omega (arith, many, low)) in
      let keeps = layer_into-keeps d.map from (place_under parent at) l others.0 there others.1.0 e fits h in
      move_made from (place_under parent at) d (rw there refl) left h
      (subst (λ o. IsWellFormed (put_in o (place_under parent at) (without_layer_at from d.map))) (sym there) keeps)
      (asked ∙ rw (e, le-leb at (other_layers from parent ls) low, fits) refl)
