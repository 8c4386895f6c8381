-- An object that goes to another place of a layer.
use Rattle.std.proofs.Common.{◌≡◌, ℕ, ◌<◌, ◌≤◌, List, length, true, false, Ok, Err, Option, Some, None, IsSome, IsSomeAnd, refl, sym, ap, ◌∙◌, subst, arith}
use Rattle.std.specs.Prelude.{nat_le, nat_lt}
use Rattle.std.proofs.lemmas.Bool.{le-leb, lt-ltb}
use Rattle.std.proofs.lemmas.Bool.Decides.{nat_tests}
use Rattle.map_model.specs.declared.limits.TheConstants.{MAX_OBJECTS}
use Rattle.map_model.specs.declared.parts.Object.{Object}
use Rattle.map_model.specs.declared.place.ObjectPlace.{ObjectPlace}
use Rattle.map_model.specs.Document.{DocumentParts, with_map}
use Rattle.map_model.specs.Keeping.{object_tier}
use Rattle.map_model.specs.Lookups.{layer_of}
use Rattle.map_model.specs.Moving.{object_fits, other_objects}
use Rattle.map_model.specs.Objects.{object_at, object_place, objects_of_layer, with_object_at, without_object_at}
use Rattle.map_model.specs.Properties.{tier_of}
use Rattle.map_model.specs.Refusing.{◌>>◌, check}
use Rattle.map_model.specs.Slot.{object_slot}
use Rattle.map_model.specs.WellFormed.{IsWellFormed}
use Rattle.map_model.proofs.MovedObjects.{object_into-keeps, object_into-others}
use Rattle.refusals.specs.declared.edit_fault.EditFault.TheVariants.{OutOfRange, TooMany}
use Rattle.command_api.specs.Exchange.{change_of}
use Rattle.command_api.specs.Making.{Makes}
use Rattle.command_api.specs.Move.{move, moved, with_some}
use Rattle.command_api.proofs.Moves.{move_made}
use Rattle.edits.specs.ObjectEdits.{after_object_into, objects_or_fault}
use Rattle.object_commands.specs.Names.{reparent_object_names}
use Rattle.object_commands.proofs.Adding.{listed}

-- ---- a turn
-- the object that is taken out may be put in
pub put_well_formed : (o : Option Object) (to : ObjectPlace) (d : DocumentParts) → IsSome o → IsWellFormed (with_some (object_slot to) o d).map
    → IsSomeAnd o (λ x. IsWellFormed (with_object_at to x d.map))
put_well_formed None to d there h = cc
put_well_formed (Some x) to d there h = h

pub put_is : (o : Option Object) (to : ObjectPlace) (d e : DocumentParts) → IsSomeAnd o (λ x. e ≡ with_map (with_object_at to x) d)
    → e ≡ with_some (object_slot to) o d
put_is None to d e h = absurd h
put_is (Some x) to d e h = h

-- ---- a command that is asked for
-- the place that is asked for
abbrev pub place_asked : ℕ → ℕ → ObjectPlace
place_asked layer at = record { layer = layer; at = at }

-- the object o stands at the place from, and the layer has these objects
module _ (d : DocumentParts) (id layer at : ℕ) (from : ObjectPlace) (o : Object) (os : List Object) (place : object_place d.map id ≡ Some from)
    (there : object_at d.map from ≡ Some o)
    (are : objects_or_fault (layer_of d.map layer) ≡ Ok os) where
  asked : after_object_into d id layer at
      ≡ (check (nat_le at (other_objects from layer os)) OutOfRange
      >> (check (nat_lt (other_objects from layer os) MAX_OBJECTS) TooMany
      >> (check (object_fits (object_tier (tier_of d.map layer)) o) OutOfRange
      >> Ok (with_map (λ m. with_object_at (place_asked layer at) o (without_object_at from m)) d))))
  asked = rw (place, there, are) refl

  pub above-refused : other_objects from layer os < at → after_object_into d id layer at ≡ Err OutOfRange
  above-refused above = let e : nat_le at (other_objects from layer os) ≡ false = grind (arith, nat_tests, above) in asked ∙ rw e refl

  pub full-refused : at ≤ other_objects from layer os → MAX_OBJECTS ≤ other_objects from layer os → after_object_into d id layer at ≡ Err TooMany
  full-refused low full =
      let e : nat_lt (other_objects from layer os) MAX_OBJECTS ≡ false = grind (arith, nat_tests, full) in
      asked ∙ rw (le-leb at (other_objects from layer os) low, e) refl

  pub deep-refused : at ≤ other_objects from layer os → other_objects from layer os < MAX_OBJECTS
      → object_fits (object_tier (tier_of d.map layer)) o ≡ false → after_object_into d id layer at ≡ Err OutOfRange
  deep-refused low few deep =
      asked ∙ rw (le-leb at (other_objects from layer os) low, lt-ltb (other_objects from layer os) MAX_OBJECTS few, deep) refl

  pub reparent_made : at ≤ other_objects from layer os → other_objects from layer os < MAX_OBJECTS
      → object_fits (object_tier (tier_of d.map layer)) o ≡ true → IsWellFormed d.map
      → Makes reparent_object_names d (after_object_into d id layer at) (change_of (move reparent_object_names (object_slot from) (object_slot
      (place_asked layer at))))
  reparent_made low few fits h =
      let to = place_asked layer at in
      let others = object_into-others d.map from o layer os there (listed (layer_of d.map layer) os are) in
      let many = others.1.1 in
      let is : moved (object_slot from) (object_slot to) d ≡ with_map (λ m. with_object_at to o (without_object_at from m)) d =
      ap (λ option. with_some (object_slot to) option (with_map (without_object_at from) d)) there in
      let keeps = object_into-keeps d.map from to o others.0 there others.1.0 (omega (arith, many, few)) fits h in
      let vacant : IsSomeAnd (objects_of_layer (without_object_at from d.map) layer) (λ ps. at ≤ length ps) = rw (others.1.0) (omega (arith, many, low)) in
      move_made refl (record {
        filled = subst (λ (option : Option Object). IsSome option) (sym there) refl;
        vacant = vacant;
        before = h;
        after = subst (λ (x : DocumentParts). IsWellFormed x.map) (sym is) keeps;
      }) (asked ∙ rw (le-leb at (other_objects from layer os) low, lt-ltb (other_objects from layer os) MAX_OBJECTS few, fits) (ap Ok (sym is)))
