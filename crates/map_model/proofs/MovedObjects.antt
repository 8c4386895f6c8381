-- An object that goes to another layer keeps a map well formed.
use Rattle.std.proofs.Common.{◌≡◌, ◌≢◌, ℕ, suc, ◌-◌, ◌<◌, nat_eq, Bool, true, false, cond, Option, Some, None, IsSome}
use Rattle.std.proofs.Common.{List, [], ◌∷◌, ◌++◌, length, take, drop, find}
use Rattle.std.proofs.Common.{option_map, option_and_then, refl, sym, ap, ◌∙◌, subst, arith}
use Rattle.std.specs.List.{flat_map, insert, remove, slice_get}
use Rattle.std.proofs.lemmas.Bool.{eqb-true}
use Rattle.std.proofs.lemmas.Bool.Decides.{nat_tests}
use Rattle.std.proofs.lemmas.List.Edits.{length-remove}
use Rattle.map_model.specs.declared.limits.TheConstants.{MAX_GROUPS, MAX_OBJECTS}
use Rattle.map_model.specs.declared.parts.Layer.{Layer}
use Rattle.map_model.specs.declared.parts.MapParts.{MapParts}
use Rattle.map_model.specs.declared.parts.Object.{Object}
use Rattle.map_model.specs.declared.place.ObjectPlace.{ObjectPlace}
use Rattle.map_model.specs.Bodies.{body_with_objects}
use Rattle.map_model.specs.Document.{document_of}
use Rattle.map_model.specs.Groups.{all_drawn, bare, has_id, inside}
use Rattle.map_model.specs.Keeping.{layer_tier, object_tier}
use Rattle.map_model.specs.Lists.{Each, first_some, or_else, or_empty}
use Rattle.map_model.specs.Lookups.{layer_of, with_layer}
use Rattle.map_model.specs.Moving.{object_fits, other_objects}
use Rattle.map_model.specs.Objects.{layer_with_objects, object_at, objects_of, objects_of_layer, with_object_at, with_objects, without_object_at}
use Rattle.map_model.specs.Properties.{is_drawn_with, tier_of}
use Rattle.map_model.specs.WellFormed.{IsId, IsWellFormed, ids_of_object, object_ids, object_ids_in}
use Rattle.map_model.proofs.BodyLaws.{objects_in-contents}
use Rattle.map_model.proofs.Changes.{slice_get-within}
use Rattle.map_model.proofs.GroupBodies.{objects_in-with}
use Rattle.map_model.proofs.Keeps.{IsReplaced-within, layer-Stands, object_ids-IsReplaced}
use Rattle.map_model.proofs.LensLaws.{layer_objects-laws}
use Rattle.map_model.proofs.Listings.{AreNewIds-piece, IsReplaced, flat-IsReplaced, remove-IsReplaced, take-one}
use Rattle.map_model.proofs.Lookups.{first_some-with_layer, tier_of-with_layer}
use Rattle.map_model.proofs.ObjectKeeps.{found_layer, group_in-objects, object_at-IsObject, put_object-keeps, without_object_at-keeps}
use Rattle.map_model.proofs.OtherTiers.{IsObject-at}
use Rattle.map_model.proofs.TreeChanges.{change_among-along}
use Rattle.map_model.proofs.Trees.{none_among}

-- ---- the objects of a layer, where those of one with another id change
module _ (a b : ℕ) (other : a ≢ b) (g : List Object → List Object) where
  -- the change of the layer with the id a alone
  abbrev change : Layer → Layer
  change l = cond (has_id a l) (layer_with_objects g l) l

  -- the objects of the layer with the id b
  abbrev seen : ℕ × Layer → Option (Option (List Object))
  seen d = cond (has_id b d.1) (Some (objects_of d.1)) None

  change-inside : (l : Layer) → inside (change l) ≡ inside l
  change-inside l =
      elim (has_id a l) as (λ t. inside (cond t (layer_with_objects g l) l) ≡ inside l) [
        | true ↦ ap or_empty (group_in-objects g l.body)
        | false ↦ refl
      ]

  seen-change : (tier : ℕ) (l : Layer) → seen (tier, bare (change l)) ≡ seen (tier, bare l)
  seen-change tier l = by_own (has_id a l) refl
    where
      by_own : (t : Bool) → has_id a l ≡ t
          → cond (has_id b (cond t (layer_with_objects g l) l)) (Some (objects_of (bare (cond t (layer_with_objects g l) l)))) None
          ≡ cond (has_id b l) (Some (objects_of (bare l))) None
      by_own true q = let passed : has_id b l ≡ false = grind (arith, nat_tests, q, other) in rw passed refl
      by_own false q = refl

  seen-found : (ds : List (ℕ × Layer)) → first_some seen ds ≡ option_map (λ d. objects_of d.1) (find (is_drawn_with b) ds)
  seen-found [] = refl
  seen-found (d ∷ ds) =
      elim (has_id b d.1)
      as (λ t. or_else (cond t (Some (objects_of d.1)) None) (first_some seen ds)
      ≡ option_map (λ x. objects_of x.1) (cond t (Some d) (find (is_drawn_with b) ds)))
      [ true ↦ refl | false ↦ seen-found ds ]

  seen-layer : (m : MapParts) → option_map objects_of (layer_of m b) ≡ first_some seen (all_drawn m.layers)
  seen-layer m = by_layer (layer_of m b) refl ∙ sym (seen-found (all_drawn m.layers))
    where
      by_layer : (o : Option Layer) → layer_of m b ≡ o → option_map objects_of o ≡ option_map (λ d. objects_of d.1) (find (is_drawn_with b) (all_drawn m.layers))
      by_layer None e = rw (none_among b MAX_GROUPS layer_tier m.layers e) refl
      by_layer (Some l) e = rw ((layer-Stands m b l e).first) (ap Some (sym (objects_in-with (λ ls. []) l.body)))

  -- the two changes agree on the layer with the id a
  with_objects-change : (m : MapParts) → with_objects a g m ≡ with_layer a change m
  with_objects-change m =
      ap (λ ls. record m { layers = ls })
      (change_among-along a (layer_with_objects g) change MAX_GROUPS m.layers (λ l found. let has = (layer-Stands m a l found).has in rw has refl))

  objects_of_layer-other : (m : MapParts) (os : List Object) → objects_of_layer m b ≡ Some os → objects_of_layer (with_objects a g m) b ≡ Some os
  objects_of_layer-other m os e =
      let same : option_map objects_of (layer_of (with_objects a g m) b) ≡ option_map objects_of (layer_of m b) =
      ap (λ n. option_map objects_of (layer_of n b)) (with_objects-change m) ∙ seen-layer (with_layer a change m)
      ∙ first_some-with_layer a change seen change-inside seen-change m ∙ sym (seen-layer m) in
      flat (layer_of (with_objects a g m) b) ∙ ap joined same ∙ sym (flat (layer_of m b)) ∙ e
    where
      joined : Option (Option (List Object)) → Option (List Object)
      joined None = None
      joined (Some o) = o

      flat : (o : Option Layer) → option_and_then objects_of o ≡ joined (option_map objects_of o)
      flat None = refl
      flat (Some l) = refl

-- ---- the object o, at a place of a layer
-- the objects among which it stands
found_among : (m : MapParts) (place : ObjectPlace) (o : Object) → object_at m place ≡ Some o
    → (own : List Object) × ((objects_of_layer m place.layer ≡ Some own) × (slice_get own place.at ≡ Some o))
found_among m place o e = by_objects (objects_of_layer m place.layer) e
  where
    by_objects : (option : Option (List Object)) → option_and_then (λ os. slice_get os place.at) option ≡ Some o
        → (own : List Object) × ((option ≡ Some own) × (slice_get own place.at ≡ Some o))
    by_objects None q = cc
    by_objects (Some own) q = (own, (refl, q))

-- the objects of a layer beside it
pub object_into-others : (m : MapParts) (from : ObjectPlace) (o : Object) (layer : ℕ) (os : List Object) → object_at m from ≡ Some o
    → objects_of_layer m layer ≡ Some os
    → (others : List Object) × ((objects_of_layer (without_object_at from m) layer ≡ Some others) × (length others ≡ other_objects from layer os))
object_into-others m from o layer os there are = by_test (nat_eq from.layer layer) refl
  where
    by_test : (t : Bool) → nat_eq from.layer layer ≡ t
        → (others : List Object) × ((objects_of_layer (without_object_at from m) layer ≡ Some others)
        × (length others ≡ cond t (length os - 1) (length os)))
    by_test true q =
        let found = found_among m from o there in
        let same : from.layer ≡ layer = eqb-true from.layer layer q in
        let here : objects_of_layer m from.layer ≡ Some os = ap (objects_of_layer m) same ∙ are in
        let is : found.0 ≡ os = cc (found.1.0, here) in
        let within = slice_get-within os from.at o (subst (λ ks. slice_get ks from.at ≡ Some o) is found.1.1) in
        let less = length-remove os from.at within in
        let left = (layer_objects-laws from.layer).get-update (λ ps. remove ps from.at) os (document_of m) here in
        (remove os from.at, (subst (λ n. objects_of_layer (without_object_at from m) n ≡ Some (remove os from.at)) same left, omega (arith, less)))
    by_test false q =
        let other : from.layer ≢ layer = grind (arith, nat_tests, q) in
        (os, (objects_of_layer-other from.layer layer other (λ ps. remove ps from.at) m os are, refl))

-- the ids of all objects without its own
ids-without : (m : MapParts) (from : ObjectPlace) (o : Object) → object_at m from ≡ Some o → IsWellFormed m
    → IsId m.next_object_id o.id × Each (λ id. o.id ≢ id) (object_ids (without_object_at from m).layers)
ids-without m from o e h =
    let found = found_among m from o e in
    let own = found.0 in
    let less = λ (ps : List Object). remove ps from.at in
    let layer = found_layer own (layer_of m from.layer) found.1.0 in
    let l = layer.0 in
    let outer = object_ids-IsReplaced from.layer (layer_with_objects less) l m layer.1.0 (ap or_empty (group_in-objects less l.body)) in
    let inner = flat-IsReplaced ids_of_object (rw (take-one own from.at o found.1.1) at (remove-IsReplaced own from.at)) in
    let was : object_ids_in l.body ≡ flat_map ids_of_object own = ap (λ option. flat_map ids_of_object (or_empty option)) layer.1.1 in
    let now : object_ids_in (body_with_objects less l.body) ≡ flat_map ids_of_object (less own) =
    ap (λ option. flat_map ids_of_object (or_empty option)) (objects_in-contents (λ cells. cells) less l.body ∙ ap (option_map less) layer.1.1) in
    let among = λ (ids : List ℕ). outer.0 ++ (ids ++ outer.1.0) in
    let r = IsReplaced-within outer.0 outer.1.0 inner in
    let all : IsReplaced (outer.0 ++ flat_map ids_of_object (take from.at own)) (o.id ∷ []) []
    (flat_map ids_of_object (drop (suc from.at) own) ++ outer.1.0) (object_ids m.layers) (object_ids (without_object_at from m).layers) =
    record { was = outer.1.1.was ∙ ap among was ∙ r.was; now = outer.1.1.now ∙ ap among now ∙ r.now } in
    let taken = AreNewIds-piece all h.layers.object_ids in
    (taken.each.0, subst (Each (λ id. o.id ≢ id)) (sym all.now) taken.apart.0)

-- the map is well formed once the object stands in a layer where it fits
pub object_into-keeps : (m : MapParts) (from to : ObjectPlace) (o : Object) (others : List Object) → object_at m from ≡ Some o
    → objects_of_layer (without_object_at from m) to.layer ≡ Some others → length others < MAX_OBJECTS
    → object_fits (object_tier (tier_of m to.layer)) o ≡ true → IsWellFormed m → IsWellFormed (with_object_at to o (without_object_at from m))
object_into-keeps m from to o others e are few fits h =
    let rest = without_object_at from m in
    let less = λ (ps : List Object). remove ps from.at in
    let there : IsSome (object_at m from) = rw e refl in
    let well = without_object_at-keeps from m there h in
    let ids = ids-without m from o e h in
    let tier : tier_of rest to.layer ≡ tier_of m to.layer =
    tier_of-with_layer from.layer (layer_with_objects less) (λ l. ap or_empty (group_in-objects less l.body)) (λ l. refl) m to.layer in
    let own = IsObject-at (object_tier (tier_of m from.layer)) (object_tier (tier_of m to.layer)) o fits (object_at-IsObject m from o e h) in
    put_object-keeps rest to.layer rest.next_object_id (λ ps. insert ps to.at o) others to.at o are refl few (omega arith)
    well.layers.object_ids.next_high (rw tier own) ids.0 ids.1 well
