-- Objects put into a layer, and taken out of one.
use Rattle.std.proofs.Common.{◌≡◌, ℕ, zero, suc, List, [], ◌∷◌, length, Bool, false, cond, find, IsSome, Option, Some, None}
use Rattle.std.proofs.Common.{option_map, option_and_then, refl, sym, ap, ◌∙◌, subst}
use Rattle.std.proofs.lemmas.List.Quantifiers.{position-Some}
use Rattle.std.specs.List.{insert, position, remove, slice_get}
use Rattle.map_model.specs.declared.limits.TheConstants.{MAX_GROUPS}
use Rattle.map_model.specs.declared.owner.MemberOwner.TheVariants as members
use Rattle.map_model.specs.declared.owner.Owner.TheVariants as owners
use Rattle.map_model.specs.declared.parts.Layer.{Layer}
use Rattle.map_model.specs.declared.parts.MapParts.{MapParts}
use Rattle.map_model.specs.declared.parts.Object.{Object}
use Rattle.map_model.specs.declared.parts.Property.{Property}
use Rattle.map_model.specs.declared.place.ObjectPlace.{ObjectPlace}
use Rattle.map_model.specs.declared.place.OwnerPlace.TheVariants as places
use Rattle.map_model.specs.Document.{DocumentParts}
use Rattle.map_model.specs.Groups.{all_drawn, bare}
use Rattle.map_model.specs.Heads.{head, object_head}
use Rattle.map_model.specs.Lens.{of_object}
use Rattle.map_model.specs.Lists.{first_some, or_else, or_empty}
use Rattle.map_model.specs.Lookups.{layer_of}
use Rattle.map_model.specs.Objects.{found_at, found_in_layer, has_object_id, layer_with_objects, object_at, object_place, objects_of}
use Rattle.map_model.specs.Objects.{objects_of_layer, place_of_layer}
use Rattle.map_model.specs.Objects.{with_objects}
use Rattle.map_model.specs.Properties.{has_name, object_properties, properties_of}
use Rattle.map_model.specs.WellFormed.{IsWellFormed}
use Rattle.map_model.proofs.BodyLaws.{objects_in-contents}
use Rattle.map_model.proofs.Changes.{find-at_position, position-found, slice_get-Some}
use Rattle.map_model.proofs.Keeps.{layer-Stands, own-IsReplaced}
use Rattle.map_model.proofs.LensLaws.{of_object-get}
use Rattle.map_model.proofs.ObjectKeeps.{group_in-objects}
use Rattle.map_model.proofs.ObjectPlaces.{object_at-found, object_place-found}
use Rattle.map_model.proofs.Trees.{change_among-none}
use Rattle.line_frames.proofs.Kept.{objects-alone}
use Rattle.line_frames.proofs.OneLayer.{first_some-one}
use Rattle.line_frames.specs.Places.{LayerOf, MembersOf, PropertyOf, content}

-- ---- the first object with an id
-- a layer's id, and the object with the id among its objects
abbrev pair : ℕ → Option Object → Option (ℕ × Object)
pair layer o = option_map (λ x. (layer, x)) o

abbrev pub seen_in : ℕ → ℕ → Option (List Object) → Option (ℕ × Object)
seen_in id layer os = pair layer (option_and_then (find (has_object_id id)) os)

abbrev pub in_layer : ℕ → ℕ × Layer → Option (ℕ × Object)
in_layer id l = seen_in id l.1.id (objects_of l.1)

-- the id of the layer in which an object stands, and the object
abbrev pub first_object : ℕ → MapParts → Option (ℕ × Object)
first_object id m = first_some (in_layer id) (all_drawn m.layers)

abbrev shown : ObjectPlace × Object → ℕ × Object
shown q = (q.0.layer, q.1)

in_layer-found : (id : ℕ) (l : ℕ × Layer) → in_layer id l ≡ option_map shown (found_in_layer id l)
in_layer-found id l = by_objects (objects_of l.1)
  where
    by_find : (os : List Object) (o : Option Object) → find (has_object_id id) os ≡ o → position (has_object_id id) os ≡ None → o ≡ None
    by_find os None e q = refl
    by_find os (Some x) e q =
        let there : IsSome (position (has_object_id id) os) = position-found (has_object_id id) os (subst IsSome (sym e) refl) in
        absurd (none (subst IsSome q there))
      where
        none : IsSome {T = ℕ} None → ⊥
        none h = cc

    by_place : (os : List Object) (at : Option ℕ) → position (has_object_id id) os ≡ at
        → pair l.1.id (find (has_object_id id) os) ≡ option_map shown (option_and_then (found_at l.1 os) at)
    by_place os None e = ap (pair l.1.id) (by_find os (find (has_object_id id) os) refl e)
    by_place os (Some at) e = by_slice (slice_get os at) refl
      where
        by_slice : (o : Option Object) → slice_get os at ≡ o
            → pair l.1.id (find (has_object_id id) os) ≡ option_map shown (option_map (λ o. (place_of_layer l.1 at, o)) o)
        by_slice None q = absurd (no_place os at e q)
          where
            no_place : (os : List Object) (at : ℕ) → position (has_object_id id) os ≡ Some at → slice_get os at ≡ None → ⊥
            no_place [] at p s = cc
            no_place (x ∷ xs) at p s =
                let found = position-Some (has_object_id id) (x ∷ xs) at x p in
                let there = slice_get-Some (x ∷ xs) at found.0 in
                cc
        by_slice (Some x) q = ap (pair l.1.id) (find-at_position (has_object_id id) os at x e q)

    by_objects : (o : Option (List Object)) → seen_in id l.1.id o
        ≡ option_map shown (option_and_then (λ os. option_and_then (found_at l.1 os) (position (has_object_id id) os)) o)
    by_objects None = refl
    by_objects (Some os) = by_place os (position (has_object_id id) os) refl

first_object-found : (id : ℕ) (ls : List (ℕ × Layer)) → first_some (in_layer id) ls ≡ option_map shown (first_some (found_in_layer id) ls)
first_object-found id [] = refl
first_object-found id (l ∷ ls) =
    (λ i. or_else (in_layer-found id l i) (first_object-found id ls i)) ∙ by_found (found_in_layer id l) (first_some (found_in_layer id) ls)
  where
    by_found : (a b : Option (ObjectPlace × Object)) → or_else (option_map shown a) (option_map shown b) ≡ option_map shown (or_else a b)
    by_found None b = refl
    by_found (Some q) b = refl

-- ---- what stands at the places of an object
module _ (d : DocumentParts) (h : IsWellFormed d.map) (id : ℕ) where
  abbrev properties_at : List ℕ → Option ObjectPlace → Option Property
  properties_at name o = option_and_then (find (has_name name)) (option_and_then (properties_of d.map) (option_map places.Object o))

  -- an object, and the id of its layer, or none tells all of them
  pub record Tells (o : Option (ℕ × Object)) : Type 0 where
    pub members : content (MembersOf (members.Object id)) d ≡ option_map (λ s. object_head s.1) o
    pub properties : (name : List ℕ) → content (PropertyOf (owners.Object id) name) d ≡ option_and_then (λ s. find (has_name name) s.1.properties) o
    pub layer : content (LayerOf id) d ≡ option_map (λ s. s.0) o

  pub tells-none : object_place d.map id ≡ None → Tells None
  tells-none none = record {
    members = ap (option_and_then (λ (k : ObjectPlace). (of_object k head).get d)) none;
    properties = λ name. ap (properties_at name) none;
    layer = ap (option_map (λ (k : ObjectPlace). k.layer)) none;
  }

  pub tells-at : (k : ObjectPlace) (o : Object) → object_place d.map id ≡ Some k → object_at d.map k ≡ Some o → Tells (Some (k.layer, o))
  tells-at k o there is = record {
    members = ap (option_and_then (λ (j : ObjectPlace). (of_object j head).get d)) there ∙ of_object-get k head d
        ∙ ap (option_and_then (λ b. Some (object_head b))) is;
    properties = λ name. ap (properties_at name) there ∙ ap (λ (b : Option Object). option_and_then (find (has_name name)) (option_map object_properties b)) is;
    layer = ap (option_map (λ (j : ObjectPlace). j.layer)) there;
  }

  pub object-tells : Tells (first_object id d.map)
  object-tells = subst Tells (sym (first_object-found id (all_drawn d.map.layers))) (by_found (first_some (found_in_layer id) (all_drawn d.map.layers)) refl)
    where
      by_found : (o : Option (ObjectPlace × Object)) → first_some (found_in_layer id) (all_drawn d.map.layers) ≡ o → Tells (option_map shown o)
      by_found None e = tells-none (object_place-found id (all_drawn d.map.layers) ∙ ap (option_map (λ q. q.0)) e)
      by_found (Some q) e = tells-at q.0 q.1 (object_place-found id (all_drawn d.map.layers) ∙ ap (option_map (λ q. q.0)) e) (object_at-found d.map id q e h)

-- ---- a layer whose objects change
module _ (layer : ℕ) (g : List Object → List Object) (m : MapParts) where
  objects-list : (l : Layer) → objects_of (layer_with_objects g l) ≡ option_map g (objects_of l)
  objects-list l = objects_in-contents (λ cells. cells) g l.body

  -- an object that the change leaves in its list is found where it was
  pub first_object-kept : (id : ℕ) → ((os : List Object) → objects_of_layer m layer ≡ Some os → find (has_object_id id) (g os) ≡ find (has_object_id id) os)
      → first_object id (with_objects layer g m) ≡ first_object id m
  first_object-kept id same = by_layer (layer_of m layer) refl
    where
      each : (l : Layer) → layer_of m layer ≡ Some l → (tier : ℕ) → in_layer id (tier, bare (layer_with_objects g l)) ≡ in_layer id (tier, bare l)
      each l e tier =
          ap (seen_in id l.id) (objects-alone (layer_with_objects g l) ∙ objects-list l)
          ∙ by_objects (objects_of l) refl
          ∙ sym (ap (seen_in id l.id) (objects-alone l))
        where
          by_objects : (o : Option (List Object)) → objects_of l ≡ o → seen_in id l.id (option_map g o) ≡ seen_in id l.id o
          by_objects None q = refl
          by_objects (Some os) q = ap (pair l.id) (same os (ap (option_and_then objects_of) e ∙ q))

      by_layer : (o : Option Layer) → layer_of m layer ≡ o → first_object id (with_objects layer g m) ≡ first_object id m
      by_layer None e = ap (λ ls. first_some (in_layer id) (all_drawn ls)) (change_among-none layer MAX_GROUPS (layer_with_objects g) m.layers e)
      by_layer (Some l) e =
          let s = layer-Stands m layer l e in
          let r = own-IsReplaced s (layer_with_objects g) (ap or_empty (group_in-objects g l.body)) in
          ap (first_some (in_layer id)) r.now ∙ first_some-one (in_layer id) s.prefix _ _ _ (each l e s.own_tier) ∙ ap (first_some (in_layer id)) (sym r.was)

-- ---- lists
pub find-removed : {X : Type 0} (p : X → Bool) (xs : List X) (at : ℕ) (x : X) → slice_get xs at ≡ Some x → p x ≡ false → find p (remove xs at) ≡ find p xs
find-removed p [] at x e fails = absurd (nothing at e)
  where
    nothing : (at : ℕ) → slice_get [] at ≡ Some x → ⊥
    nothing zero q = cc
    nothing (suc at) q = cc
find-removed p (y ∷ ys) zero x e fails = let same : y ≡ x = cc in rw (same, fails) refl
find-removed p (y ∷ ys) (suc at) x e fails = ap (λ o. cond (p y) (Some y) o) (find-removed p ys at x e fails)

pub find-added : {X : Type 0} (p : X → Bool) (xs : List X) (x : X) → p x ≡ false → find p (insert xs (length xs) x) ≡ find p xs
find-added p [] x fails = rw fails refl
find-added p (y ∷ ys) x fails = ap (λ o. cond (p y) (Some y) o) (find-added p ys x fails)
