-- The place of the object with an id.
use Rattle.std.proofs.Common.{◌≡◌, ◌≢◌, ℕ, zero, suc, ◌+◌, List, [], ◌∷◌, ◌++◌, length, Bool, true, false, cond, find, nat_eq, Bor, Option}
use Rattle.std.proofs.Common.{IfSome, Some, None, option_map, option_and_then, refl, sym, ap, ◌∙◌, subst, arith}
use Rattle.std.specs.List.{flat_map, position, position_from, slice_get}
use Rattle.std.proofs.lemmas.Bool.Decides.{nat_tests}
use Rattle.std.proofs.lemmas.List.Quantifiers.{position-Some}
use Rattle.std.proofs.lemmas.Iterator.Adapters.{position_from-zero}
use Rattle.map_model.specs.declared.parts.Body.{Body}
use Rattle.map_model.specs.declared.parts.Body.TheVariants.{Objects}
use Rattle.map_model.specs.declared.limits.TheConstants.{MAX_GROUPS}
use Rattle.map_model.specs.declared.parts.Layer.{Layer}
use Rattle.map_model.specs.declared.parts.MapParts.{MapParts}
use Rattle.map_model.specs.declared.parts.Object.{Object}
use Rattle.map_model.specs.declared.place.ObjectPlace.{ObjectPlace}
use Rattle.map_model.specs.Bodies.{objects_in}
use Rattle.map_model.specs.Lists.{Each, Distinct, first_some, or_else}
use Rattle.map_model.specs.NewMap.{new_object}
use Rattle.map_model.specs.Objects.{objects_of, has_object_id, place_of_layer, place_in_layer, found_at, found_in_layer, object_place, object_at}
use Rattle.map_model.specs.Groups.{all_drawn, bare, tree}
use Rattle.map_model.specs.Keeping.{layer_tier}
use Rattle.map_model.specs.Lookups.{layer_of}
use Rattle.map_model.specs.Properties.{is_drawn_with}
use Rattle.map_model.specs.WellFormed.{IsWellFormed, ids_of_object, object_ids_in, object_ids, object_ids_of}
use Rattle.map_model.proofs.GroupBodies.{objects_in-with}
use Rattle.map_model.proofs.Keeps.{layer-Stands}
use Rattle.map_model.proofs.LensLaws.{some-eq}
use Rattle.map_model.proofs.Trees.{none_among, tree-is}
use Rattle.map_model.proofs.Changes.{find-at_position, slice_get-Some}
use Rattle.map_model.proofs.Listings.{Each-append, Each-prefix, Each-rest, Distinct-prefix, Distinct-rest, Apart-pieces}
use Rattle.map_model.proofs.Places.{Each-id_at, position-only}

-- ---- the layer that is drawn at a place
-- the layers of a well-formed map have distinct ids
layer_of-drawn : (m : MapParts) (k : ℕ) (d : ℕ × Layer) → slice_get (all_drawn m.layers) k ≡ Some d → IsWellFormed m
    → (l : Layer) × ((layer_of m d.1.id ≡ Some l) × (bare l ≡ d.1))
layer_of-drawn m k d e h = by_layer (layer_of m d.1.id) refl
  where
    found : find (is_drawn_with d.1.id) (all_drawn m.layers) ≡ Some d
    found = find-at_position (is_drawn_with d.1.id) (all_drawn m.layers) k d
        (position-only (λ (j : ℕ × Layer). j.1.id) (all_drawn m.layers) k d e h.layers.layer_ids.distinct) e

    by_layer : (o : Option Layer) → layer_of m d.1.id ≡ o → (l : Layer) × ((layer_of m d.1.id ≡ Some l) × (bare l ≡ d.1))
    by_layer None q = let none = none_among d.1.id MAX_GROUPS layer_tier m.layers q in cc (found, none)
    by_layer (Some l) q =
        let s = layer-Stands m d.1.id l q in
        let same : (s.own_tier, bare l) ≡ d = some-eq (s.own_tier, bare l) d (sym s.first ∙ found) in
        (l, (q, ap (λ (p : ℕ × Layer). p.1) same))

object_at-drawn : (m : MapParts) (k : ℕ) (d : ℕ × Layer) (os : List Object) (at : ℕ) (o : Object) → slice_get (all_drawn m.layers) k ≡ Some d
    → objects_of d.1 ≡ Some os → slice_get os at ≡ Some o → IsWellFormed m
    → object_at m (place_of_layer d.1 at) ≡ Some o
object_at-drawn m k d os at o e f g h =
    let layer = layer_of-drawn m k d e h in
    let own : objects_of layer.0 ≡ Some os = sym (objects_in-with (λ ls. []) layer.0.body) ∙ ap objects_of layer.1.1 ∙ f in
    rw (layer.1.0, own) g

-- ---- the one object with an id
Each-object_at : (P : ℕ → Type 0) (ls : List (ℕ × Layer)) (k : ℕ) (l : ℕ × Layer) (os : List Object) (at : ℕ) (o : Object) → slice_get ls k ≡ Some l
    → objects_of l.1 ≡ Some os → slice_get os at ≡ Some o
    → Each P (flat_map object_ids_of ls) → P o.id
Each-object_at P [] zero l os at o e f g h = cc
Each-object_at P [] (suc k) l os at o e f g h = cc
Each-object_at P (j ∷ ls) zero l os at o e f g h =
    let same : j ≡ l = cc in
    let own : objects_of j.1 ≡ Some os = ap (λ (y : ℕ × Layer). objects_of y.1) same ∙ f in
    Each-id_at (λ (p : Object). p.id) P os at o g (rw own at (Each-prefix P (object_ids_of j) (flat_map object_ids_of ls) h))
Each-object_at P (j ∷ ls) (suc k) l os at o e f g h = Each-object_at P ls k l os at o e f g (Each-rest P (object_ids_of j) (flat_map object_ids_of ls) h)

position_from-none : (id i : ℕ) (os : List Object) → Each (λ n. n ≢ id) (flat_map ids_of_object os) → position_from (has_object_id id) i os ≡ None
position_from-none id i [] h = refl
position_from-none id i (o ∷ os) h =
    let passed : nat_eq o.id id ≡ false = grind (arith, nat_tests, h.0) in
    rw passed (position_from-none id (i + 1) os h.1)

place_in_layer-none : (id : ℕ) (l : ℕ × Layer) → Each (λ n. n ≢ id) (object_ids_of l) → place_in_layer id l ≡ None
place_in_layer-none id l h = by_body l.1.body h
  where
    by_body : (b : Body) → Each (λ n. n ≢ id) (object_ids_in b)
        → option_map (place_of_layer l.1) (option_and_then (position (has_object_id id)) (objects_in b)) ≡ None
    by_body (Objects os) k = ap (option_map (place_of_layer l.1)) (position_from-zero (has_object_id id) os ∙ position_from-none id 0 os k)
    by_body b k = refl

Each-apart_from : (P : ℕ → ℕ → Type 0) (id : ℕ) (ns ids : List ℕ) → ((n : ℕ) → Each (P n) ids → P n id) → Each (λ n. Each (P n) ids) ns → Each (λ n. P n id) ns
Each-apart_from P id [] ids at h = tt
Each-apart_from P id (n ∷ ns) ids at h = (at n h.0, Each-apart_from P id ns ids at h.1)

first_some-only : (ls : List (ℕ × Layer)) (k : ℕ) (l : ℕ × Layer) (os : List Object) (at : ℕ) (o : Object) → slice_get ls k ≡ Some l → objects_of l.1 ≡ Some os
    → slice_get os at ≡ Some o
    → Distinct (flat_map object_ids_of ls) → first_some (place_in_layer o.id) ls ≡ Some (place_of_layer l.1 at)
first_some-only [] zero l os at o e f g h = cc
first_some-only [] (suc k) l os at o e f g h = cc
first_some-only (j ∷ ls) zero l os at o e f g h =
    let same : j ≡ l = cc in
    let own : Distinct (object_ids_of l) = subst (λ i. Distinct (object_ids_of i)) same (Distinct-prefix (object_ids_of j) (flat_map object_ids_of ls) h) in
    let here : place_in_layer o.id j ≡ Some (place_of_layer l.1 at) =
    rw (same, f) (ap (option_map (place_of_layer l.1)) (position-only (λ (p : Object). p.id) os at o g (rw f at own))) in
    ap (λ p. or_else p (first_some (place_in_layer o.id) ls)) here
first_some-only (j ∷ ls) (suc k) l os at o e f g h =
    let apart = Apart-pieces (object_ids_of j) (flat_map object_ids_of ls) h in
    let others = Each-apart_from (λ n i. n ≢ i) o.id (object_ids_of j) (flat_map object_ids_of ls)
    (λ n a. Each-object_at (λ i. n ≢ i) ls k l os at o e f g a) apart in
    ap (λ p. or_else p (first_some (place_in_layer o.id) ls)) (place_in_layer-none o.id j others)
    ∙ first_some-only ls k l os at o e f g (Distinct-rest (object_ids_of j) (flat_map object_ids_of ls) h)

-- an id that no object has
position_from-absent : (id i : ℕ) (os : List Object) → position_from (has_object_id id) i os ≡ None → Each (λ n. id ≢ n) (flat_map ids_of_object os)
position_from-absent id i [] e = tt
position_from-absent id i (o ∷ os) e = by_test (nat_eq o.id id) refl e (position_from-absent id (i + 1) os)
  where
    by_test : (b : Bool) → nat_eq o.id id ≡ b → cond b (Some i) (position_from (has_object_id id) (i + 1) os) ≡ None
        → (position_from (has_object_id id) (i + 1) os ≡ None → Each (λ n. id ≢ n) (flat_map ids_of_object os))
        → (id ≢ o.id) × Each (λ n. id ≢ n) (flat_map ids_of_object os)
    by_test true q r rest = cc
    by_test false q r rest = (λ same. grind (arith, nat_tests, same, q), rest r)

place_in_layer-absent : (id : ℕ) (l : ℕ × Layer) → place_in_layer id l ≡ None → Each (λ n. id ≢ n) (object_ids_of l)
place_in_layer-absent id l e = by_body l.1.body e
  where
    by_place : (o : Option ℕ) → option_map (place_of_layer l.1) o ≡ None → o ≡ None
    by_place None q = refl
    by_place (Some at) q = cc

    by_body : (b : Body) → option_map (place_of_layer l.1) (option_and_then (position (has_object_id id)) (objects_in b)) ≡ None
        → Each (λ n. id ≢ n) (object_ids_in b)
    by_body (Objects os) q =
        position_from-absent id 0 os (sym (position_from-zero (has_object_id id) os) ∙ by_place (position (has_object_id id) os) q)
    by_body b q = tt

first_some-absent : (id : ℕ) (ls : List (ℕ × Layer)) → first_some (place_in_layer id) ls ≡ None → Each (λ n. id ≢ n) (flat_map object_ids_of ls)
first_some-absent id [] e = tt
first_some-absent id (l ∷ ls) e = by_first (place_in_layer id l) refl e (first_some-absent id ls)
  where
    by_first : (o : Option ObjectPlace) → place_in_layer id l ≡ o → or_else o (first_some (place_in_layer id) ls) ≡ None
        → (first_some (place_in_layer id) ls ≡ None → Each (λ n. id ≢ n) (flat_map object_ids_of ls))
        → Each (λ n. id ≢ n) (flat_map object_ids_of (l ∷ ls))
    by_first None q r rest =
        Each-append (λ n. id ≢ n) (object_ids_of l) (flat_map object_ids_of ls) (place_in_layer-absent id l q) (rest r)
    by_first (Some place) q r rest = cc

pub no_object-apart : (m : MapParts) (id : ℕ) → object_place m id ≡ None → Each (λ n. id ≢ n) (object_ids m.layers)
no_object-apart m id e = first_some-absent id (all_drawn m.layers) e

-- the layer with an id is drawn
drawn-found : (m : MapParts) (l : Layer) → layer_of m l.id ≡ Some l → (j : ℕ) × ((tier : ℕ) × (slice_get (all_drawn m.layers) j ≡ Some (tier, bare l)))
drawn-found m l e =
    let s = layer-Stands m l.id l e in
    let start : length s.prefix + 0 ≡ length s.prefix = omega arith in (
      length s.prefix,
      (
        s.own_tier,
        ap (λ ds. slice_get ds (length s.prefix)) s.was ∙ ap (slice_get (s.prefix ++ (tree s.own_groups s.own_tier l ++ s.rest))) (sym start)
            ∙ slice_get-behind s.prefix (tree s.own_groups s.own_tier l ++ s.rest) 0
            ∙ ap (λ t. slice_get (t ++ s.rest) 0) (tree-is s.own_groups s.own_tier l),
      ),
    )
  where
    slice_get-behind : {X : Type 0} (xs ys : List X) (j : ℕ) → slice_get (xs ++ ys) (length xs + j) ≡ slice_get ys j
    slice_get-behind [] ys j = let same : 0 + j ≡ j = omega arith in ap (slice_get ys) same
    slice_get-behind (x ∷ xs) ys j = let same : suc (length xs) + j ≡ suc (length xs + j) = omega arith in ap (slice_get (x ∷ (xs ++ ys))) same
        ∙ slice_get-behind xs ys j

-- an object of the object layer with an id stands at its place, which is that of the first with its id
pub object_place-only : (m : MapParts) (l : Layer) (os : List Object) (at : ℕ) (o : Object) → layer_of m l.id ≡ Some l → objects_of l ≡ Some os
    → slice_get os at ≡ Some o → IsWellFormed m
    → (object_place m o.id ≡ Some (place_of_layer l at)) × (object_at m (place_of_layer l at) ≡ Some o)
object_place-only m l os at o e f g h =
    let d = drawn-found m l e in
    let own : objects_of (bare l) ≡ Some os = objects_in-with (λ ls. []) l.body ∙ f in
    (first_some-only (all_drawn m.layers) d.0 (d.1.0, bare l) os at o d.1.1 own g h.layers.object_ids.distinct, rw (e, f) g)

-- ---- the object that a walk finds
slice_get-position : {X : Type 0} (p : X → Bool) (xs : List X) (at : ℕ) (d : X) → position p xs ≡ Some at → (x : X) × (slice_get xs at ≡ Some x)
slice_get-position p xs at d e = slice_get-Some xs at (position-Some p xs at d e).0

place_in_layer-found : (id : ℕ) (l : ℕ × Layer) → place_in_layer id l ≡ option_map (λ q. q.0) (found_in_layer id l)
place_in_layer-found id l = by_body l.1.body
  where
    by_place : (os : List Object) (at : Option ℕ) → position (has_object_id id) os ≡ at
        → option_map (place_of_layer l.1) at ≡ option_map (λ q. q.0) (option_and_then (found_at l.1 os) at)
    by_place os None e = refl
    by_place os (Some at) e = let there = slice_get-position (has_object_id id) os at
        (new_object 0 (record { x = None; y = None; width = None; height = None }) []) e in rw there.1 refl

    by_body : (b : Body) → option_map (place_of_layer l.1) (option_and_then (position (has_object_id id)) (objects_in b))
        ≡ option_map (λ q. q.0) (option_and_then (λ os. option_and_then (found_at l.1 os) (position (has_object_id id) os)) (objects_in b))
    by_body (Objects os) = by_place os (position (has_object_id id) os) refl
    by_body b = refl

-- the place of the object is the one that is found with it
pub object_place-found : (id : ℕ) (ls : List (ℕ × Layer)) → first_some (place_in_layer id) ls ≡ option_map (λ q. q.0) (first_some (found_in_layer id) ls)
object_place-found id [] = refl
object_place-found id (l ∷ ls) = rw (place_in_layer-found id l) (by_found (found_in_layer id l) (object_place-found id ls))
  where
    by_found : (o : Option (ObjectPlace × Object)) → first_some (place_in_layer id) ls ≡ option_map (λ q. q.0) (first_some (found_in_layer id) ls)
        → or_else (option_map (λ q. q.0) o) (first_some (place_in_layer id) ls) ≡ option_map (λ q. q.0) (or_else o (first_some (found_in_layer id) ls))
    by_found None e = e
    by_found (Some q) e = refl

-- the layer in which an object is found
found-slice : (id : ℕ) (ls : List (ℕ × Layer)) (q : ObjectPlace × Object) → first_some (found_in_layer id) ls ≡ Some q
    → (k : ℕ) × ((l : ℕ × Layer) × ((slice_get ls k ≡ Some l) × (found_in_layer id l ≡ Some q)))
found-slice id [] q e = cc
found-slice id (l ∷ ls) q e = by_found (found_in_layer id l) refl e (found-slice id ls q)
  where
    by_found : (o : Option (ObjectPlace × Object)) → found_in_layer id l ≡ o → or_else o (first_some (found_in_layer id) ls) ≡ Some q
        → (first_some (found_in_layer id) ls ≡ Some q → (k : ℕ) × ((j : ℕ × Layer) × ((slice_get ls k ≡ Some j) × (found_in_layer id j ≡ Some q))))
        → (k : ℕ) × ((j : ℕ × Layer) × ((slice_get (l ∷ ls) k ≡ Some j) × (found_in_layer id j ≡ Some q)))
    by_found None f g later = let rest = later g in (suc rest.0, rest.1)
    by_found (Some r) f g later = (0, (l, (refl, f ∙ g)))

found_in_layer-at : (id : ℕ) (l : ℕ × Layer) (q : ObjectPlace × Object) → found_in_layer id l ≡ Some q
    → (os : List Object) × ((objects_of l.1 ≡ Some os) × ((slice_get os q.0.at ≡ Some q.1) × (place_of_layer l.1 q.0.at ≡ q.0)))
found_in_layer-at id l q e = by_objects (objects_of l.1) refl e
  where
    by_object : (os : List Object) (at : ℕ) (o : Option Object) → slice_get os at ≡ o → option_map (λ p. (place_of_layer l.1 at, p)) o ≡ Some q
        → (slice_get os q.0.at ≡ Some q.1) × (place_of_layer l.1 q.0.at ≡ q.0)
    by_object os at None f g = cc
    by_object os at (Some o) f g = let is : (place_of_layer l.1 at, o) ≡ q = cc in rw (← is) (f, refl)

    by_place : (os : List Object) (at : Option ℕ) → option_and_then (found_at l.1 os) at ≡ Some q
        → (slice_get os q.0.at ≡ Some q.1) × (place_of_layer l.1 q.0.at ≡ q.0)
    by_place os None g = cc
    by_place os (Some at) g = by_object os at (slice_get os at) refl g

    by_objects : (o : Option (List Object)) → objects_of l.1 ≡ o
        → option_and_then (λ os. option_and_then (found_at l.1 os) (position (has_object_id id) os)) o ≡ Some q
        → (os : List Object) × ((objects_of l.1 ≡ Some os) × ((slice_get os q.0.at ≡ Some q.1) × (place_of_layer l.1 q.0.at ≡ q.0)))
    by_objects None f g = cc
    by_objects (Some os) f g = (os, (f, by_place os (position (has_object_id id) os) g))

-- the object that is found stands at its place
pub object_at-found : (m : MapParts) (id : ℕ) (q : ObjectPlace × Object) → first_some (found_in_layer id) (all_drawn m.layers) ≡ Some q → IsWellFormed m
    → object_at m q.0 ≡ Some q.1
object_at-found m id q e h =
    let layer = found-slice id (all_drawn m.layers) q e in
    let l = layer.1.0 in
    let found = found_in_layer-at id l q layer.1.1.1 in
    ap (object_at m) (sym found.1.1.1) ∙ object_at-drawn m layer.0 l found.0 q.0.at q.1 layer.1.1.0 found.1.0 found.1.1.0 h

-- what is found, seen behind its reference
pub shown_place : (r : Option (ObjectPlace × Bor Object)) (o : Option (ObjectPlace × Object)) → option_map (λ found. (found.0, found.1.now)) r ≡ o
    → option_map (λ found. found.0) r ≡ option_map (λ q. q.0) o
shown_place None o e = rw (← e) refl
shown_place (Some found) o e = rw (← e) refl

pub shown_object : (m : MapParts) (id : ℕ) (r : Option (ObjectPlace × Bor Object))
    → option_map (λ found. (found.0, found.1.now)) r ≡ first_some (found_in_layer id) (all_drawn m.layers) → IsWellFormed m
    → IfSome r (λ found. object_at m found.0 ≡ Some found.1.now)
shown_object m id None e h = tt
shown_object m id (Some found) e h = object_at-found m id (found.0, found.1.now) (sym e) h
