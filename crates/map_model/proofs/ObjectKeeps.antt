-- Changes of the objects of a layer that keep a map well formed.
use Rattle.std.proofs.Common.{◌≡◌, ◌≢◌, ℕ, zero, suc, ◌*◌, ◌<◌, ◌≤◌, List, [], ◌∷◌, ◌++◌, append_assoc, length, Option, Some, None, IsSome, IsSomeAnd}
use Rattle.std.proofs.Common.{option_map, option_and_then, refl, sym, ap, ◌∙◌, subst, arith}
use Rattle.std.specs.List.{slice_get, slice_set, insert, remove, flat_map}
use Rattle.map_model.specs.declared.limits.TheConstants.{MAX_GROUPS, MAX_OBJECTS, MAX_NEXT_ID}
use Rattle.map_model.specs.declared.parts.Body.{Body}
use Rattle.map_model.specs.declared.parts.Body.TheVariants.{Objects}
use Rattle.map_model.specs.declared.parts.Layer.{Layer}
use Rattle.map_model.specs.declared.parts.MapParts.{MapParts}
use Rattle.map_model.specs.declared.parts.Object.{Object}
use Rattle.map_model.specs.declared.parts.Placing.{Placing}
use Rattle.map_model.specs.declared.place.ObjectPlace.{ObjectPlace}
use Rattle.map_model.specs.Bodies.{body_with_objects, objects_in}
use Rattle.map_model.specs.Keeping.{object_tier}
use Rattle.map_model.specs.Layers.{with_next_ids}
use Rattle.map_model.specs.Groups.{group_in}
use Rattle.map_model.specs.Lists.{Each, change_at, or_empty}
use Rattle.map_model.specs.Objects.{objects_of, layer_with_objects, objects_of_layer, object_at, with_objects, without_object_at}
use Rattle.map_model.specs.Objects.{with_object, object_placing, object_with_placing}
use Rattle.map_model.specs.Lookups.{layer_of}
use Rattle.map_model.specs.Properties.{tier_of}
use Rattle.map_model.specs.WellFormed.{IsId, AreIds, IsPlacing, IsObject, IsBody, IsLayer, IsWellFormed, ids_of_object, object_ids_in, object_ids}
use Rattle.map_model.proofs.BodyLaws.{IsLayer-contents, group_in-contents, object_ids-contents, body_with_objects-along, objects_in-contents}
use Rattle.map_model.proofs.Changes.{Each-insert, Each-remove, length-insert, length-remove_le, slice_get-within, Each-at}
use Rattle.map_model.proofs.Keeps.{KeepsLayers, changed-keeps, layer_of-IsLayer, object_ids-IsReplaced, with_layer-keeps, Each-IsId-raised}
use Rattle.map_model.proofs.TreeChanges.{change_among-along}
use Rattle.map_model.proofs.Listings.{IsReplaced, insert-IsReplaced, remove-IsReplaced, flat-IsReplaced, AreNewIds-none, AreIds-replaced}

-- ---- the object at a place
-- a change of an object that keeps its id and keeps it one of a layer's objects
pub record KeepsObjects (f : Object → Object) : Type 0 where
  pub ids : (o : Object) → (f o).id ≡ o.id
  pub objects : (tier : ℕ) (o : Object) → IsObject tier o → IsObject tier (f o)

pub length-change_at : {X : Type 0} (k : ℕ) (f : X → X) (xs : List X) → length (change_at k f xs) ≡ length xs
length-change_at zero f [] = refl
length-change_at (suc k) f [] = refl
length-change_at zero f (x ∷ xs) = refl
length-change_at (suc k) f (x ∷ xs) = ap suc (length-change_at k f xs)

pub Each-change_at : {X : Type 0} (P : X → Type 0) (k : ℕ) (f : X → X) (xs : List X) → ((x : X) → slice_get xs k ≡ Some x → P x → P (f x)) → Each P xs
    → Each P (change_at k f xs)
Each-change_at P zero f [] keeps h = tt
Each-change_at P (suc k) f [] keeps h = tt
Each-change_at P zero f (x ∷ xs) keeps h = (keeps x refl h.0, h.1)
Each-change_at P (suc k) f (x ∷ xs) keeps h = (h.0, Each-change_at P k f xs keeps h.1)

ids-change_at : (k : ℕ) (f : Object → Object) → ((o : Object) → (f o).id ≡ o.id) → (os : List Object)
    → flat_map ids_of_object (change_at k f os) ≡ flat_map ids_of_object os
ids-change_at zero f same [] = refl
ids-change_at (suc k) f same [] = refl
ids-change_at zero f same (o ∷ os) = ap (λ id. id ∷ flat_map ids_of_object os) (same o)
ids-change_at (suc k) f same (o ∷ os) = ap (λ ids. o.id ∷ ids) (ids-change_at k f same os)

object_ids-change_at : (k : ℕ) (f : Object → Object) → ((o : Object) → (f o).id ≡ o.id) → (b : Body)
    → object_ids_in (body_with_objects (change_at k f) b) ≡ object_ids_in b
object_ids-change_at k f same = object_ids-contents (λ cells. cells) (change_at k f) (ids-change_at k f same)

pub group_in-objects : (g : List Object → List Object) (b : Body) → group_in (body_with_objects g b) ≡ group_in b
group_in-objects g = group_in-contents (λ cells. cells) g

layer_with_object-keeps : (k : ℕ) (f : Object → Object) → KeepsObjects f → KeepsLayers (layer_with_objects (change_at k f))
layer_with_object-keeps k f keeps = record {
  ids = λ l. refl;
  inside = λ l. ap or_empty (group_in-objects (change_at k f) l.body);
  object_ids = λ l. object_ids-change_at k f keeps.ids l.body;
  layers = λ tier size l h. IsLayer-contents (λ cells. cells) (change_at k f) tier size size l (λ cells e own. own) (λ os e own.
      (rw (length-change_at k f os) own.0, Each-change_at (IsObject (object_tier tier)) k f os (λ o e. keeps.objects (object_tier tier) o) own.1)) h;
}

pub with_object-keeps : (place : ObjectPlace) (f : Object → Object) (m : MapParts) → KeepsObjects f → IsWellFormed m → IsWellFormed (with_object place f m)
with_object-keeps place f m keeps h =
    with_layer-keeps place.layer (layer_with_objects (change_at place.at f)) m (with_object place f m).layers refl (layer_with_object-keeps place.at f keeps) h

pub object_with_placing-keeps : (placing : Placing) → IsPlacing placing → KeepsObjects (object_with_placing placing)
object_with_placing-keeps placing is = record {
  ids = λ o. refl;
  objects = λ tier o h. record { placing = is; name = h.name; gid = h.gid; properties = h.properties; kept = h.kept };
}

-- ---- the objects of one layer
IsLayer-objects : (g : List Object → List Object) (os : List Object) (tier size : ℕ) (l : Layer) → objects_of l ≡ Some os → length (g os) ≤ MAX_OBJECTS
    → Each (IsObject (object_tier tier)) (g os)
    → IsLayer tier size l → IsLayer tier size (layer_with_objects g l)
IsLayer-objects g os tier size l e few each h =
    IsLayer-contents (λ cells. cells) g tier size size l (λ cells q own. own) (λ ps q own.
    let both : Some ps ≡ Some os = sym q ∙ e in
    let is : ps ≡ os = cc in rw is (few, each)) h

-- where there is an object layer, there is a layer
pub found_layer : (os : List Object) (o : Option Layer) → option_and_then objects_of o ≡ Some os → (l : Layer) × ((o ≡ Some l) × (objects_of l ≡ Some os))
found_layer os None e = cc
found_layer os (Some l) e = (l, (refl, e))

-- other objects in the place of those of the layer with the id
with_objects-keeps : (layer : ℕ) (g : List Object → List Object) (os : List Object) (m : MapParts) → objects_of_layer m layer ≡ Some os
    → length (g os) ≤ MAX_OBJECTS
    → Each (IsObject (object_tier (tier_of m layer))) (g os) → AreIds m.next_object_id (object_ids (with_objects layer g m).layers) → IsWellFormed m
    → IsWellFormed (with_objects layer g m)
with_objects-keeps layer g os m e few each ids h =
    let found = found_layer os (layer_of m layer) e in
    let l = found.0 in
    changed-keeps layer (layer_with_objects g) l m found.1.0 (ap or_empty (group_in-objects g l.body)) refl
    (IsLayer-objects g os (tier_of m layer) (m.width * m.height) l found.1.1 few each (layer_of-IsLayer m layer l found.1.0 h)) ids h

-- ---- the ids of all objects
-- for some lists before and behind it, a piece of the list xs is replaced, which gives ys
abbrev HasReplaced : List ℕ → List ℕ → List ℕ → List ℕ → Type 0
HasReplaced piece new xs ys = (prefix : List ℕ) × ((rest : List ℕ) × IsReplaced prefix piece new rest xs ys)

longer : (prefix piece rest more : List ℕ) → (prefix ++ (piece ++ rest)) ++ more ≡ prefix ++ (piece ++ (rest ++ more))
longer prefix piece rest more = append_assoc prefix (piece ++ rest) more ∙ ap (λ zs. prefix ++ zs) (append_assoc piece rest more)

HasReplaced-before : {piece new xs ys : List ℕ} (more : List ℕ) → HasReplaced piece new xs ys → HasReplaced piece new (xs ++ more) (ys ++ more)
HasReplaced-before {piece = piece} {new = new} more r = (
  r.0,
  (
    r.1.0 ++ more,
    record {
      was = ap (λ zs. zs ++ more) r.1.1.was ∙ longer r.0 piece r.1.0 more;
      now = ap (λ zs. zs ++ more) r.1.1.now ∙ longer r.0 new r.1.0 more;
    },
  ),
)

HasReplaced-behind : {piece new xs ys : List ℕ} (more : List ℕ) → HasReplaced piece new xs ys → HasReplaced piece new (more ++ xs) (more ++ ys)
HasReplaced-behind {piece = piece} {new = new} more r = (
  more ++ r.0,
  (
    r.1.0,
    record {
      was = ap (λ zs. more ++ zs) r.1.1.was ∙ sym (append_assoc more r.0 (piece ++ r.1.0));
      now = ap (λ zs. more ++ zs) r.1.1.now ∙ sym (append_assoc more r.0 (new ++ r.1.0));
    },
  ),
)

-- a piece of a piece
HasReplaced-inner : {piece new prefix was now rest xs ys : List ℕ} → IsReplaced prefix was now rest xs ys → HasReplaced piece new was now
    → HasReplaced piece new xs ys
HasReplaced-inner {piece = piece} {new = new} {prefix = prefix} {rest = rest} r inner =
    rw (r.was, r.now) (HasReplaced-behind prefix (HasReplaced-before rest inner))

HasReplaced-layer : {piece new : List ℕ} (g : List Object → List Object) (os : List Object) (b : Body) → objects_in b ≡ Some os
    → HasReplaced piece new (flat_map ids_of_object os) (flat_map ids_of_object (g os))
    → HasReplaced piece new (object_ids_in b) (object_ids_in (body_with_objects g b))
HasReplaced-layer g os b e r = rw (objects_in-contents (λ cells. cells) g b, e) r

HasReplaced-objects : {piece new : List ℕ} (layer : ℕ) (g : List Object → List Object) (os : List Object) (m : MapParts) → objects_of_layer m layer ≡ Some os
    → HasReplaced piece new (flat_map ids_of_object os) (flat_map ids_of_object (g os))
    → HasReplaced piece new (object_ids m.layers) (object_ids (with_objects layer g m).layers)
HasReplaced-objects layer g os m e r =
    let found = found_layer os (layer_of m layer) e in
    let l = found.0 in
    let replaced = object_ids-IsReplaced layer (layer_with_objects g) l m found.1.0 (ap or_empty (group_in-objects g l.body)) in
    HasReplaced-inner replaced.1.1 (HasReplaced-layer g os l.body found.1.1 r)

-- ---- objects that come and go
-- the objects of a layer of a well-formed map
pub objects_of_layer-IsBody : (m : MapParts) (layer : ℕ) (os : List Object) → objects_of_layer m layer ≡ Some os → IsWellFormed m
    → IsBody (tier_of m layer) (m.width * m.height) (Objects os)
objects_of_layer-IsBody m layer os e h =
    let found = found_layer os (layer_of m layer) e in
    by_body found.0.body found.1.1 (layer_of-IsLayer m layer found.0 found.1.0 h).body
  where
    by_body : (b : Body) → objects_in b ≡ Some os → IsBody (tier_of m layer) (m.width * m.height) b
        → IsBody (tier_of m layer) (m.width * m.height) (Objects os)
    by_body (Objects own) q k = let is : own ≡ os = cc in subst (λ ps. IsBody (tier_of m layer) (m.width * m.height) (Objects ps)) is k
    by_body b q k = cc

pub objects_of_layer-few : (m : MapParts) (layer k : ℕ) → IsSomeAnd (objects_of_layer m layer) (λ os. k ≤ length os) → IsWellFormed m
    → IsSomeAnd (objects_of_layer m layer) (λ os. length os ≤ MAX_OBJECTS)
objects_of_layer-few m layer k room h = by_objects (objects_of_layer m layer) refl room
  where
    by_objects : (option : Option (List Object)) → objects_of_layer m layer ≡ option → IsSomeAnd option (λ os. k ≤ length os)
        → IsSomeAnd option (λ os. length os ≤ MAX_OBJECTS)
    by_objects None e q = q
    by_objects (Some os) e q = (objects_of_layer-IsBody m layer os e h).0

-- where there is an object, there is a layer with objects
listed : (k : ℕ) (o : Object) (option : Option (List Object)) → option_and_then (λ os. slice_get os k) option ≡ Some o
    → (os : List Object) × ((option ≡ Some os) × (slice_get os k ≡ Some o))
listed k o None e = cc
listed k o (Some os) e = (os, (refl, e))

pub object_at-IsObject : (m : MapParts) (place : ObjectPlace) (o : Object) → object_at m place ≡ Some o → IsWellFormed m
    → IsObject (object_tier (tier_of m place.layer)) o
object_at-IsObject m place o e h =
    let found = listed place.at o (objects_of_layer m place.layer) e in
    Each-at (IsObject (object_tier (tier_of m place.layer))) found.0 place.at o found.1.1 (objects_of_layer-IsBody m place.layer found.0 found.1.0 h).1

-- the placing of an object is one
pub object_at-IsPlacing : (m : MapParts) (place : ObjectPlace) (placing : Placing) → option_map object_placing (object_at m place) ≡ Some placing
    → IsWellFormed m → IsPlacing placing
object_at-IsPlacing m place placing e h = by_object (object_at m place) refl e
  where
    by_object : (option : Option Object) → object_at m place ≡ option → option_map object_placing option ≡ Some placing → IsPlacing placing
    by_object None f q = cc
    by_object (Some o) f q = let is : o.placing ≡ placing = cc in subst IsPlacing is (object_at-IsObject m place o f h).placing

pub object_at-within : (m : MapParts) (place : ObjectPlace) → IsSome (object_at m place)
    → IsSomeAnd (objects_of_layer m place.layer) (λ os. place.at < length os)
object_at-within m place there = by_objects (objects_of_layer m place.layer) there
  where
    within : (os : List Object) (o : Option Object) → slice_get os place.at ≡ o → IsSome o → place.at < length os
    within os None e q = cc
    within os (Some o) e q = slice_get-within os place.at o e

    by_objects : (option : Option (List Object)) → IsSome (option_and_then (λ os. slice_get os place.at) option) → IsSomeAnd option (λ os. place.at < length os)
    by_objects None q = cc
    by_objects (Some os) q = within os (slice_get os place.at) refl q

-- an object changed at its place, where the change keeps that one alone
pub with_object-keeps_there : (place : ObjectPlace) (f : Object → Object) (o : Object) (m : MapParts) → object_at m place ≡ Some o
    → ((p : Object) → (f p).id ≡ p.id)
    → IsObject (object_tier (tier_of m place.layer)) (f o) → IsWellFormed m → IsWellFormed (with_object place f m)
with_object-keeps_there place f o m e same is h =
    let found = listed place.at o (objects_of_layer m place.layer) e in
    let os = found.0 in
    let tier = object_tier (tier_of m place.layer) in
    let old = objects_of_layer-IsBody m place.layer os found.1.0 h in
    let layer = found_layer os (layer_of m place.layer) found.1.0 in
    let l = layer.0 in
    let r = object_ids-IsReplaced place.layer (layer_with_objects (change_at place.at f)) l m layer.1.0
    (ap or_empty (group_in-objects (change_at place.at f) l.body)) in
    let ids : object_ids (with_object place f m).layers ≡ object_ids m.layers = r.1.1.now
    ∙ ap (λ p. r.0 ++ (p ++ r.1.0)) (object_ids-change_at place.at f same l.body) ∙ sym r.1.1.was in
    with_objects-keeps place.layer (change_at place.at f) os m found.1.0 (rw (length-change_at place.at f os) old.0)
    (Each-change_at (IsObject tier) place.at f os
    (λ p q k. let own : o ≡ p = cc (found.1.1, q) in subst (λ z. IsObject tier (f z)) own is) old.1)
    (rw ids h.layers.object_ids) h

pub without_object_at-keeps : (place : ObjectPlace) (m : MapParts) → IsSome (object_at m place) → IsWellFormed m → IsWellFormed (without_object_at place m)
without_object_at-keeps place m there h = by_objects (objects_of_layer m place.layer) refl there
  where
    by_objects : (option : Option (List Object)) → objects_of_layer m place.layer ≡ option → IsSome (option_and_then (λ os. slice_get os place.at) option)
        → IsWellFormed (without_object_at place m)
    by_objects None e q = cc
    by_objects (Some os) e q =
        let old = objects_of_layer-IsBody m place.layer os e h in
        let less = length-remove_le os place.at in
        let r = HasReplaced-objects place.layer (λ ps. remove ps place.at) os m e (_, (_, flat-IsReplaced ids_of_object (remove-IsReplaced os place.at))) in
        with_objects-keeps place.layer (λ ps. remove ps place.at) os m e (omega (arith, old.0)) (Each-remove _ os place.at old.1)
        (AreIds-replaced r.1.1 h.layers.object_ids (AreNewIds-none m.next_object_id (r.0 ++ r.1.0))) h

-- the next object id raised
raised_object-keeps : (m : MapParts) (raised : ℕ) → m.next_object_id ≤ raised → raised ≤ MAX_NEXT_ID → IsWellFormed m
    → IsWellFormed (with_next_ids m.next_layer_id raised m)
raised_object-keeps m raised above below h = record {
  size = h.size;
  tile_size = h.tile_size;
  layers = record {
    few = h.layers.few;
    each = h.layers.each;
    layer_ids = h.layers.layer_ids;
    object_ids = record {
      next_low = omega (arith, above, h.layers.object_ids.next_low);
      next_high = below;
      each = Each-IsId-raised m.next_object_id raised (object_ids m.layers) above h.layers.object_ids.each;
      distinct = h.layers.object_ids.distinct;
    };
  };
  tilesets = h.tilesets;
  properties = h.properties;
  kept = h.kept;
}

-- an object with a new id, put in at a place of the objects that g gives for those of the layer
pub put_object-keeps : (m : MapParts) (layer raised : ℕ) (g : List Object → List Object) (os : List Object) (k : ℕ) (o : Object)
    → objects_of_layer m layer ≡ Some os → g os ≡ insert os k o
    → length os < MAX_OBJECTS → m.next_object_id ≤ raised → raised ≤ MAX_NEXT_ID → IsObject (object_tier (tier_of m layer)) o
    → IsId raised o.id → Each (λ id. o.id ≢ id) (object_ids m.layers) → IsWellFormed m
    → IsWellFormed (with_next_ids m.next_layer_id raised (with_objects layer g m))
put_object-keeps m layer raised g os k o e is few above below object id apart h =
    let raised_is = raised_object-keeps m raised above below h in
    let old = objects_of_layer-IsBody m layer os e h in
    let put : HasReplaced [] (o.id ∷ []) (flat_map ids_of_object os) (flat_map ids_of_object (g os)) =
    rw is (_, (_, flat-IsReplaced ids_of_object (insert-IsReplaced os k o))) in
    let r = HasReplaced-objects layer g os m e put in
    with_objects-keeps layer g os (with_next_ids m.next_layer_id raised m) e (let more = length-insert os k o in rw is (omega (arith, few)))
    (rw is (Each-insert _ os k o object old.1))
    (AreIds-replaced r.1.1 raised_is.layers.object_ids (record { each = (id, tt); distinct = (tt, tt); apart = (rw (← r.1.1.was) apart, tt) })) raised_is

-- two changes that agree on the objects of the layer
pub with_objects-along : (m : MapParts) (layer : ℕ) (f g : List Object → List Object) (os : List Object) → objects_of_layer m layer ≡ Some os → f os ≡ g os
    → with_objects layer f m ≡ with_objects layer g m
with_objects-along m layer f g os e same =
    ap (λ ls. record m { layers = ls })
    (change_among-along layer (layer_with_objects f) (layer_with_objects g) MAX_GROUPS m.layers
    (λ l found. ap (λ b. record l { body = b }) (body_with_objects-along f g os l.body (ap (option_and_then objects_of) (sym found) ∙ e) same)))

-- ---- a write at a place
pub slice_set-change_at : {X : Type 0} (f : X → X) (xs : List X) (k : ℕ) (x : X) → slice_get xs k ≡ Some x → slice_set xs k (f x) ≡ change_at k f xs
slice_set-change_at f [] zero x e = cc
slice_set-change_at f [] (suc k) x e = cc
slice_set-change_at f (y ∷ ys) zero x e = let same : y ≡ x = cc in rw same refl
slice_set-change_at f (y ∷ ys) (suc k) x e = ap (λ zs. y ∷ zs) (slice_set-change_at f ys k x e)
