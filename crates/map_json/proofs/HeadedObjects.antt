-- The head of an object with an id, in a document: the map is well formed with a head that was read from its members.
use Rattle.std.proofs.Common.{◌≡◌, ℕ, List, Bool, true, false, ◌+◌, ◌≤◌, Option, Some, None, IsSome, option_and_then, Ok, refl, sym, ◌∙◌, subst, arith}
use Rattle.std.specs.List.{slice_get}
use Rattle.serde_json.specs.Data.{Members}
use Rattle.map_model.specs.declared.heads.ObjectHead.{ObjectHead}
use Rattle.map_model.specs.declared.limits.TheConstants.{MAX_DEPTH}
use Rattle.map_model.specs.declared.parts.Layer.{Layer}
use Rattle.map_model.specs.declared.parts.MapParts.{MapParts}
use Rattle.map_model.specs.declared.parts.Object.{Object}
use Rattle.map_model.specs.declared.place.ObjectPlace.{ObjectPlace}
use Rattle.map_model.specs.Document.{DocumentParts, with_map}
use Rattle.map_model.specs.Heads.{head, head_with_id, object_head, object_with_head}
use Rattle.map_model.specs.Keeping.{deepest_tier, object_tier}
use Rattle.map_model.specs.Lens.{of_object, put}
use Rattle.map_model.specs.Lookups.{layer_of}
use Rattle.map_model.specs.Objects.{object_at, object_place, objects_of, with_object}
use Rattle.map_model.specs.Properties.{tier_of}
use Rattle.map_model.specs.WellFormed.{IsObject, IsWellFormed}
use Rattle.map_model.proofs.FoundLaws.{found-get, found-update}
use Rattle.map_model.proofs.Keeps.{layer-Stands, tier_of-found}
use Rattle.map_model.proofs.LensLaws.{of_object-get, some-eq}
use Rattle.map_model.proofs.ObjectKeeps.{object_at-IsObject, with_object-keeps_there}
use Rattle.fractions.specs.declared.lines.Fractions.{Fractions}
use Rattle.fractions.specs.declared.lines.Moved.{Moved}
use Rattle.fractions.specs.declared.place.Place.TheVariants as places
use Rattle.fractions.specs.Aside.{reserved_name}
use Rattle.fractions.specs.Lines.{members_said, put_words, remove_word}
use Rattle.map_json.specs.declared.word.TheConstants.{MAX_WORD_DEPTH}
use Rattle.map_json.specs.ObjectHeads.{IsObjectHead, head_at, head_members}
use Rattle.map_json.specs.Words.{AreWords, all_named}
use Rattle.map_json.proofs.ObjectHeadLaws.{head_drop_sound, head_put_sound}

-- ---- how deep an object stands
tier_few : (m : MapParts) (id : ℕ) (l : Layer) → layer_of m id ≡ Some l → tier_of m id ≤ deepest_tier
tier_few m id l e = let deep = (layer-Stands m id l e).deep in rw (tier_of-found m id l e) (omega arith)

layer_there : (m : MapParts) (place : ObjectPlace) (o : Object) → object_at m place ≡ Some o → (l : Layer) × (layer_of m place.layer ≡ Some l)
layer_there m place o e = by_layer (layer_of m place.layer) refl e
  where
    by_layer : (x : Option Layer) → layer_of m place.layer ≡ x → option_and_then (λ os. slice_get os place.at) (option_and_then objects_of x) ≡ Some o
        → (l : Layer) × (layer_of m place.layer ≡ Some l)
    by_layer None q g = cc
    by_layer (Some l) q g = (l, q)

-- a text of a line fits there
words_fit : (m : MapParts) (place : ObjectPlace) (o : Object) → object_at m place ≡ Some o
    → object_tier (tier_of m place.layer) + MAX_WORD_DEPTH ≤ MAX_DEPTH
words_fit m place o e = let l = layer_there m place o e in let few = tier_few m place.layer l.0 l.1 in omega arith

-- ---- heads
pub head_is : (m : MapParts) (place : ObjectPlace) (o : Object) → object_at m place ≡ Some o → IsWellFormed m
    → IsObjectHead (object_tier (tier_of m place.layer)) (object_head o)
head_is m place o e h = let i = object_at-IsObject m place o e h in record { placing = i.placing; name = i.name; gid = i.gid; kept = i.kept }

with_head-IsObject : (tier : ℕ) (h : ObjectHead) (o : Object) → IsObject tier o → IsObjectHead tier h → IsObject tier (object_with_head h o)
with_head-IsObject tier h o i k = record { placing = k.placing; name = k.name; gid = k.gid; properties = i.properties; kept = k.kept }

-- ---- the object with the id, at its place
module _ (id : ℕ) (place : ObjectPlace) (d : DocumentParts) (stands : object_place d.map id ≡ Some place) where
  pub head-get : (head_with_id id).get d ≡ option_and_then (λ o. Some (object_head o)) (object_at d.map place)
  head-get = found-get (λ e. object_place e.map id) (λ k. of_object k head) place d stands ∙ of_object-get place head d

  pub object_at-there : IsSome ((head_with_id id).get d) → IsSome (object_at d.map place)
  object_at-there h = by_object (object_at d.map place) (rw head-get at h)
    where
      by_object : (o : Option Object) → IsSome (option_and_then (λ p. Some (object_head p)) o) → IsSome o
      by_object None g = cc
      by_object (Some p) g = refl

  pub head-put : (h : ObjectHead) → with_map (with_object place (object_with_head h)) d ≡ put (head_with_id id) h d
  head-put h = sym (found-update (λ e. object_place e.map id) (λ k. of_object k head) place d stands (λ own. h))

-- a document whose object has a head has it at a place
pub record HasHead (id : ℕ) (d : DocumentParts) (h : ObjectHead) : Type 0 where
  pub place : ObjectPlace
  pub object : Object
  pub stands : object_place d.map id ≡ Some place
  pub at : object_at d.map place ≡ Some object
  pub is : object_head object ≡ h

pub has_head : (id : ℕ) (d : DocumentParts) (h : ObjectHead) → (head_with_id id).get d ≡ Some h → HasHead id d h
has_head id d h e = by_place (object_place d.map id) refl
  where
    by_object : (place : ObjectPlace) → object_place d.map id ≡ Some place → (o : Option Object) → object_at d.map place ≡ o
        → option_and_then (λ p. Some (object_head p)) o ≡ Some h → HasHead id d h
    by_object place stands None at q = absurd cc
    by_object place stands (Some p) at q = record { place = place; object = p; stands = stands; at = at; is = some-eq (object_head p) h q }

    no_place : object_place d.map id ≡ None → (head_with_id id).get d ≡ None
    no_place none = rw none refl

    by_place : (k : Option ObjectPlace) → object_place d.map id ≡ k → HasHead id d h
    by_place None q = absurd (let gone = no_place q in cc)
    by_place (Some place) q = by_object place q (object_at d.map place) refl (sym (head-get id place d q) ∙ e)

-- the map is well formed with a head that stands at the object's tier
with_head : (id : ℕ) (d : DocumentParts) (own new : ObjectHead) → IsWellFormed d.map → (head_with_id id).get d ≡ Some own
    → ((tier : ℕ) → tier + MAX_WORD_DEPTH ≤ MAX_DEPTH → IsObjectHead tier own → IsObjectHead tier new) → IsWellFormed (put (head_with_id id) new d).map
with_head id d own new h e sound =
    let has = has_head id d own e in
    let tier = object_tier (tier_of d.map has.place.layer) in
    let old = subst (IsObjectHead tier) has.is (head_is d.map has.place has.object has.at h) in
    let fresh = sound tier (words_fit d.map has.place has.object has.at) old in
    let object = with_head-IsObject tier new has.object (object_at-IsObject d.map has.place has.object has.at h) fresh in
    let keeps = with_object-keeps_there has.place (object_with_head new) has.object d.map has.at (λ p. refl) object h in
    subst (λ (x : DocumentParts). IsWellFormed x.map) (head-put id has.place d has.stands new) keeps

-- ---- heads that were read
pub put-well_formed : (is_own : List ℕ → Bool) → is_own reserved_name ≡ false → (id : ℕ) (f : Fractions) (m : Moved) (words : Members) (own new : ObjectHead)
    (d : DocumentParts) → IsWellFormed d.map → (head_with_id id).get d ≡ Some own → AreWords (members_said f places.Object m words)
    → all_named is_own words ≡ true → head_at (put_words f places.Object m words (head_members own)) ≡ Ok new
    → IsWellFormed (put (head_with_id id) new d).map
put-well_formed is_own reserved id f m words own new d h given are named e =
    with_head id d own new h given (λ tier room is. head_put_sound is_own reserved tier f m words own new room are named is e)

pub without-well_formed : (id : ℕ) (f : Fractions) (name : List ℕ) (own new : ObjectHead) (d : DocumentParts) → IsWellFormed d.map
    → (head_with_id id).get d ≡ Some own → head_at (remove_word f places.Object name (head_members own)) ≡ Ok new
    → IsWellFormed (put (head_with_id id) new d).map
without-well_formed id f name own new d h given e = with_head id d own new h given (λ tier room is. head_drop_sound tier f name own new room is e)
