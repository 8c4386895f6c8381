-- An object that is moved or resized.
use Rattle.std.proofs.Common.{◌≡◌, ℕ, Bool, true, false, ◌&&◌, ℤ, pos, int_eq, int_le, Option, Some, None, IsSome, option_and_then, Result, Ok, cond, refl, sym}
use Rattle.std.proofs.Common.{ap, ◌∙◌, subst, arith}
use Rattle.std.specs.Bool.{Decides}
use Rattle.std.specs.Cmp.Derive.{both_true}
use Rattle.std.specs.Option.{option_eq}
use Rattle.std.proofs.lemmas.Bool.Decides.{Decides-int_eq}
use Rattle.std.proofs.lemmas.Int.{ints}
use Rattle.map_model.specs.declared.limits.TheConstants.{MAX_PIXELS}
use Rattle.map_model.specs.declared.parts.Object.{Object}
use Rattle.map_model.specs.declared.parts.Placing.{Placing}
use Rattle.map_model.specs.declared.place.ObjectPlace.{ObjectPlace}
use Rattle.map_model.specs.Document.{DocumentParts, with_map}
use Rattle.map_model.specs.Objects.{object_at, object_place, object_placing, object_with_placing, with_object}
use Rattle.map_model.specs.Lens.{of_object, placing, placing_with_id, put}
use Rattle.map_model.specs.WellFormed.{IsPixels, IsPlacing, IsWellFormed}
use Rattle.map_model.proofs.ObjectKeeps.{object_at-IsObject, object_with_placing-keeps, with_object-keeps}
use Rattle.map_model.proofs.FoundLaws.{found-get, found-update}
use Rattle.map_model.proofs.LensLaws.{of_object-get, update-put}
use Rattle.map_model.proofs.StayPut.{placing_with_id-keeps, placing_with_id-laws}
use Rattle.command_api.specs.declared.ids.TheConstants.{MOVE_ID}
use Rattle.command_api.specs.Names.{WhenEqual}
use Rattle.command_api.specs.Making.{Makes}
use Rattle.command_api.specs.Swap.{FitsShown}
use Rattle.command_api.specs.Tag.{OfObject}
use Rattle.command_api.proofs.Swaps.{shown_made}
use Rattle.command_api.proofs.Tags.{OfObject-same}
use Rattle.edits.specs.ObjectEdits.{is_object_size, placing_of, moved, resized}
use Rattle.object_commands.specs.declared.place.PlacingKind.{PlacingKind}
use Rattle.object_commands.specs.declared.place.PlacingKind.TheVariants.{Move, Resize}
use Rattle.object_commands.specs.declared.place.PlaceObject.{PlaceObject}
use Rattle.object_commands.specs.Changes.{place_object_names, place_object_change, AllowsPlacing}

-- ---- placings that are equal
Decides-option_eq : (a b : Option ℤ) → Decides (option_eq int_eq a b) (a ≡ b)
Decides-option_eq None None = (λ e. refl, λ e. refl)
Decides-option_eq None (Some y) = (λ e. cc, λ e. cc)
Decides-option_eq (Some x) None = (λ e. cc, λ e. cc)
Decides-option_eq (Some x) (Some y) = let d = Decides-int_eq x y in (λ e. ap Some (d.0 e), λ e. let same : x ≡ y = cc in d.1 same)

both_tests : (s t : Bool) → (s && t) ≡ true → (s ≡ true) × (t ≡ true)
both_tests true t e = (refl, e)
both_tests false t e = cc

-- what the test of two placings answers
abbrev pub placing_test : Placing → Placing → Bool
placing_test p q = option_eq int_eq p.x q.x && (option_eq int_eq p.y q.y && (option_eq int_eq p.width q.width && option_eq int_eq p.height q.height))

pub Decides-placing_test : (p q : Placing) → Decides (placing_test p q) (p ≡ q)
Decides-placing_test p q =
    let x = Decides-option_eq p.x q.x in
    let y = Decides-option_eq p.y q.y in
    let width = Decides-option_eq p.width q.width in
    let height = Decides-option_eq p.height q.height in (
      λ e.
          let first = both_tests _ _ e in
          let second = both_tests _ _ first.1 in
          let third = both_tests _ _ second.1 in
          λ i. record { x = x.0 first.0 i; y = y.0 second.0 i; width = width.0 third.0 i; height = height.0 third.1 i },
      λ e. both_true (x.1 (ap (λ (r : Placing). r.x) e)) (both_true (y.1 (ap (λ (r : Placing). r.y) e))
          (both_true (width.1 (ap (λ (r : Placing). r.width) e)) (height.1 (ap (λ (r : Placing). r.height) e)))),
    )

-- ---- sizes in pixels
-- what is there where a test passes
pub given_by : {X : Type 0} (b : Bool) (x y : X) → Some x ≡ cond b (Some y) None → (b ≡ true) × (x ≡ y)
given_by true x y is = (refl, (let same : x ≡ y = cc in same))
given_by false x y is = cc

pixels : (n : ℕ) → int_le (pos n) MAX_PIXELS ≡ true → IsPixels (pos n)
pixels n e = record { low = omega (arith, ints); high = grind (arith, ints) }

pub moved-IsPlacing : (x y : ℤ) → IsPixels x → IsPixels y → (p : Placing) → IsPlacing p → IsPlacing (moved x y p)
moved-IsPlacing x y left top p h = record { x = left; y = top; width = h.width; height = h.height }

pub resized-IsPlacing : (width height : ℕ) → is_object_size width height ≡ true → (p : Placing) → IsPlacing p → IsPlacing (resized width height p)
resized-IsPlacing width height e p h =
    let fit = both_tests _ _ e in
    record { x = h.x; y = h.y; width = pixels width fit.0; height = pixels height fit.1 }

pub placing_of-IsPlacing : (x y : ℤ) (width height : ℕ) → IsPixels x → IsPixels y → is_object_size width height ≡ true → IsPlacing (placing_of x y width height)
placing_of-IsPlacing x y width height left top e =
    let fit = both_tests _ _ e in
    record { x = left; y = top; width = pixels width fit.0; height = pixels height fit.1 }

-- ---- an object that is placed
-- the object with the id has its placing at its place
module _ (id : ℕ) (place : ObjectPlace) (d : DocumentParts) (stands : object_place d.map id ≡ Some place) where
  placing_with_id-get : (placing_with_id id).get d ≡ option_and_then (λ o. Some (object_placing o)) (object_at d.map place)
  placing_with_id-get = found-get (λ e. object_place e.map id) (λ k. of_object k placing) place d stands ∙ of_object-get place placing d

  pub placing-given : (p : Placing) → option_and_then (λ o. Some (object_placing o)) (object_at d.map place) ≡ Some p → (placing_with_id id).get d ≡ Some p
  placing-given p e = placing_with_id-get ∙ e

  pub object_at-given : IsSome ((placing_with_id id).get d) → IsSome (object_at d.map place)
  object_at-given h = by_object (object_at d.map place) (rw placing_with_id-get at h)
    where
      by_object : (o : Option Object) → IsSome (option_and_then (λ p. Some (object_placing p)) o) → IsSome o
      by_object None g = cc
      by_object (Some p) g = refl

  pub placing-put : (p : Placing) → with_map (with_object place (object_with_placing p)) d ≡ put (placing_with_id id) p d
  placing-put p = sym (found-update (λ e. object_place e.map id) (λ k. of_object k placing) place d stands (λ own. p))

-- a command that fits finds the object at its place
pub placed-there : (id : ℕ) (place : ObjectPlace) (made : Bool) (after held : Placing) (d : DocumentParts)
    → FitsShown (placing_with_id id) (AllowsPlacing id place) made after held d → IsSome (object_at d.map place)
placed-there id place false after held d h = object_at-given id place d h.allowed.stands h.given.0
placed-there id place true after held d h = object_at-given id place d h.allowed.stands (rw h.given refl)

-- the object stands where it stood, whatever its placing
pub AllowsPlacing-put : (id : ℕ) (place : ObjectPlace) (d : DocumentParts) (p new : Placing) → object_place d.map id ≡ Some place → IsPlacing new
    → AllowsPlacing id place (put (placing_with_id id) p d) new
AllowsPlacing-put id place d p new stands is = record { stands = placing_with_id-keeps id (λ own. p) d ∙ stands; placing = is }

pub AllowsPlacing-back : (id : ℕ) (place : ObjectPlace) (d : DocumentParts) (p held : Placing) → AllowsPlacing id place (put (placing_with_id id) p d) held
    → AllowsPlacing id place d held
AllowsPlacing-back id place d p held h = record { stands = sym (placing_with_id-keeps id (λ own. p) d) ∙ h.stands; placing = h.placing }

abbrev pub new_place_object : PlacingKind → ℕ → Bool → ObjectPlace → Placing → Bool → PlaceObject
new_place_object kind id follows place p same = record {
  place = place;
  placing = p;
  after = p;
  object = id;
  kind = kind;
  follows = follows;
  is_made = false;
  is_same = same;
}

pub place_object_made : {E : Type 0} {after : Result DocumentParts E} (d : DocumentParts) (kind : PlacingKind) (id : ℕ) (follows : Bool) (place : ObjectPlace)
    (o : Object) (f : Placing → Placing) (same : Bool)
    → (place_object_names kind id follows).vanishing ≡ WhenEqual → object_place d.map id ≡ Some place → object_at d.map place ≡ Some o → IsWellFormed d.map
    → ((p : Placing) → IsPlacing p → IsPlacing (f p)) → same ≡ placing_test o.placing (f o.placing)
    → after ≡ Ok (with_map (with_object place (λ p. object_with_placing (f p.placing) p)) d)
    → Makes (place_object_names kind id follows) d after (place_object_change (new_place_object kind id follows place (f o.placing) same))
place_object_made d kind id follows place o f same vanishes stands e h keeps test leads =
    let given = placing-given id place d stands o.placing (rw e refl) in
    let decides = Decides-placing_test o.placing (f o.placing) in
    let is = keeps o.placing (object_at-IsObject d.map place o e h).placing in
    let at_place = found-update (λ e. object_place e.map id) (λ k. of_object k placing) place d stands (λ p. f p) in
    let put_in : with_map (with_object place (λ p. object_with_placing (f p.placing) p)) d ≡ put (placing_with_id id) (f o.placing) d =
    sym at_place ∙ update-put (placing_with_id-laws id) f o.placing d given in
    shown_made (AllowsPlacing id place) (placing_with_id-laws id) vanishes o.placing given (λ t. decides.0 (sym test ∙ t)) (λ q. test ∙ decides.1 q)
    (record { stands = stands; placing = is }) h
    (subst (λ (e : DocumentParts). IsWellFormed e.map) (placing-put id place d stands (f o.placing))
    (with_object-keeps place (object_with_placing (f o.placing)) d.map (object_with_placing-keeps (f o.placing) is) h))
    (leads ∙ ap Ok put_in)

-- ---- a move that takes a newer one in
pub place_object-WhenEqual : (kind : PlacingKind) (id : ℕ) (follows : Bool) → (place_object_names kind id follows).vanishing ≡ WhenEqual
place_object-WhenEqual Move id follows = refl
place_object-WhenEqual Resize id follows = refl

-- one that has the tag of moves of an object moves that object
pub tag-object : (kind : PlacingKind) (own : ℕ) (follows : Bool) (id : ℕ)
    → (place_object_names kind own follows).tag ≡ Some (record { kind = MOVE_ID; subject = OfObject id }) → own ≡ id
tag-object Move own follows id e = OfObject-same MOVE_ID own id e
tag-object Resize own follows id e = cc
