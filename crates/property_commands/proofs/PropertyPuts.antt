-- A property that is set whole, as it is made and turned.
use Rattle.std.proofs.Common.{◌≡◌, ℕ, zero, suc, ◌<◌, ◌≤◌, List, [], ◌∷◌, length, Bool, true, false, not, Option, Some, None, IsSome, IsSomeAnd}
use Rattle.std.proofs.Common.{option_and_then, Ok, refl, sym, ap, ◌∙◌, subst, arith}
use Rattle.std.specs.Prelude.{◌↔◌, IsTrue, get_or}
use Rattle.std.specs.List.{flat_map, insert, position, remove, slice_get}
use Rattle.std.proofs.lemmas.Bool.{lt-ltb}
use Rattle.std.proofs.lemmas.List.Quantifiers.{position-Some}
use Rattle.std.proofs.lemmas.Slice.Eq.{bytes_eq-Decides}
use Rattle.map_model.specs.declared.limits.TheConstants.{MAX_PROPERTIES}
use Rattle.map_model.specs.declared.owner.Owner.{Owner}
use Rattle.map_model.specs.declared.parts.MapParts.{MapParts}
use Rattle.map_model.specs.declared.parts.Property.{Property}
use Rattle.map_model.specs.declared.place.OwnerPlace.{OwnerPlace}
use Rattle.map_model.specs.declared.place.OwnerPlace.TheVariants as places
use Rattle.map_model.specs.Document.{DocumentParts, with_map}
use Rattle.map_model.specs.Keeping.{deepest_tier, object_tier, property_tier}
use Rattle.map_model.specs.Lens.{IsLawfulLens, put}
use Rattle.map_model.specs.Lists.{change_at}
use Rattle.map_model.specs.Properties.{has_name, owner_tier, properties_of, property_at, property_place, with_property, with_property_at, without_property_at}
use Rattle.map_model.specs.PropertyLenses.{properties}
use Rattle.map_model.specs.WellFormed.{AreProperties, IsProperty, IsWellFormed, names_of_property}
use Rattle.map_model.proofs.LensLaws.{inner-laws, of_place-laws, some-eq, whole-laws}
use Rattle.map_model.proofs.Lookups.{tier_of-low}
use Rattle.map_model.proofs.ObjectKeeps.{Each-change_at, length-change_at}
use Rattle.map_model.proofs.PropertyKeeps.{AreProperties-of, with_properties-keeps, with_property_at-keeps}
use Rattle.map_model.proofs.PropertyLaws.{properties-laws, property_slot-laws, update-along}
use Rattle.command_api.specs.Exchange.{IsExchanged}
use Rattle.command_api.specs.Making.{Makes}
use Rattle.command_api.specs.Swap.{FitsBack, FitsHeld, swap_held}
use Rattle.command_api.proofs.Links.{slot_in-differs}
use Rattle.command_api.proofs.Swaps.{held_made, held_swapped}
use Rattle.edits.specs.PropertyEdits.{owner_or_fault}
use Rattle.property_commands.specs.declared.put.PutKind.TheVariants.{Replace, Add}
use Rattle.property_commands.specs.PropertyChanges.{held_property, property_in, put_property_change}
use Rattle.property_commands.specs.PutEdits.{after_put_property}
use Rattle.property_commands.specs.Names.{put_property_names}

-- ---- the property at a place
pub property_in-laws : (owner : OwnerPlace) (at : ℕ) → IsLawfulLens (property_in owner at)
property_in-laws owner at =
    inner-laws (properties owner) _ (properties-laws owner) (of_place-laws at _ (whole-laws (λ p. p) (λ p own. p) (λ v p. refl) (λ p. refl) (λ v w p. refl)))

pub property_in-get : (owner : OwnerPlace) (at : ℕ) (d : DocumentParts) → (property_in owner at).get d ≡ property_at d.map owner at
property_in-get owner at d = by_list (properties_of d.map owner)
  where
    some-same : (o : Option Property) → option_and_then (λ p. Some p) o ≡ o
    some-same None = refl
    some-same (Some p) = refl

    by_list : (o : Option (List Property)) → option_and_then (λ ps. option_and_then (λ p. Some p) (slice_get ps at)) o
        ≡ option_and_then (λ ps. slice_get ps at) o
    by_list None = refl
    by_list (Some ps) = some-same (slice_get ps at)

insert-removed : (k : ℕ) (p own : Property) (ps : List Property) → slice_get ps k ≡ Some own → insert (remove ps k) k p ≡ change_at k (λ q. p) ps
insert-removed zero p own [] e = cc
insert-removed (suc k) p own [] e = cc
insert-removed zero p own (q ∷ qs) e = refl
insert-removed (suc k) p own (q ∷ qs) e = ap (λ rs. q ∷ rs) (insert-removed k p own qs e)

some_there : (o : Option Property) → IsSome o → (p : Property) × (o ≡ Some p)
some_there None h = cc
some_there (Some p) h = (p, refl)

-- a property that is taken out there leaves room for another, which then stands in its place
module _ (owner : OwnerPlace) (at : ℕ) (p : Property) (d : DocumentParts) (fits : FitsBack (property_in owner at) p d) where
  pub replaced-there : IsSome (property_at d.map owner at)
  replaced-there = subst (λ (o : Option Property). IsSome o) (property_in-get owner at d) fits.there

  pub replaced-room : IsSomeAnd (properties_of (with_map (without_property_at owner at) d).map owner) (λ ps. at ≤ length ps)
  replaced-room =
      let own = some_there (property_at d.map owner at) replaced-there in
      (property_slot-laws owner at).vacated own.0 d replaced-there own.1

  pub replaced-is : with_map (with_property_at owner at p) (with_map (without_property_at owner at) d) ≡ put (property_in owner at) p d
  replaced-is =
      let own = some_there (property_at d.map owner at) replaced-there in
      by_list (properties_of d.map owner) refl own.1
    where
      by_list : (o : Option (List Property)) → properties_of d.map owner ≡ o → {own : Property} → option_and_then (λ ps. slice_get ps at) o ≡ Some own
          → with_map (with_property_at owner at p) (with_map (without_property_at owner at) d) ≡ put (property_in owner at) p d
      by_list None are e = cc
      by_list (Some ps) are {own} e =
          (properties-laws owner).update-update (λ qs. insert qs at p) (λ qs. remove qs at) d
          ∙ update-along (properties-laws owner) (λ qs. insert (remove qs at) at p) (change_at at (λ q. p)) ps d are (insert-removed at p own ps e)

  pub replaced-well_formed : IsWellFormed (with_map (with_property_at owner at p) (with_map (without_property_at owner at) d)).map
  replaced-well_formed = subst (λ (e : DocumentParts). IsWellFormed e.map) (sym replaced-is) fits.back

-- ---- a property in the place of one with its name
abbrev names : List Property → List (List ℕ)
names ps = flat_map names_of_property ps

names-instead : (k : ℕ) (p own : Property) (ps : List Property) → slice_get ps k ≡ Some own → own.name ≡ p.name
    → names (change_at k (λ own. p) ps) ≡ names ps
names-instead zero p own [] e same = refl
names-instead (suc k) p own [] e same = refl
names-instead zero p own (q ∷ qs) e same =
    let is : q ≡ own = some-eq q own e in
    ap (λ n. n ∷ names qs) (sym (ap (λ (r : Property). r.name) is ∙ same))
names-instead (suc k) p own (q ∷ qs) e same = ap (λ ns. q.name ∷ ns) (names-instead k p own qs e same)

-- the property that is found by a name has it
named-at : (name : List ℕ) (at : ℕ) (own : Property) (ps : List Property) → position (has_name name) ps ≡ Some at → slice_get ps at ≡ Some own → own.name ≡ name
named-at name at own ps e there =
    let found = position-Some (has_name name) ps at own e in
    (bytes_eq-Decides own.name name).0 (subst (λ q. has_name name q ≡ true) (get_or-there ps at there) found.1)
  where
    get_or-there : (qs : List Property) (k : ℕ) → slice_get qs k ≡ Some own → get_or qs k own ≡ own
    get_or-there [] zero q = cc
    get_or-there [] (suc k) q = cc
    get_or-there (r ∷ rs) zero q = some-eq r own q
    get_or-there (r ∷ rs) (suc k) q = get_or-there rs k q

-- a property that any owner can have is one of this owner
IsProperty-any : (p : Property) → ((tier : ℕ) → tier ≤ object_tier deepest_tier → IsProperty (property_tier tier) p) → (m : MapParts) (owner : OwnerPlace)
    → IsProperty (property_tier (owner_tier m owner)) p
IsProperty-any p is m places.Map = is (owner_tier m places.Map) (omega arith)
IsProperty-any p is m (places.Layer id) = is (owner_tier m (places.Layer id)) (omega (arith, tier_of-low m id))
IsProperty-any p is m (places.Object place) = is (owner_tier m (places.Object place)) (omega (arith, tier_of-low m place.layer))

instead-AreProperties : (tier at : ℕ) (p own : Property) (ps : List Property) → slice_get ps at ≡ Some own → own.name ≡ p.name
    → IsProperty (property_tier tier) p → AreProperties tier ps → AreProperties tier (change_at at (λ own. p) ps)
instead-AreProperties tier at p own ps there same is h = record {
  few = rw (length-change_at at (λ own. p) ps) h.few;
  each = Each-change_at (IsProperty (property_tier tier)) at (λ own. p) ps (λ q e r. is) h.each;
  distinct = rw (names-instead at p own ps there same) h.distinct;
}

module _ (d : DocumentParts) (owner : Owner) (p : Property) (place : OwnerPlace) (found : owner_or_fault d.map owner ≡ Ok place) (h : IsWellFormed d.map)
    (any : (tier : ℕ) → tier ≤ object_tier deepest_tier → IsProperty (property_tier tier) p) where
  -- the map is well formed with it
  instead-keeps : (at : ℕ) (own : Property) → property_place d.map place p.name ≡ Some at → property_at d.map place at ≡ Some own
      → IsWellFormed (with_property place at (λ own. p) d.map)
  instead-keeps at own stands there = by_list (properties_of d.map place) refl stands there
    where
      by_list : (o : Option (List Property)) → properties_of d.map place ≡ o → option_and_then (position (has_name p.name)) o ≡ Some at
          → option_and_then (λ ps. slice_get ps at) o ≡ Some own → IsWellFormed (with_property place at (λ own. p) d.map)
      by_list None are e q = cc
      by_list (Some ps) are e q =
          with_properties-keeps place (change_at at (λ own. p)) ps d.map are
          (instead-AreProperties (owner_tier d.map place) at p own ps q (named-at p.name at own ps e q) (IsProperty-any p any d.map place)
          (AreProperties-of place ps d.map are h)) h

  pub put-replaced : (at : ℕ) (own : Property) (same : Bool) (loose : Option Property) → loose ≡ Some p
      → property_place d.map place p.name ≡ Some at → property_at d.map place at ≡ Some own
      → IsTrue same ↔ own ≡ p
      → Makes put_property_names d (after_put_property d owner p)
      (put_property_change (record { owner = owner; place = place; at = at; kind = Replace (Some loose) false same }))
  put-replaced at own same loose is stands there told =
      let given = property_in-get place at d ∙ there in
      rw is (
      held_made (property_in-laws place at) refl own given told.0 told.1
      (record { well_formed = h; there = rw given refl; back = instead-keeps at own stands there }) (rw (found, stands) refl)
      )

  pub put-added : (ps : List Property) (at : ℕ) (loose : Option Property) → at ≡ length ps → property_place d.map place p.name ≡ None
      → properties_of d.map place ≡ Some ps → length ps < MAX_PROPERTIES → loose ≡ Some p
      → Makes put_property_names d (after_put_property d owner p)
      (put_property_change (record { owner = owner; place = place; at = at; kind = Add (Some loose) }))
  put-added ps at loose last none are few is =
      let behind : length ps ≤ length ps = omega arith in
      let free : IsSomeAnd (properties_of d.map place) (λ qs. length ps ≤ length qs) = rw are behind in
      let new = rw are at none in
      rw (last, is) (record {
        fits = (
          λ e. cc,
          record {
            fits = record {
              ready = free;
              before = h;
              after = with_property_at-keeps place (length ps) p ps d.map are few (IsProperty-any p any d.map place) new h;
            };
            settled = (λ e. cc, λ e. absurd (slot_in-differs (properties place) (properties-laws place) (length ps) p d free e));
          },
        );
        document = rw (found, none, are, lt-ltb (length ps) MAX_PROPERTIES few) refl;
        names = refl;
      })

-- ---- one turn: what is held and the owner's property change places
-- a link is held, and its property fits
pub held-fits : (owner : OwnerPlace) (at : ℕ) (property : Option (Option Property)) (loose : Option Property) (d : DocumentParts) → property ≡ Some loose
    → FitsHeld (property_in owner at) (held_property property) d → IsSomeAnd loose (λ p. FitsBack (property_in owner at) p d)
held-fits owner at property loose d has fits = by_loose loose (rw has at fits)
  where
    by_loose : (o : Option Property) → FitsHeld (property_in owner at) o d → IsSomeAnd o (λ p. FitsBack (property_in owner at) p d)
    by_loose None h = h
    by_loose (Some p) h = h

pub put-turned : (owner : OwnerPlace) (at : ℕ) (same made : Bool) (property : Option (Option Property)) (loose new : Option Property) (d e : DocumentParts)
    → property ≡ Some loose → FitsHeld (property_in owner at) (held_property property) d → (property_in owner at).get d ≡ new
    → IsSomeAnd loose (λ p. e ≡ put (property_in owner at) p d)
    → IsExchanged (swap_held put_property_names (property_in owner at) same made (held_property property))
    (swap_held put_property_names (property_in owner at) same (not made) (held_property (Some new))) d e
put-turned owner at same made property loose new d e has fits given is =
    rw has (by_links loose new (rw has at fits) given is)
  where
    by_links : (o n : Option Property) → FitsHeld (property_in owner at) o d → (property_in owner at).get d ≡ n
        → IsSomeAnd o (λ p. e ≡ put (property_in owner at) p d)
        → IsExchanged (swap_held put_property_names (property_in owner at) same made o) (swap_held put_property_names (property_in owner at) same (not made) n)
        d e
    by_links None n h g q = absurd h
    by_links (Some p) None h g q = absurd (let none = subst (λ (o : Option Property). IsSome o) g h.there in cc)
    by_links (Some p) (Some own) h g q = held_swapped made (property_in-laws owner at) h g q
