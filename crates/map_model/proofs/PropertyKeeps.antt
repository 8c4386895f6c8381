-- Changes of properties that keep a map well formed.
use Rattle.std.proofs.Common.{◌≡◌, ◌≢◌, IsUtf8, ℕ, zero, suc, ◌+◌, ◌<◌, ◌≤◌, List, [], ◌∷◌, length, Bool, true, false, true≢false, cond, Option, Some, None}
use Rattle.std.proofs.Common.{IsSome, IsSomeAnd, option_map, option_and_then, refl, sym, ap, ◌∙◌, subst, arith}
use Rattle.std.specs.Bool.{Decides}
use Rattle.std.specs.List.{slice_get, insert, remove, flat_map, position, position_from}
use Rattle.std.specs.Str.{bytes_eq}
use Rattle.std.proofs.lemmas.Iterator.Adapters.{position_from-zero}
use Rattle.std.proofs.lemmas.Slice.Eq.{bytes_eq-Decides}
use Rattle.std.specs.FinSet as set
use Rattle.region.specs.Cells.{cell_cmp}
use Rattle.serde_json.specs.Data.{no_members}
use Rattle.map_model.specs.declared.limits.TheConstants.{MAX_PROPERTIES}
use Rattle.map_model.specs.declared.parts.Layer.{Layer}
use Rattle.map_model.specs.declared.parts.MapParts.{MapParts}
use Rattle.map_model.specs.declared.parts.Object.{Object}
use Rattle.map_model.specs.declared.parts.Property.{Property}
use Rattle.map_model.specs.declared.place.ObjectPlace.{ObjectPlace}
use Rattle.map_model.specs.declared.place.OwnerPlace.{OwnerPlace}
use Rattle.map_model.specs.declared.place.OwnerPlace.TheVariants as places
use Rattle.map_model.specs.declared.setting.Setting.{Setting}
use Rattle.map_model.specs.Document.{IsSelectionOf}
use Rattle.map_model.specs.Keeping.{map_tier, object_tier, property_tier}
use Rattle.map_model.specs.Format.{property_names}
use Rattle.map_model.specs.Lists.{Each, Distinct, change_at, or_empty}
use Rattle.map_model.specs.Objects.{layer_with_objects, object_at}
use Rattle.map_model.specs.Lookups.{layer_of}
use Rattle.map_model.specs.Properties.{has_name, layer_properties, layer_with_properties, tier_of, new_property, object_properties, object_with_properties}
use Rattle.map_model.specs.Properties.{owner_tier, properties_of, property_at, property_with_setting, setting_of, with_properties, with_property}
use Rattle.map_model.specs.Properties.{with_property_at, without_property_at, IsSetting}
use Rattle.map_model.specs.WellFormed.{AreProperties, IsProperty, IsValue, IsWellFormed, names_of_property}
use Rattle.map_model.proofs.Changes.{length-insert, length-remove_le, Each-at, Each-insert, Each-remove}
use Rattle.map_model.proofs.Keeps.{changed-keeps, layer_of-IsLayer, object_ids-IsReplaced}
use Rattle.map_model.proofs.Lookups.{tier_of-low, tier_of-with_layer}
use Rattle.map_model.proofs.NewMaps.{unread-test}
use Rattle.map_model.proofs.ObjectKeeps.{length-change_at, Each-change_at, group_in-objects, object_at-IsObject, with_object-keeps_there}

-- ---- the properties of an owner of a well-formed map
mapped : {X Y : Type 0} (f : X → Y) (o : Option X) (y : Y) → option_map f o ≡ Some y → (x : X) × ((o ≡ Some x) × (f x ≡ y))
mapped f None y e = cc
mapped f (Some x) y e = (x, (refl, cc))

placed : {X Y : Type 0} (f : X → Option Y) (o : Option X) (y : Y) → option_and_then f o ≡ Some y → (x : X) × ((o ≡ Some x) × (f x ≡ Some y))
placed f None y e = cc
placed f (Some x) y e = (x, (refl, e))

pub AreProperties-of : (owner : OwnerPlace) (ps : List Property) (m : MapParts) → properties_of m owner ≡ Some ps → IsWellFormed m
    → AreProperties (owner_tier m owner) ps
AreProperties-of places.Map ps m e h = let is : m.properties ≡ ps = cc in subst (AreProperties map_tier) is h.properties
AreProperties-of (places.Layer id) ps m e h =
    let found = mapped layer_properties (layer_of m id) ps e in
    subst (AreProperties (tier_of m id)) found.1.1 (layer_of-IsLayer m id found.0 found.1.0 h).properties
AreProperties-of (places.Object place) ps m e h =
    let found = mapped object_properties (object_at m place) ps e in
    subst (AreProperties (object_tier (tier_of m place.layer))) found.1.1 (object_at-IsObject m place found.0 found.1.0 h).properties

-- the map with others in their place
pub with_properties-keeps : (owner : OwnerPlace) (f : List Property → List Property) (ps : List Property) (m : MapParts) → properties_of m owner ≡ Some ps
    → AreProperties (owner_tier m owner) (f ps)
    → IsWellFormed m → IsWellFormed (with_properties owner f m)
with_properties-keeps places.Map f ps m e are h =
    let is : ps ≡ m.properties = cc in
    record {
      size = h.size;
      tile_size = h.tile_size;
      layers = h.layers;
      tilesets = h.tilesets;
      properties = subst (λ qs. AreProperties map_tier (f qs)) is are;
      kept = h.kept;
    }
with_properties-keeps (places.Layer id) f ps m e are h =
    let found = mapped layer_properties (layer_of m id) ps e in
    let l = found.0 in
    let old = layer_of-IsLayer m id l found.1.0 h in
    let r = object_ids-IsReplaced id (layer_with_properties f) l m found.1.0 refl in
    changed-keeps id (layer_with_properties f) l m found.1.0 refl refl
    (record { name = old.name; properties = rw found.1.1 are; kept = old.kept; body = old.body })
    (rw (r.1.1.now ∙ sym r.1.1.was) h.layers.object_ids) h
with_properties-keeps (places.Object place) f ps m e are h =
    let found = mapped object_properties (object_at m place) ps e in
    let old = object_at-IsObject m place found.0 found.1.0 h in
    with_object-keeps_there place (object_with_properties f) found.0 m found.1.0 (λ p. refl)
    (record { placing = old.placing; name = old.name; gid = old.gid; properties = rw found.1.1 are; kept = old.kept }) h

-- ---- names
abbrev names : List Property → List (List ℕ)
names ps = flat_map names_of_property ps

Distinct-insert : {X : Type 0} (xs : List X) (k : ℕ) (y : X) → Each (λ x. y ≢ x) xs → Distinct xs → Distinct (insert xs k y)
Distinct-insert [] zero y a h = (tt, tt)
Distinct-insert [] (suc k) y a h = (tt, tt)
Distinct-insert (x ∷ xs) zero y a h = (a, h)
Distinct-insert (x ∷ xs) (suc k) y a h = (Each-insert (λ z. x ≢ z) xs k y (λ e. a.0 (sym e)) h.0, Distinct-insert xs k y a.1 h.1)

Distinct-remove : {X : Type 0} (xs : List X) (k : ℕ) → Distinct xs → Distinct (remove xs k)
Distinct-remove [] zero h = tt
Distinct-remove [] (suc k) h = tt
Distinct-remove (x ∷ xs) zero h = h.1
Distinct-remove (x ∷ xs) (suc k) h = (Each-remove (λ z. x ≢ z) xs k h.0, Distinct-remove xs k h.1)

names-insert : (ps : List Property) (k : ℕ) (p : Property) → names (insert ps k p) ≡ insert (names ps) k p.name
names-insert [] zero p = refl
names-insert [] (suc k) p = refl
names-insert (q ∷ qs) zero p = refl
names-insert (q ∷ qs) (suc k) p = ap (λ ns. q.name ∷ ns) (names-insert qs k p)

names-remove : (ps : List Property) (k : ℕ) → names (remove ps k) ≡ remove (names ps) k
names-remove [] zero = refl
names-remove [] (suc k) = refl
names-remove (q ∷ qs) zero = refl
names-remove (q ∷ qs) (suc k) = ap (λ ns. q.name ∷ ns) (names-remove qs k)

names-change_at : (k : ℕ) (s : Setting) (ps : List Property) → names (change_at k (property_with_setting s) ps) ≡ names ps
names-change_at zero s [] = refl
names-change_at (suc k) s [] = refl
names-change_at zero s (p ∷ ps) = refl
names-change_at (suc k) s (p ∷ ps) = ap (λ ns. p.name ∷ ns) (names-change_at k s ps)

-- where no property has the name, it is another than theirs
other_names_from : (name : List ℕ) (ps : List Property) (i : ℕ) → position_from (has_name name) i ps ≡ None → Each (λ n. name ≢ n) (names ps)
other_names_from name [] i e = tt
other_names_from name (p ∷ ps) i e = by_test (bytes_eq p.name name) (bytes_eq-Decides p.name name) e (other_names_from name ps (i + 1))
  where
    by_test : (b : Bool) → Decides b (p.name ≡ name) → cond b (Some i) (position_from (has_name name) (i + 1) ps) ≡ None
        → (position_from (has_name name) (i + 1) ps ≡ None → Each (λ n. name ≢ n) (names ps)) → (name ≢ p.name) × Each (λ n. name ≢ n) (names ps)
    by_test true d q rest = cc
    by_test false d q rest = (λ s. true≢false (sym (d.1 (sym s))), rest q)

pub other_names : (name : List ℕ) (ps : List Property) → position (has_name name) ps ≡ None → Each (λ n. name ≢ n) (names ps)
other_names name ps e = other_names_from name ps 0 (sym (position_from-zero (has_name name) ps) ∙ e)

-- ---- properties put in, taken out and changed
pub AreProperties-insert : (tier : ℕ) (ps : List Property) (k : ℕ) (p : Property) → length ps < MAX_PROPERTIES → IsProperty (property_tier tier) p
    → position (has_name p.name) ps ≡ None
    → AreProperties tier ps → AreProperties tier (insert ps k p)
AreProperties-insert tier ps k p few is new h = record {
  few = rw length-insert few;
  each = Each-insert (IsProperty (property_tier tier)) ps k p is h.each;
  distinct = rw (names-insert ps k p) (Distinct-insert (names ps) k p.name (other_names p.name ps new) h.distinct);
}

pub AreProperties-remove : (tier : ℕ) (ps : List Property) (k : ℕ) → AreProperties tier ps → AreProperties tier (remove ps k)
AreProperties-remove tier ps k h = record {
  few = let less = length-remove_le ps k in omega (arith, h.few);
  each = Each-remove (IsProperty (property_tier tier)) ps k h.each;
  distinct = rw (names-remove ps k) (Distinct-remove (names ps) k h.distinct);
}

pub AreProperties-change_at : (tier : ℕ) (ps : List Property) (k : ℕ) (s : Setting) → IsUtf8 s.kind → IsValue (property_tier tier) s.value
    → AreProperties tier ps → AreProperties tier (change_at k (property_with_setting s) ps)
AreProperties-change_at tier ps k s kind value h = record {
  few = rw (length-change_at k (property_with_setting s) ps) h.few;
  each = Each-change_at (IsProperty (property_tier tier)) k (property_with_setting s) ps
      (λ p e q. record { name = q.name; kind = kind; value = value; kept = q.kept }) h.each;
  distinct = rw (names-change_at k s ps) h.distinct;
}

-- a new property is one of its owner
pub new_property-IsProperty : (m : MapParts) (owner : OwnerPlace) (name : List ℕ) (s : Setting) → IsUtf8 name → IsSetting m owner s
    → IsProperty (property_tier (owner_tier m owner)) (new_property name s)
new_property-IsProperty m owner name s utf8 is = record {
  name = utf8;
  kind = is.kind;
  value = is.value;
  kept = record { unread = unread-test no_members property_names refl; whole = refl; shallow = by_owner owner; readable = tt };
}
  where
    by_owner : (o : OwnerPlace) → property_tier (owner_tier m o) + 0 ≤ 127
    by_owner places.Map = omega arith
    by_owner (places.Layer id) = omega (arith, tier_of-low m id)
    by_owner (places.Object place) = omega (arith, tier_of-low m place.layer)

-- ---- maps with other properties
some_properties : (o : Option (List Property)) (at : ℕ) → IsSome (option_and_then (λ ps. slice_get ps at) o) → (ps : List Property) × (o ≡ Some ps)
some_properties None at h = cc
some_properties (Some ps) at h = (ps, refl)

pub without_property_at-keeps : (owner : OwnerPlace) (at : ℕ) (m : MapParts) → IsSome (property_at m owner at) → IsWellFormed m
    → IsWellFormed (without_property_at owner at m)
without_property_at-keeps owner at m there h =
    let found = some_properties (properties_of m owner) at there in
    with_properties-keeps owner (λ ps. remove ps at) found.0 m found.1
    (AreProperties-remove (owner_tier m owner) found.0 at (AreProperties-of owner found.0 m found.1 h)) h

pub with_setting-keeps : (owner : OwnerPlace) (at : ℕ) (s : Setting) (m : MapParts) → IsSome (property_at m owner at) → IsSetting m owner s → IsWellFormed m
    → IsWellFormed (with_property owner at (property_with_setting s) m)
with_setting-keeps owner at s m there is h =
    let found = some_properties (properties_of m owner) at there in
    with_properties-keeps owner (change_at at (property_with_setting s)) found.0 m found.1
    (AreProperties-change_at (owner_tier m owner) found.0 at s is.kind is.value (AreProperties-of owner found.0 m found.1 h)) h

-- a property that is there has a setting of its owner's
pub property_at-IsSetting : (owner : OwnerPlace) (at : ℕ) (s : Setting) (m : MapParts) → option_map setting_of (property_at m owner at) ≡ Some s
    → IsWellFormed m → IsSetting m owner s
property_at-IsSetting owner at s m e h =
    let p = mapped setting_of (property_at m owner at) s e in
    let ps = placed (λ qs. slice_get qs at) (properties_of m owner) p.0 p.1.0 in
    let is = Each-at (IsProperty (property_tier (owner_tier m owner))) ps.0 at p.0 ps.1.1 (AreProperties-of owner ps.0 m ps.1.0 h).each in
    subst (IsSetting m owner) p.1.1 (record { kind = is.kind; value = is.value })

-- a property with a new name, put in
pub with_property_at-keeps : (owner : OwnerPlace) (at : ℕ) (p : Property) (ps : List Property) (m : MapParts) → properties_of m owner ≡ Some ps
    → length ps < MAX_PROPERTIES
    → IsProperty (property_tier (owner_tier m owner)) p → position (has_name p.name) ps ≡ None → IsWellFormed m → IsWellFormed (with_property_at owner at p m)
with_property_at-keeps owner at p ps m e few is new h =
    with_properties-keeps owner (λ qs. insert qs at p) ps m e
    (AreProperties-insert (owner_tier m owner) ps at p few is new (AreProperties-of owner ps m e h)) h

-- the selection lies in the map with other properties too
pub with_properties-IsSelectionOf : (owner : OwnerPlace) (f : List Property → List Property) (m : MapParts) (selection : set.FinSet cell_cmp)
    → IsSelectionOf m selection
    → IsSelectionOf (with_properties owner f m) selection
with_properties-IsSelectionOf places.Map f m selection h = h
with_properties-IsSelectionOf (places.Layer id) f m selection h = h
with_properties-IsSelectionOf (places.Object place) f m selection h = h

-- ---- tiers
placed_tier : (own : ObjectPlace) (f : List Property → List Property) (m : MapParts) (id : ℕ)
    → tier_of (with_properties (places.Object own) f m) id ≡ tier_of m id
placed_tier own f m id =
    tier_of-with_layer own.layer (layer_with_objects (change_at own.at (object_with_properties f)))
    (λ l. ap or_empty (group_in-objects (change_at own.at (object_with_properties f)) l.body)) (λ l. refl) m id

-- the tiers of owners stay where properties change
pub owner_tier-with_properties : (own : OwnerPlace) (f : List Property → List Property) (m : MapParts) (owner : OwnerPlace)
    → owner_tier (with_properties own f m) owner ≡ owner_tier m owner
owner_tier-with_properties own f m places.Map = refl
owner_tier-with_properties places.Map f m (places.Layer id) = refl
owner_tier-with_properties (places.Layer own) f m (places.Layer id) = tier_of-with_layer own (layer_with_properties f) (λ l. refl) (λ l. refl) m id
owner_tier-with_properties (places.Object place) f m (places.Layer id) = placed_tier place f m id
owner_tier-with_properties places.Map f m (places.Object place) = refl
owner_tier-with_properties (places.Layer own) f m (places.Object place) =
    ap object_tier (tier_of-with_layer own (layer_with_properties f) (λ l. refl) (λ l. refl) m place.layer)
owner_tier-with_properties (places.Object own) f m (places.Object place) = ap object_tier (placed_tier own f m place.layer)

-- ---- where a property may be put in
module _ (at : ℕ) (m : MapParts) where
  pub room_in_layer : (id : ℕ) → (l : Layer) → layer_of m id ≡ Some l → IsSomeAnd (properties_of m (places.Layer id)) (λ ps. at ≤ length ps) → IsWellFormed m
      → (at ≤ length l.properties) × (length l.properties ≤ MAX_PROPERTIES)
  room_in_layer id l e place h = (rw e at place, (layer_of-IsLayer m id l e h).properties.few)

  pub room_in_object : (place : ObjectPlace) (o : Object) → object_at m place ≡ Some o
      → IsSomeAnd (properties_of m (places.Object place)) (λ ps. at ≤ length ps) → IsWellFormed m
      → (at ≤ length o.properties) × (length o.properties ≤ MAX_PROPERTIES)
  room_in_object place o e room h = (rw e at room, (object_at-IsObject m place o e h).properties.few)
