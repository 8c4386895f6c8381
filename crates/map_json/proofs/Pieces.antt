-- The trees of single things of a well-formed map have whole numbers alone.
use Rattle.std.proofs.Common.{◌≡◌, ℕ, suc, ◌-◌, ◌<◌, ◌≤◌, ◌++◌, List, [], ◌∷◌, length, Option, Some, None, false, option_and_then, refl, arith}
use Rattle.std.specs.List.{position, slice_get}
use Rattle.std.proofs.lemmas.List.Quantifiers.{position-Some}
use Rattle.serde_json.specs.Written.{has_float}
use Rattle.map_model.specs.declared.parts.Layer.{Layer}
use Rattle.map_model.specs.declared.parts.MapParts.{MapParts}
use Rattle.map_model.specs.declared.parts.Object.{Object}
use Rattle.map_model.specs.declared.parts.Property.{Property}
use Rattle.map_model.specs.declared.parts.Tileset.{Tileset}
use Rattle.map_model.specs.declared.place.ObjectPlace.{ObjectPlace}
use Rattle.map_model.specs.declared.place.OwnerPlace.{OwnerPlace}
use Rattle.map_model.specs.declared.place.OwnerPlace.TheVariants as places
use Rattle.map_model.specs.Format.{layer_names, map_names}
use Rattle.map_model.specs.Keeping.{map_tier, object_tier, property_tier}
use Rattle.map_model.specs.Lookups.{layer_of}
use Rattle.map_model.specs.Objects.{object_at}
use Rattle.map_model.specs.Properties.{owner_tier, properties_of, property_at, tier_of}
use Rattle.map_model.specs.Tilesets.{has_first_id, tileset_at}
use Rattle.map_model.specs.WellFormed.{IsProperty, IsTileset, IsWellFormed}
use Rattle.map_model.proofs.Changes.{Each-at}
use Rattle.map_model.proofs.Keeps.{layer_of-IsLayer}
use Rattle.map_model.proofs.Lookups.{tier_of-low}
use Rattle.map_model.proofs.ObjectKeeps.{object_at-IsObject}
use Rattle.map_model.proofs.PropertyKeeps.{AreProperties-of}
use Rattle.map_json.specs.PartTexts.{layer_head, map_head}
use Rattle.map_json.specs.Trees.{common_own, object_tree, plain_own, property_tree, said_own, tileset_tree, type_word}
use Rattle.map_values.specs.Arrays.{array_by}
use Rattle.map_json.proofs.Plain.{array_plain, before_plain, kept_plain, object_plain, object_tree_plain, properties_plain, property_plain, said_plain}
use Rattle.map_json.proofs.Plain.{text_plain, tileset_plain, truth_plain, whole_plain}

-- the object at a place
pub object_at-whole : (m : MapParts) (place : ObjectPlace) (o : Object) → object_at m place ≡ Some o → IsWellFormed m → has_float (object_tree o) ≡ false
object_at-whole m place o e h =
    let tier = tier_of m place.layer in
    let low = tier_of-low m place.layer in
    let plain = object_tree_plain (object_tier tier) (123 - tier) (omega (arith, low)) o (object_at-IsObject m place o e h) in
    plain.0

-- the head of a layer
pub layer_head-whole : (m : MapParts) (id : ℕ) (l : Layer) → layer_of m id ≡ Some l → IsWellFormed m → has_float (layer_head l) ≡ false
layer_head-whole m id l e h =
    let tier = tier_of m id in
    let low = tier_of-low m id in
    let k = 125 - tier in
    let n = suc (suc k) in
    let own = layer_of-IsLayer m id l e h in
    let properties = properties_plain tier k (omega (arith, low)) l.properties own.properties in
    let head = object_plain n (common_own l) l.kept
    (text_plain n (type_word l.body), (whole_plain n l.id, (text_plain n l.name, (truth_plain n l.visible, (properties, tt)))))
    (kept_plain tier n (layer_names l.body) l.kept (omega (arith, low)) own.kept) in
    head.0

-- ---- properties
owner_tier-low : (m : MapParts) (owner : OwnerPlace) → owner_tier m owner ≤ 125
owner_tier-low m places.Map = omega arith
owner_tier-low m (places.Layer id) = let low = tier_of-low m id in omega (arith, low)
owner_tier-low m (places.Object place) = let low = tier_of-low m place.layer in omega (arith, low)

-- those of an owner
pub properties_of-whole : (m : MapParts) (owner : OwnerPlace) (ps : List Property) → properties_of m owner ≡ Some ps → IsWellFormed m
    → has_float (array_by property_tree ps) ≡ false
properties_of-whole m owner ps e h =
    let tier = owner_tier m owner in
    let low = owner_tier-low m owner in
    let k = 125 - tier in
    let all = array_plain (IsProperty (property_tier tier)) (suc k) property_tree (property_plain (property_tier tier) k (omega (arith, low))) ps
    (AreProperties-of owner ps m e h).each in
    all.0

listed : (at : ℕ) (o : Option (List Property)) (p : Property) → option_and_then (λ ps. slice_get ps at) o ≡ Some p
    → (ps : List Property) × ((o ≡ Some ps) × (slice_get ps at ≡ Some p))
listed at None p e = cc
listed at (Some ps) p e = (ps, (refl, e))

-- the one at a place
pub property_at-whole : (m : MapParts) (owner : OwnerPlace) (at : ℕ) (p : Property) → property_at m owner at ≡ Some p → IsWellFormed m
    → has_float (property_tree p) ≡ false
property_at-whole m owner at p e h =
    let tier = owner_tier m owner in
    let low = owner_tier-low m owner in
    let found = listed at (properties_of m owner) p e in
    let is = Each-at (IsProperty (property_tier tier)) found.0 at p found.1.1 (AreProperties-of owner found.0 m found.1.0 h).each in
    let plain = property_plain (property_tier tier) (125 - tier) (omega (arith, low)) p is in
    plain.0

-- ---- tilesets
-- the place of one is below how many there are
pub tileset_place-within : (first_id : ℕ) (ts : List Tileset) (at : ℕ) → position (has_first_id first_id) ts ≡ Some at → at < length ts
tileset_place-within first_id [] at e = cc
tileset_place-within first_id (t ∷ ts) at e = (position-Some (has_first_id first_id) (t ∷ ts) at t e).0

-- the one at a place
pub tileset_at-whole : (m : MapParts) (at : ℕ) (t : Tileset) → tileset_at m at ≡ Some t → IsWellFormed m → has_float (tileset_tree t) ≡ false
tileset_at-whole m at t e h = let plain = tileset_plain t (Each-at IsTileset m.tilesets at t e h.tilesets.each) in plain.0

-- ---- the head of a map
pub map_head-whole : (m : MapParts) → IsWellFormed m → has_float (map_head m) ≡ false
map_head-whole m h =
    let head = object_plain 126 (plain_own m ++ said_own m) m.kept (before_plain m (said_own m) (said_plain m h))
    (kept_plain map_tier 126 map_names m.kept refl h.kept) in
    head.0
