-- The place of the layer with an id.
use Rattle.std.proofs.Common.{◌≡◌, ◌≢◌, ℕ, zero, suc, ◌+◌, ◌<◌, List, [], ◌∷◌, ◌++◌, length, true, false, nat_eq, Option, Some, None, is_some, IsSome}
use Rattle.std.proofs.Common.{option_map, option_and_then, ◌⊎◌, inl, inr, refl, sym, ap, ◌∙◌, subst, arith}
use Rattle.std.specs.List.{flat_map, position_from, slice_get}
use Rattle.std.proofs.lemmas.Bool.Decides.{nat_tests}
use Rattle.std.proofs.lemmas.Grind.{flat_map-append}
use Rattle.std.proofs.lemmas.Iterator.Adapters.{position_from-zero}
use Rattle.std.specs.List.{position}
use Rattle.std.proofs.lemmas.List.Quantifiers.{position-Some}
use Rattle.map_model.specs.declared.limits.TheConstants.{MAX_GROUPS}
use Rattle.map_model.specs.declared.parts.Layer.{Layer}
use Rattle.map_model.specs.declared.parts.MapParts.{MapParts}
use Rattle.map_model.specs.declared.place.LayerPlace.{LayerPlace}
use Rattle.map_model.specs.Groups.{drawn, find_one, group_of, has_id, holds, inside, layer_among, tree}
use Rattle.map_model.specs.Keeping.{inner_tier, layer_tier}
use Rattle.map_model.specs.Layers.{layer_at, layer_place, place_among, place_under}
use Rattle.map_model.specs.Lists.{Each, Distinct, first_some, or_else, or_empty}
use Rattle.map_model.specs.NewMap.{empty_object_layer}
use Rattle.map_model.specs.WellFormed.{IsWellFormed, ids_of}
use Rattle.map_model.proofs.Changes.{slice_get-Some}
use Rattle.map_model.proofs.Listings.{Each-prefix, Each-rest, Distinct-prefix, Distinct-rest, Apart-pieces}
use Rattle.map_model.proofs.Trees.{Stands, find_one-is, stands_one, stands, tree-is}
use Rattle.map_model.proofs.Walks.{holds-own}

-- ---- ids in a tree
-- what each id of the list has, the id of the layer that stands in it has
stands-id : {id groups tier : ℕ} {l : Layer} {xs : List (ℕ × Layer)} {ys : (Layer → Layer) → List (ℕ × Layer)} (P : ℕ → Type 0) → Stands id groups tier l xs ys
    → Each P (flat_map ids_of xs) → P id
stands-id {id = id} {l = l} P s h =
    let is : l.id ≡ id = grind (arith, nat_tests, s.has) in
    let all : Each P (flat_map ids_of (s.prefix ++ (tree s.own_groups s.own_tier l ++ s.rest))) = rw (← s.was) h in
    let behind = Each-rest P (flat_map ids_of s.prefix) (flat_map ids_of (tree s.own_groups s.own_tier l ++ s.rest))
    (rw (flat_map-append ids_of s.prefix (tree s.own_groups s.own_tier l ++ s.rest)) at all) in
    let own : Each P (flat_map ids_of (tree s.own_groups s.own_tier l)) =
    Each-prefix P (flat_map ids_of (tree s.own_groups s.own_tier l)) (flat_map ids_of s.rest)
    (rw (flat_map-append ids_of (tree s.own_groups s.own_tier l) s.rest) at behind) in
    subst P is (rw (tree-is s.own_groups s.own_tier l) at own).0

-- where each id is another, no layer is found
found-none : (id groups tier : ℕ) (l : Layer) → Each (λ n. n ≢ id) (flat_map ids_of (tree groups tier l)) → find_one id groups l ≡ None
found-none id groups tier l h = by_found (find_one id groups l) refl
  where
    by_found : (o : Option Layer) → find_one id groups l ≡ o → o ≡ None
    by_found None e = refl
    by_found (Some k) e = absurd (stands-id (λ n. n ≢ id) (stands_one id groups tier k l e) h refl)

-- what each id has, that has which a layer of the list has or holds
pub Each-held : (P : ℕ → Type 0) (id groups tier : ℕ) (ls : List Layer) (k : ℕ) (l : Layer) → slice_get ls k ≡ Some l → holds id groups l ≡ true
    → Each P (flat_map ids_of (drawn groups tier ls)) → P id
Each-held P id groups tier [] zero l e held h = cc
Each-held P id groups tier [] (suc k) l e held h = cc
Each-held P id groups tier (x ∷ xs) zero l e held h = by_found (find_one id groups x) refl (ap (holds id groups) same ∙ held)
  where
    same : x ≡ l
    same = cc

    own : Each P (flat_map ids_of (tree groups tier x))
    own = Each-prefix P (flat_map ids_of (tree groups tier x)) (flat_map ids_of (drawn groups tier xs))
        (rw (flat_map-append ids_of (tree groups tier x) (drawn groups tier xs)) at h)

    by_found : (o : Option Layer) → find_one id groups x ≡ o → is_some (find_one id groups x) ≡ true → P id
    by_found None q some = let none : false ≡ true = rw q at some in cc
    by_found (Some found) q some = stands-id P (stands_one id groups tier found x q) own
Each-held P id groups tier (x ∷ xs) (suc k) l e held h =
    Each-held P id groups tier xs k l e held (Each-rest P (flat_map ids_of (tree groups tier x)) (flat_map ids_of (drawn groups tier xs))
    (rw (flat_map-append ids_of (tree groups tier x) (drawn groups tier xs)) at h))

-- the ids of a layer of the list are distinct
pub Distinct-tree : (groups tier : ℕ) (ls : List Layer) (k : ℕ) (l : Layer) → slice_get ls k ≡ Some l → Distinct (flat_map ids_of (drawn groups tier ls))
    → Distinct (flat_map ids_of (tree groups tier l))
Distinct-tree groups tier [] zero l e h = cc
Distinct-tree groups tier [] (suc k) l e h = cc
Distinct-tree groups tier (x ∷ xs) zero l e h =
    let same : x ≡ l = cc in
    subst (λ (y : Layer). Distinct (flat_map ids_of (tree groups tier y))) same
    (Distinct-prefix (flat_map ids_of (tree groups tier x)) (flat_map ids_of (drawn groups tier xs))
    (rw (flat_map-append ids_of (tree groups tier x) (drawn groups tier xs)) at h))
Distinct-tree groups tier (x ∷ xs) (suc k) l e h =
    Distinct-tree groups tier xs k l e (Distinct-rest (flat_map ids_of (tree groups tier x)) (flat_map ids_of (drawn groups tier xs))
    (rw (flat_map-append ids_of (tree groups tier x) (drawn groups tier xs)) at h))

-- an id of the second list is none of the first one's
Each-apart_from : (id : ℕ) (ns ids : List ℕ) → ((n : ℕ) → Each (λ i. n ≢ i) ids → n ≢ id) → Each (λ n. Each (λ i. n ≢ i) ids) ns → Each (λ n. n ≢ id) ns
Each-apart_from id [] ids at h = tt
Each-apart_from id (n ∷ ns) ids at h = (at n h.0, Each-apart_from id ns ids at h.1)

-- ---- a layer stands at the place
abbrev at_of : Option LayerPlace → ℕ
at_of None = 0
at_of (Some place) = place.at

abbrev parent_of : Option LayerPlace → Option ℕ
parent_of None = None
parent_of (Some place) = place.parent

-- one of these layers stands there, or one that stands in a group among them
abbrev StandsAt : ℕ → Option ℕ → List Layer → LayerPlace → Type 0
StandsAt groups parent ls place =
    ((place.parent ≡ parent) × IsSome (slice_get ls place.at))
    ⊎ ((g : Layer) × ((place.parent ≡ Some g.id) × ((layer_among g.id groups ls ≡ Some g)
    × IsSome (option_and_then (λ ks. slice_get ks place.at) (group_of g)))))

own_place : (id : ℕ) (parent : Option ℕ) (ls : List Layer) (place : LayerPlace) → option_map (place_under parent) (position (has_id id) ls) ≡ Some place
    → (place.parent ≡ parent) × IsSome (slice_get ls place.at)
own_place id parent ls place e = by_position (position (has_id id) ls) refl e
  where
    by_position : (o : Option ℕ) → position (has_id id) ls ≡ o → option_map (place_under parent) o ≡ Some place
        → (place.parent ≡ parent) × IsSome (slice_get ls place.at)
    by_position None f q = cc
    by_position (Some at) f q =
        let same : at ≡ place.at = ap at_of q in
        let found = position-Some (has_id id) ls at (empty_object_layer 0 []) f in
        let there = slice_get-Some ls place.at (subst (λ k. k < length ls) same found.0) in
        (sym (ap parent_of q), rw there.1 refl)

inside-group : (l : Layer) (at : ℕ) → IsSome (slice_get (inside l) at) → IsSome (option_and_then (λ ks. slice_get ks at) (group_of l))
inside-group l at h = by_group (group_of l) h
  where
    none : (at : ℕ) → IsSome {T = Layer} (slice_get [] at) → ⊥
    none zero q = cc
    none (suc at) q = cc

    by_group : (o : Option (List Layer)) → IsSome (slice_get (or_empty o) at) → IsSome (option_and_then (λ ks. slice_get ks at) o)
    by_group None q = absurd (none at q)
    by_group (Some ks) q = q

-- the layer that is found among those that stand in one with another id
pub found-inside : (groups tier : ℕ) (l g : Layer) → layer_among g.id groups (inside l) ≡ Some g → Distinct (flat_map ids_of (tree (suc groups) tier l))
    → find_one g.id (suc groups) l ≡ Some g
found-inside groups tier l g e h =
    let apart : Distinct (l.id ∷ flat_map ids_of (drawn groups (inner_tier tier) (inside l))) = rw (tree-is (suc groups) tier l) at h in
    let other : l.id ≢ g.id = stands-id (λ n. l.id ≢ n) (stands g.id groups (inner_tier tier) (inside l) g e) apart.0 in
    let passed : has_id g.id l ≡ false = grind (arith, nat_tests, other) in
    find_one-is g.id (suc groups) l ∙ rw (passed) e

-- the layers within groups, one after another
places_within : (id groups tier : ℕ) → ((l : Layer) (place : LayerPlace) → place_among id groups (Some l.id) (inside l) ≡ Some place → Distinct
    (flat_map ids_of (drawn groups (inner_tier tier) (inside l))) → StandsAt groups (Some l.id) (inside l) place)
    → (ls : List Layer) (place : LayerPlace) → first_some (λ l. place_among id groups (Some l.id) (inside l)) ls ≡ Some place
    → Distinct (flat_map ids_of (drawn (suc groups) tier ls))
    → (g : Layer) × ((place.parent ≡ Some g.id) × ((layer_among g.id (suc groups) ls ≡ Some g) × IsSome
    (option_and_then (λ ks. slice_get ks place.at) (group_of g))))
places_within id groups tier within [] place e h = cc
places_within id groups tier within (l ∷ ls) place e h = by_first (place_among id groups (Some l.id) (inside l)) refl e
    (places_within id groups tier within ls place)
  where
    pieces : Distinct (flat_map ids_of (tree (suc groups) tier l) ++ flat_map ids_of (drawn (suc groups) tier ls))
    pieces = rw (flat_map-append ids_of (tree (suc groups) tier l) (drawn (suc groups) tier ls)) at h

    own : Distinct (flat_map ids_of (tree (suc groups) tier l))
    own = Distinct-prefix (flat_map ids_of (tree (suc groups) tier l)) (flat_map ids_of (drawn (suc groups) tier ls)) pieces

    by_stands : StandsAt groups (Some l.id) (inside l) place
        → (g : Layer) × ((place.parent ≡ Some g.id) × ((layer_among g.id (suc groups) (l ∷ ls) ≡ Some g) × IsSome
        (option_and_then (λ ks. slice_get ks place.at) (group_of g))))
    by_stands (inl q) =
        let here : has_id l.id l ≡ true = grind (arith, nat_tests) in
        let found : find_one l.id (suc groups) l ≡ Some l = find_one-is l.id (suc groups) l ∙ rw here refl in
        (l, (q.0, (ap (λ o. or_else o (layer_among l.id (suc groups) ls)) found, inside-group l place.at q.1)))
    by_stands (inr q) =
        let found = found-inside groups tier l q.0 q.1.1.0 own in
        (q.0, (q.1.0, (ap (λ o. or_else o (layer_among q.0.id (suc groups) ls)) found, q.1.1.1)))

    by_first : (o : Option LayerPlace) → place_among id groups (Some l.id) (inside l) ≡ o
        → or_else o (first_some (λ k. place_among id groups (Some k.id) (inside k)) ls) ≡ Some place
        → (first_some (λ k. place_among id groups (Some k.id) (inside k)) ls ≡ Some place → Distinct (flat_map ids_of (drawn (suc groups) tier ls))
        → (g : Layer) × ((place.parent ≡ Some g.id) × ((layer_among g.id (suc groups) ls ≡ Some g) × IsSome
        (option_and_then (λ ks. slice_get ks place.at) (group_of g)))))
        → (g : Layer) × ((place.parent ≡ Some g.id) × ((layer_among g.id (suc groups) (l ∷ ls) ≡ Some g) × IsSome
        (option_and_then (λ ks. slice_get ks place.at) (group_of g))))
    by_first None f q later =
        let found = later q (Distinct-rest (flat_map ids_of (tree (suc groups) tier l)) (flat_map ids_of (drawn (suc groups) tier ls)) pieces) in
        let g = found.0 in
        let others = Each-apart_from g.id (flat_map ids_of (tree (suc groups) tier l)) (flat_map ids_of (drawn (suc groups) tier ls))
        (λ n a. stands-id (λ i. n ≢ i) (stands g.id (suc groups) tier ls g found.1.1.0) a)
        (Apart-pieces (flat_map ids_of (tree (suc groups) tier l)) (flat_map ids_of (drawn (suc groups) tier ls)) pieces) in
        (g, (found.1.0, (ap (λ o. or_else o (layer_among g.id (suc groups) ls)) (found-none g.id (suc groups) tier l others) ∙ found.1.1.0, found.1.1.1)))
    by_first (Some p) f q later =
        let inner : Distinct (l.id ∷ flat_map ids_of (drawn groups (inner_tier tier) (inside l))) = rw (tree-is (suc groups) tier l) at own in
        by_stands (within l place (f ∙ q) inner.1)

pub place_among-there : (id groups tier : ℕ) (parent : Option ℕ) (ls : List Layer) (place : LayerPlace) → place_among id groups parent ls ≡ Some place
    → Distinct (flat_map ids_of (drawn groups tier ls)) → StandsAt groups parent ls place
unfolding place_among
place_among-there id zero tier parent ls place e h = inl (own_place id parent ls place e)
place_among-there id (suc groups) tier parent ls place e h =
    by_own (option_map (place_under parent) (position (has_id id) ls)) refl e
    (λ q. places_within id groups tier (λ l p f d. place_among-there id groups (inner_tier tier) (Some l.id) (inside l) p f d) ls place q h)
  where
    by_own : (o : Option LayerPlace) → option_map (place_under parent) (position (has_id id) ls) ≡ o
        → or_else o (first_some (λ l. place_among id groups (Some l.id) (inside l)) ls) ≡ Some place
        → (first_some (λ l. place_among id groups (Some l.id) (inside l)) ls ≡ Some place
        → (g : Layer) × ((place.parent ≡ Some g.id) × ((layer_among g.id (suc groups) ls ≡ Some g) × IsSome
        (option_and_then (λ ks. slice_get ks place.at) (group_of g)))))
        → StandsAt (suc groups) parent ls place
    by_own None f q later = inr (later q)
    by_own (Some p) f q later = inl (own_place id parent ls place (f ∙ q))

pub layer_place-there : (m : MapParts) (id : ℕ) (place : LayerPlace) → layer_place m id ≡ Some place → IsWellFormed m → IsSome (layer_at m place)
layer_place-there m id place e h = by_stands (place_among-there id MAX_GROUPS layer_tier None m.layers place e h.layers.layer_ids.distinct)
  where
    by_stands : StandsAt MAX_GROUPS None m.layers place → IsSome (layer_at m place)
    by_stands (inl q) = rw q.0 q.1
    by_stands (inr q) = rw (q.1.0, q.1.1.0) q.1.1.1

-- ---- the one element with an id
module _ {X : Type 0} (id_of : X → ℕ) where
  pub Each-id_at : (P : ℕ → Type 0) (xs : List X) (k : ℕ) (x : X) → slice_get xs k ≡ Some x → Each P (flat_map (λ y. id_of y ∷ []) xs) → P (id_of x)
  Each-id_at P [] zero x e h = cc
  Each-id_at P [] (suc k) x e h = cc
  Each-id_at P (y ∷ ys) zero x e h = let same : y ≡ x = cc in subst (λ z. P (id_of z)) same h.0
  Each-id_at P (y ∷ ys) (suc k) x e h = Each-id_at P ys k x e h.1

  position_from-only : (xs : List X) (i k : ℕ) (x : X) → slice_get xs k ≡ Some x → Distinct (flat_map (λ y. id_of y ∷ []) xs)
      → position_from (λ y. nat_eq (id_of y) (id_of x)) i xs ≡ Some (i + k)
  position_from-only [] i zero x e h = cc
  position_from-only [] i (suc k) x e h = cc
  position_from-only (y ∷ ys) i zero x e h =
      let same : y ≡ x = cc in
      let found : nat_eq (id_of y) (id_of x) ≡ true = grind (arith, nat_tests, ap id_of same) in
      let here : i ≡ i + 0 = omega arith in
      rw found (ap Some here)
  position_from-only (y ∷ ys) i (suc k) x e h =
      let other : id_of y ≢ id_of x = Each-id_at (λ n. id_of y ≢ n) ys k x e h.0 in
      let passed : nat_eq (id_of y) (id_of x) ≡ false = grind (arith, nat_tests, other) in
      let here : (i + 1) + k ≡ i + suc k = omega arith in
      rw passed (position_from-only ys (i + 1) k x e h.1 ∙ ap Some here)

  -- where the ids are distinct, the place of an element is that of the first with its id
  pub position-only : (xs : List X) (k : ℕ) (x : X) → slice_get xs k ≡ Some x → Distinct (flat_map (λ y. id_of y ∷ []) xs)
      → position (λ y. nat_eq (id_of y) (id_of x)) xs ≡ Some k
  position-only xs k x e h =
      let here : 0 + k ≡ k = omega arith in
      position_from-zero (λ y. nat_eq (id_of y) (id_of x)) xs ∙ position_from-only xs 0 k x e h ∙ ap Some here

-- ---- the first layer that has an id, or one within it
position_from-held : (id groups tier : ℕ) (ls : List Layer) (i k : ℕ) (l : Layer) → slice_get ls k ≡ Some l → holds id groups l ≡ true
    → Distinct (flat_map ids_of (drawn groups tier ls)) → position_from (holds id groups) i ls ≡ Some (i + k)
position_from-held id groups tier [] i zero l e held h = cc
position_from-held id groups tier [] i (suc k) l e held h = cc
position_from-held id groups tier (x ∷ xs) i zero l e held h =
    let same : x ≡ l = cc in
    let own : holds id groups x ≡ true = ap (holds id groups) same ∙ held in
    let here : i ≡ i + 0 = omega arith in
    rw own (ap Some here)
position_from-held id groups tier (x ∷ xs) i (suc k) l e held h =
    let pieces : Distinct (flat_map ids_of (tree groups tier x) ++ flat_map ids_of (drawn groups tier xs)) =
    rw (flat_map-append ids_of (tree groups tier x) (drawn groups tier xs)) at h in
    let apart = Apart-pieces (flat_map ids_of (tree groups tier x)) (flat_map ids_of (drawn groups tier xs)) pieces in
    let others = Each-apart_from id (flat_map ids_of (tree groups tier x)) (flat_map ids_of (drawn groups tier xs))
    (λ n a. Each-held (λ m. n ≢ m) id groups tier xs k l e held a) apart in
    let passed : holds id groups x ≡ false = ap is_some (found-none id groups tier x others) in
    let here : (i + 1) + k ≡ i + suc k = omega arith in
    rw passed (position_from-held id groups tier xs (i + 1) k l e held
    (Distinct-rest (flat_map ids_of (tree groups tier x)) (flat_map ids_of (drawn groups tier xs)) pieces) ∙ ap Some here)

pub position-held : (id groups tier : ℕ) (ls : List Layer) (k : ℕ) (l : Layer) → slice_get ls k ≡ Some l → holds id groups l ≡ true
    → Distinct (flat_map ids_of (drawn groups tier ls)) → position (holds id groups) ls ≡ Some k
position-held id groups tier ls k l e held h =
    let here : 0 + k ≡ k = omega arith in
    position_from-zero (holds id groups) ls ∙ position_from-held id groups tier ls 0 k l e held h ∙ ap Some here

pub position-holder : (id groups tier : ℕ) (ls : List Layer) (k : ℕ) (l : Layer) → slice_get ls k ≡ Some l → l.id ≡ id
    → Distinct (flat_map ids_of (drawn groups tier ls)) → position (holds id groups) ls ≡ Some k
position-holder id groups tier ls k l e is h = position-held id groups tier ls k l e (sym (holds-own id groups l is)) h
