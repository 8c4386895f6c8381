-- Tilesets that come and go, and the range of a tileset's values.
use Rattle.std.proofs.Common.{◌≡◌, ◌≢◌, ℕ, ◌<◌, ◌≤◌, List, [], ◌∷◌, length, Bool, true, false, cond, nat_lt, nat_le, nat_eq, ◌&&◌, ◌||◌, get_or, Option, Some}
use Rattle.std.proofs.Common.{None, IsSome, IfSome, IfNone, ◌⊎◌, inl, inr, true≢false, lit<, refl, sym, ap, ◌∙◌, arith}
use Rattle.std.specs.Prelude.{Contains}
use Rattle.std.specs.List.{AllByRecursion, flat_map, list_any, insert, remove}
use Rattle.std.proofs.lemmas.List.Elements.{All-contains, All-from_recursion}
use Rattle.std.proofs.lemmas.Option.{slice_get-get_or, get_or_from_slice_get}
use Rattle.std.proofs.Math.Nat.{mod-lt}
use Rattle.std.proofs.lemmas.Bool.{and_parts, cond_both, eq-eqb, ltb-true}
use Rattle.serde_json.specs.Data.{no_members}
use Rattle.std.proofs.lemmas.Bool.Decides.{nat_tests}
use Rattle.std.proofs.lemmas.List.Folds.{list_any-append}
use Rattle.std.proofs.lemmas.List.Quantifiers.{position-Some}
use Rattle.tile_id.specs.Gid.{base_of}
use Rattle.map_model.specs.declared.limits.TheConstants.{MAX_TILESETS}
use Rattle.map_model.specs.declared.parts.Tileset.{Tileset}
use Rattle.map_model.specs.declared.parts.MapParts.{MapParts}
use Rattle.map_model.specs.Groups.{all_drawn}
use Rattle.map_model.specs.Lists.{Each, change_first}
use Rattle.map_model.specs.Tilesets.{tileset_of, best_of, IsTilesetOf, HasNoTileset, has_first_id, tileset_place, is_first, is_value_of, has_uses, values_of}
use Rattle.map_model.specs.Tilesets.{tileset_with, with_tileset, with_tileset_at}
use Rattle.map_model.specs.Uses.{is_between, nearer, end_of, base_limit}
use Rattle.map_model.specs.WellFormed.{IsTileset, AreTilesets, IsWellFormed, first_ids_of}
use Rattle.map_model.proofs.Changes.{Each-at, Each-change_first, Each-insert, Each-remove, length-change_first, length-insert, length-remove_le}
use Rattle.map_model.proofs.FirstChanges.{change_first-along}
use Rattle.map_model.proofs.Keeps.{Each-found}
use Rattle.map_model.proofs.LensLaws.{some-eq}
use Rattle.map_model.proofs.Listings.{Distinct-insert, Distinct-remove, flat-change_first}
use Rattle.map_model.proofs.TilesetLemmas.{tileset_of-greatest, tileset_of-none, nat_eq-true}

-- ---- other tilesets in the place of a map's
tilesets-IsWellFormed : (m : MapParts) (ts : List Tileset) → AreTilesets ts → IsWellFormed m → IsWellFormed (record m { tilesets = ts })
tilesets-IsWellFormed m ts are h = record {
  size = h.size;
  tile_size = h.tile_size;
  layers = h.layers;
  tilesets = are;
  properties = h.properties;
  kept = h.kept;
}

pub remove_tileset-keeps : (m : MapParts) (at : ℕ) (ts : List Tileset) → ts ≡ remove m.tilesets at → IsWellFormed m → IsWellFormed (record m { tilesets = ts })
remove_tileset-keeps m at ts is h =
    tilesets-IsWellFormed m ts (rw is (record {
      few = let less = length-remove_le m.tilesets at in omega (arith, h.tilesets.few);
      each = Each-remove IsTileset m.tilesets at h.tilesets.each;
      distinct = Distinct-remove first_ids_of m.tilesets at h.tilesets.distinct;
    })) h

-- a first id above all others
below_apart : (n : ℕ) (ts : List Tileset) → Each (λ t. t.first_id < n) ts → Each (λ id. n ≢ id) (flat_map first_ids_of ts)
below_apart n [] h = tt
below_apart n (t ∷ ts) h = (λ e. omega (arith, h.0, e), below_apart n ts h.1)

pub insert_tileset-keeps : (m : MapParts) (at : ℕ) (t : Tileset) → length m.tilesets < MAX_TILESETS → IsTileset t
    → Each (λ s. s.first_id < t.first_id) m.tilesets → IsWellFormed m
    → IsWellFormed (with_tileset_at at t m)
insert_tileset-keeps m at t few is above h =
    tilesets-IsWellFormed m (insert m.tilesets at t) (record {
      few = rw length-insert few;
      each = Each-insert IsTileset m.tilesets at t is h.tilesets.each;
      distinct = Distinct-insert first_ids_of m.tilesets at t (tt, tt) (below_apart t.first_id m.tilesets above, tt) h.tilesets.distinct;
    }) h

pub tileset_with-IsTileset : (m : MapParts) (first_id : ℕ) (t : Tileset) → tileset_with m first_id ≡ Some t → IsWellFormed m → IsTileset t
tileset_with-IsTileset m first_id t e h = Each-found (has_first_id first_id) IsTileset m.tilesets t e h.tilesets.each

-- a tileset that is changed, and keeps its first id
pub with_tileset-keeps : (m : MapParts) (first_id : ℕ) (f : Tileset → Tileset) (t : Tileset) → tileset_with m first_id ≡ Some t
    → ((s : Tileset) → (f s).first_id ≡ s.first_id) → IsTileset (f t) → IsWellFormed m → IsWellFormed (with_tileset first_id f m)
with_tileset-keeps m first_id f t there stays is h =
    let changed = change_first-along (has_first_id first_id) f (λ s. f t) m.tilesets
    (λ s e. let same : t ≡ s = some-eq t s (sym there ∙ e) in ap f (sym same)) in
    tilesets-IsWellFormed m (change_first (has_first_id first_id) f m.tilesets) (record {
      few = rw (length-change_first (has_first_id first_id) f m.tilesets) h.tilesets.few;
      each = rw changed (Each-change_first (has_first_id first_id) (λ s. f t) IsTileset (λ s k. is) m.tilesets h.tilesets.each);
      distinct = rw (flat-change_first first_ids_of (has_first_id first_id) f (λ s. ap (λ n. n ∷ []) (stays s)) m.tilesets) h.tilesets.distinct;
    }) h

-- it is no higher than the end so far, and above the first id where that is
end_of-le : (first end : ℕ) (ts : List Tileset) → end_of first end ts ≤ end
end_of-le first end [] = omega arith
end_of-le first end (t ∷ ts) = let later = end_of-le first (nearer first end t) ts in let step = nearer-le first end t in omega arith
  where
    nearer-le : (first end : ℕ) (t : Tileset) → nearer first end t ≤ end
    nearer-le first end t = grind (arith, nat_tests)

-- no first id of the tilesets lies above this one and below the end
end_of-nearest : (first end : ℕ) (ts : List Tileset) → Each (λ t. first < t.first_id → end_of first end ts ≤ t.first_id) ts
end_of-nearest first end [] = tt
end_of-nearest first end (t ∷ ts) = (
  λ above. let later = end_of-le first (nearer first end t) ts in let step : nearer first end t ≤ t.first_id = grind (arith, nat_tests, above) in
      omega arith,
  end_of-nearest first (nearer first end t) ts,
)

-- below the end is what lies below the end so far, and below the first id of each tileset above this one
end_of-above : (first end b : ℕ) (ts : List Tileset) → b < end → Each (λ t. first < t.first_id → b < t.first_id) ts → b < end_of first end ts
end_of-above first end b [] h each = h
end_of-above first end b (t ∷ ts) h each = end_of-above first (nearer first end t) b ts (step first end b t h each.0) each.1
  where
    step : (first end b : ℕ) (t : Tileset) → b < end → (first < t.first_id → b < t.first_id) → b < nearer first end t
    step first end b t h above =
        cond_both (nat_lt first t.first_id && nat_lt t.first_id end) t.first_id end (λ e. b < e) (λ is. above (ltb-true first t.first_id (and_parts _ _ is).0))
        (λ _. h)

-- ---- what is found in lists
pub list_any-flat_map : {X A : Type 0} (p : A → Bool) (g : X → List A) (xs : List X) → list_any p (flat_map g xs) ≡ list_any (λ x. list_any p (g x)) xs
list_any-flat_map p g [] = refl
list_any-flat_map p g (x ∷ xs) = list_any-append p (g x) (flat_map g xs) ∙ ap (λ b. list_any p (g x) || b) (list_any-flat_map p g xs)

pub list_any-same : {X : Type 0} (p q : X → Bool) → ((x : X) → p x ≡ q x) → (xs : List X) → list_any p xs ≡ list_any q xs
list_any-same p q same xs i = list_any (λ x. same x i) xs

recursion_from_Each : {X : Type 0} (P : X → Type 0) (xs : List X) → Each P xs → AllByRecursion P xs
recursion_from_Each P [] h = tt
recursion_from_Each P (x ∷ xs) h = (h.0, recursion_from_Each P xs h.1)

Each-contains : {X : Type 0} (P : X → Type 0) (xs : List X) (x : X) → Contains xs x → Each P xs → P x
Each-contains P xs x c h = All-contains P xs x (All-from_recursion P xs (recursion_from_Each P xs h)) c

pub Each-along : {X : Type 0} (P Q : X → Type 0) → ((x : X) → P x → Q x) → (xs : List X) → Each P xs → Each Q xs
Each-along P Q f [] h = tt
Each-along P Q f (x ∷ xs) h = (f x h.0, Each-along P Q f xs h.1)

-- ---- the tileset of a value, by the range of its base
-- a tileset of the map has the first id
pub record IsFirstOf (m : MapParts) (first : ℕ) : Type 0 where
  pub t : Tileset
  pub there : Contains m.tilesets t
  pub is : t.first_id ≡ first
  pub low : 1 ≤ first

tileset_of-found : (m : MapParts) (value : ℕ) → IfSome (tileset_of m value) (IsTilesetOf m value)
tileset_of-found m value = by_zero (nat_eq (base_of value) 0) refl
  where
    by_zero : (q : Bool) → nat_eq (base_of value) 0 ≡ q → IfSome (cond q None (best_of (base_of value) None m.tilesets)) (IsTilesetOf m value)
    by_zero true e = tt
    by_zero false e = tileset_of-greatest m value (λ z. true≢false (sym (eq-eqb (base_of value) 0 z) ∙ e))

tileset_of-unfound : (m : MapParts) (value : ℕ) → IfNone (tileset_of m value) (HasNoTileset m value)
tileset_of-unfound m value = by_zero (nat_eq (base_of value) 0) refl
  where
    by_zero : (q : Bool) → nat_eq (base_of value) 0 ≡ q → IfNone (cond q None (best_of (base_of value) None m.tilesets)) (HasNoTileset m value)
    by_zero true e = λ l. absurd (omega (arith, l, nat_eq-true (base_of value) 0 e))
    by_zero false e = tileset_of-none m value

is_value_of-range : (m : MapParts) (first value : ℕ) → IsFirstOf m first
    → is_value_of m first value ≡ is_between first (end_of first base_limit m.tilesets) value
is_value_of-range m first value f =
    by_tileset (tileset_of m value) (tileset_of-found m value) (tileset_of-unfound m value)
  where
    b : ℕ
    b = base_of value

    end : ℕ
    end = end_of first base_limit m.tilesets

    small : b < base_limit
    small = mod-lt value (lit< tt)

    -- no tileset has the value
    not_between : (b < first) ⊎ (end ≤ b) → false ≡ (nat_le first b && nat_lt b end)
    not_between (inl l) = grind (arith, nat_tests, l)
    not_between (inr l) = grind (arith, nat_tests, l)

    between : first ≤ b → b < end → true ≡ (nat_le first b && nat_lt b end)
    between low high = grind (arith, nat_tests, low, high)

    -- the tileset has the value, and is this one or another
    by_first : (t : Tileset) → IsTilesetOf m value t → (found : Bool) → nat_eq t.first_id first ≡ found → found ≡ (nat_le first b && nat_lt b end)
    by_first t h true e =
        let same = nat_eq-true t.first_id first e in
        between (omega (arith, same, h.low))
        (end_of-above first base_limit b m.tilesets small
        (Each-along (λ s. s.first_id ≤ b → s.first_id ≤ t.first_id) (λ s. first < s.first_id → b < s.first_id)
        (λ s k above. above_by (nat_lt b s.first_id) refl (λ l. omega (arith, k l, same, above))) m.tilesets h.greatest))
      where
        above_by : {s : ℕ} (q : Bool) → nat_lt b s ≡ q → (s ≤ b → ⊥) → b < s
        above_by {s = s} true e k = ltb-true b s e
        above_by {s = s} false e k = absurd (k (grind (arith, nat_tests)))
    by_first t h false e = by_low (nat_lt b first) refl
      where
        other : t.first_id ≢ first
        other q = true≢false (sym (eq-eqb t.first_id first q) ∙ e)

        by_low : (q : Bool) → nat_lt b first ≡ q → false ≡ (nat_le first b && nat_lt b end)
        by_low true l = not_between (inl (ltb-true b first l))
        by_low false l =
            let low : first ≤ b = grind (arith, nat_tests) in
            let over : first ≤ t.first_id = let o = Each-contains _ m.tilesets f.t f.there h.greatest in omega (arith, o (omega (arith, f.is, low)), f.is) in
            let above : first < t.first_id = grind (arith, over, other) in
            let near = Each-contains (λ s. first < s.first_id → end ≤ s.first_id) m.tilesets t h.there (end_of-nearest first base_limit m.tilesets) in
            not_between (inr (omega (arith, near above, h.low)))

    by_tileset : (o : Option Tileset) → IfSome o (IsTilesetOf m value) → IfNone o (HasNoTileset m value) → is_first first o ≡ (nat_le first b && nat_lt b end)
    by_tileset None h k = not_between (inl (by_zero (nat_lt 0 b) refl))
      where
        by_zero : (q : Bool) → nat_lt 0 b ≡ q → b < first
        by_zero true e = let up = Each-contains _ m.tilesets f.t f.there (k (ltb-true 0 b e)) in omega (arith, up, f.is)
        by_zero false e = let zero : b ≤ 0 = grind (arith, nat_tests) in omega (arith, zero, f.low)
    by_tileset (Some t) h k = by_first t h (nat_eq t.first_id first) refl

-- the tileset with the first id stands in the map
position-IsFirstOf : (m : MapParts) (first : ℕ) → IsSome (tileset_place m first) → IsWellFormed m → IsFirstOf m first
position-IsFirstOf m first some h = by_place (tileset_place m first) refl some
  where
    by_place : (o : Option ℕ) → tileset_place m first ≡ o → IsSome o → IsFirstOf m first
    by_place None e s = cc
    by_place (Some k) e s =
        let none : Tileset = record { first_id = 0; source = None; kept = no_members } in
        let found = position-Some (has_first_id first) m.tilesets k none e in
        let t = get_or m.tilesets k none in
        let there = slice_get-get_or m.tilesets k none found.0 in
        let is : t.first_id ≡ first = nat_eq-true t.first_id first found.1 in
        record {
          t = t;
          there = (k, found.0, get_or_from_slice_get m.tilesets k t t there);
          is = is;
          low = let one = Each-at IsTileset m.tilesets k t there h.tilesets.each in omega (arith, one.low, is);
        }

-- whether it is in use, by the range
pub has_uses-range : (m : MapParts) (first : ℕ) → IsSome (tileset_place m first) → IsWellFormed m
    → has_uses m first ≡ list_any (λ l. list_any (is_between first (end_of first base_limit m.tilesets)) (values_of l)) (all_drawn m.layers)
has_uses-range m first some h =
    list_any-same (is_value_of m first) (is_between first (end_of first base_limit m.tilesets))
    (λ value. is_value_of-range m first value (position-IsFirstOf m first some h)) (flat_map values_of (all_drawn m.layers))
    ∙ list_any-flat_map (is_between first (end_of first base_limit m.tilesets)) values_of (all_drawn m.layers)
