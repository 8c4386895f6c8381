-- The best tileset of a list.
use Rattle.std.proofs.Common.{◌≡◌, ℕ, suc, ◌<◌, ◌≤◌, List, [], ◌∷◌, Bool, true, false, cond, nat_lt, nat_eq, Option, Some, None, IfSome, IfNone, ◌⊎◌, inl, inr}
use Rattle.std.proofs.Common.{refl, subst, arith}
use Rattle.std.proofs.lemmas.Bool.{ltb-true}
use Rattle.std.specs.Prelude.{Contains}
use Rattle.std.proofs.lemmas.Bool.Decides.{nat_tests}
use Rattle.tile_id.specs.Gid.{base_of}
use Rattle.map_model.specs.declared.parts.Tileset.{Tileset}
use Rattle.map_model.specs.declared.parts.MapParts.{MapParts}
use Rattle.map_model.specs.Lists.{Each}
use Rattle.map_model.specs.Tilesets.{better, best_of, IsTilesetOf, HasNoTileset}

-- t is not beaten by the tileset s
abbrev IsOver : ℕ → Tileset → Tileset → Type 0
IsOver base t s = s.first_id ≤ base → s.first_id ≤ t.first_id

test_false : (a b : ℕ) → nat_lt a b ≡ false → b ≤ a
test_false a b h = grind (arith, nat_tests)

pub nat_eq-true : (a b : ℕ) → nat_eq a b ≡ true → a ≡ b
nat_eq-true a b h = grind (arith, nat_tests)

-- ---- one step
better_low : (base : ℕ) (o : Option Tileset) (s t : Tileset) → IfSome o (λ b. b.first_id ≤ base) → better base o s ≡ Some t → t.first_id ≤ base
better_low base None s t h = by_test (nat_lt base s.first_id) refl
  where
    by_test : (b : Bool) → nat_lt base s.first_id ≡ b → cond b None (Some s) ≡ Some t → t.first_id ≤ base
    by_test true e q = cc
    by_test false e q = let is : s ≡ t = cc in subst (λ (u : Tileset). u.first_id ≤ base) is (test_false base s.first_id e)
better_low base (Some r) s t h = by_test (nat_lt base s.first_id) (nat_lt r.first_id s.first_id) refl
  where
    by_test : (b c : Bool) → nat_lt base s.first_id ≡ b → cond b (Some r) (cond c (Some s) (Some r)) ≡ Some t → t.first_id ≤ base
    by_test true c e q = let is : r ≡ t = cc in subst (λ (u : Tileset). u.first_id ≤ base) is h
    by_test false true e q = let is : s ≡ t = cc in subst (λ (u : Tileset). u.first_id ≤ base) is (test_false base s.first_id e)
    by_test false false e q = let is : r ≡ t = cc in subst (λ (u : Tileset). u.first_id ≤ base) is h

-- the better one is one of the two
better_one : (base : ℕ) (o : Option Tileset) (s t : Tileset) → better base o s ≡ Some t → (o ≡ Some t) ⊎ (s ≡ t)
better_one base None s t = by_test (nat_lt base s.first_id)
  where
    by_test : (b : Bool) → cond b None (Some s) ≡ Some t → (None ≡ Some t) ⊎ (s ≡ t)
    by_test true q = inl q
    by_test false q = inr (cc)
better_one base (Some r) s t = by_test (nat_lt base s.first_id) (nat_lt r.first_id s.first_id)
  where
    by_test : (b c : Bool) → cond b (Some r) (cond c (Some s) (Some r)) ≡ Some t → (Some r ≡ Some t) ⊎ (s ≡ t)
    by_test true c q = inl q
    by_test false true q = inr (cc)
    by_test false false q = inl q

-- it is not beaten by the new one, nor by the old one
better_over : (base : ℕ) (o : Option Tileset) (s t : Tileset) → better base o s ≡ Some t → IsOver base t s
better_over base None s t = by_test (nat_lt base s.first_id) refl
  where
    by_test : (b : Bool) → nat_lt base s.first_id ≡ b → cond b None (Some s) ≡ Some t → IsOver base t s
    by_test true e q l = cc
    by_test false e q l = let is : s ≡ t = cc in subst (λ (u : Tileset). s.first_id ≤ u.first_id) is (omega arith)
better_over base (Some r) s t = by_test (nat_lt base s.first_id) (nat_lt r.first_id s.first_id) refl refl
  where
    by_test : (b c : Bool) → nat_lt base s.first_id ≡ b → nat_lt r.first_id s.first_id ≡ c → cond b (Some r) (cond c (Some s) (Some r)) ≡ Some t
        → IsOver base t s
    by_test true c e f q l = let above = ltb-true base s.first_id e in absurd (omega arith)
    by_test false true e f q l = let is : s ≡ t = cc in subst (λ (u : Tileset). s.first_id ≤ u.first_id) is (omega arith)
    by_test false false e f q l = let is : r ≡ t = cc in subst (λ (u : Tileset). s.first_id ≤ u.first_id) is (test_false r.first_id s.first_id f)

better_old : (base : ℕ) (r s t : Tileset) → better base (Some r) s ≡ Some t → r.first_id ≤ t.first_id
better_old base r s t = by_test (nat_lt base s.first_id) (nat_lt r.first_id s.first_id) refl
  where
    by_test : (b c : Bool) → nat_lt r.first_id s.first_id ≡ c → cond b (Some r) (cond c (Some s) (Some r)) ≡ Some t → r.first_id ≤ t.first_id
    by_test true c f q = let is : r ≡ t = cc in subst (λ (u : Tileset). r.first_id ≤ u.first_id) is (omega arith)
    by_test false true f q =
        let is : s ≡ t = cc in
        let less = ltb-true r.first_id s.first_id f in
        subst (λ (u : Tileset). r.first_id ≤ u.first_id) is (omega arith)
    by_test false false f q = let is : r ≡ t = cc in subst (λ (u : Tileset). r.first_id ≤ u.first_id) is (omega arith)

better_some : (base : ℕ) (r s : Tileset) → better base (Some r) s ≡ None → ⊥
better_some base r s = by_test (nat_lt base s.first_id) (nat_lt r.first_id s.first_id)
  where
    by_test : (b c : Bool) → cond b (Some r) (cond c (Some s) (Some r)) ≡ None → ⊥
    by_test true c q = cc
    by_test false true q = cc
    by_test false false q = cc

better_none : (base : ℕ) (s : Tileset) → better base None s ≡ None → base < s.first_id
better_none base s = by_test (nat_lt base s.first_id) refl
  where
    by_test : (b : Bool) → nat_lt base s.first_id ≡ b → cond b None (Some s) ≡ None → base < s.first_id
    by_test true e q = ltb-true base s.first_id e
    by_test false e q = cc

-- ---- a whole list
contains_later : (ts : List Tileset) (s t : Tileset) → Contains ts t → Contains (s ∷ ts) t
contains_later ts s t (k, l, e) = (suc k, omega arith, e)

-- the best of a list, from one so far on, is not beaten by that one
best_old : (base : ℕ) (r : Tileset) (ts : List Tileset) (t : Tileset) → best_of base (Some r) ts ≡ Some t → r.first_id ≤ t.first_id
best_old base r [] t q = let is : r ≡ t = cc in subst (λ (u : Tileset). r.first_id ≤ u.first_id) is (omega arith)
best_old base r (s ∷ ts) t q = by_best (better base (Some r) s) refl q (λ b p. best_old base b ts t p)
  where
    by_best : (o : Option Tileset) → better base (Some r) s ≡ o → best_of base o ts ≡ Some t
        → ((b : Tileset) → best_of base (Some b) ts ≡ Some t → b.first_id ≤ t.first_id)
        → r.first_id ≤ t.first_id
    by_best None e p later = absurd (better_some base r s e)
    by_best (Some b) e p later =
        let first = better_old base r s b e in
        let then = later b p in
        omega arith

best_none : (base : ℕ) (o : Option Tileset) (ts : List Tileset) → best_of base o ts ≡ None → (o ≡ None) × Each (λ s. base < s.first_id) ts
best_none base o [] q = (q, tt)
best_none base None (s ∷ ts) q =
    let rest = best_none base (better base None s) ts q in
    (refl, (better_none base s rest.0, rest.1))
best_none base (Some r) (s ∷ ts) q =
    let rest = best_none base (better base (Some r) s) ts q in
    absurd (better_some base r s rest.0)

best_low : (base : ℕ) (o : Option Tileset) (ts : List Tileset) (t : Tileset) → IfSome o (λ b. b.first_id ≤ base) → best_of base o ts ≡ Some t
    → t.first_id ≤ base
best_low base None [] t h q = cc
best_low base (Some r) [] t h q = let is : r ≡ t = cc in subst (λ (u : Tileset). u.first_id ≤ base) is h
best_low base o (s ∷ ts) t h q = by_best (better base o s) refl q (λ b k p. best_low base b ts t k p)
  where
    by_best : (b : Option Tileset) → better base o s ≡ b → best_of base b ts ≡ Some t
        → ((b : Option Tileset) → IfSome b (λ r. r.first_id ≤ base) → best_of base b ts ≡ Some t → t.first_id ≤ base) → t.first_id ≤ base
    by_best None e p later = later None tt p
    by_best (Some b) e p later = later (Some b) (better_low base o s b h e) p

best_there : (base : ℕ) (o : Option Tileset) (ts : List Tileset) (t : Tileset) → best_of base o ts ≡ Some t → (o ≡ Some t) ⊎ Contains ts t
best_there base o [] t q = inl q
best_there base o (s ∷ ts) t q =
    elim (best_there base (better base o s) ts t q) [
      | inl p ↦ elim (better_one base o s t p) [ inl e ↦ inl e | inr e ↦ inr (0, omega arith, e) ]
      | inr p ↦ inr (contains_later ts s t p)
    ]

best_over : (base : ℕ) (o : Option Tileset) (ts : List Tileset) (t : Tileset) → best_of base o ts ≡ Some t → Each (IsOver base t) ts
best_over base o [] t q = tt
best_over base o (s ∷ ts) t q = (by_best (better base o s) refl q, best_over base (better base o s) ts t q)
  where
    by_best : (b : Option Tileset) → better base o s ≡ b → best_of base b ts ≡ Some t → IsOver base t s
    by_best None e p l = absurd (none_low o e)
      where
        none_low : (a : Option Tileset) → better base a s ≡ None → ⊥
        none_low None g = let above = better_none base s g in omega arith
        none_low (Some r) g = better_some base r s g
    by_best (Some b) e p l =
        let first = better_over base o s b e l in
        let then = best_old base b ts t p in
        omega arith

contains_any : (ts : List Tileset) (t : Tileset) → (None ≡ Some t) ⊎ Contains ts t → Contains ts t
contains_any ts t (inl e) = cc
contains_any ts t (inr h) = h

pub tileset_of-greatest : (m : MapParts) (gid : ℕ) → (base_of gid ≡ 0 → ⊥) → IfSome (best_of (base_of gid) None m.tilesets) (IsTilesetOf m gid)
tileset_of-greatest m gid some = by_best (best_of (base_of gid) None m.tilesets) refl
  where
    by_best : (o : Option Tileset) → best_of (base_of gid) None m.tilesets ≡ o → IfSome o (IsTilesetOf m gid)
    by_best None e = tt
    by_best (Some t) e = record {
      some = grind arith;
      there = contains_any m.tilesets t (best_there (base_of gid) None m.tilesets t e);
      low = best_low (base_of gid) None m.tilesets t tt e;
      greatest = best_over (base_of gid) None m.tilesets t e;
    }

pub tileset_of-none : (m : MapParts) (gid : ℕ) → IfNone (best_of (base_of gid) None m.tilesets) (HasNoTileset m gid)
tileset_of-none m gid = by_best (best_of (base_of gid) None m.tilesets) refl
  where
    by_best : (o : Option Tileset) → best_of (base_of gid) None m.tilesets ≡ o → IfNone o (HasNoTileset m gid)
    by_best None e = λ l. (best_none (base_of gid) None m.tilesets e).1
    by_best (Some t) e = tt
