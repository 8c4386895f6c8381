-- Tests of what must differ, beside what they say.
use Rattle.std.proofs.Common.{◌≡◌, ℕ, ◌≤◌, eq-eqb, List, [], ◌∷◌, ◌++◌, Bool, true, false, not, ◌&&◌, bytes_eq, true≢false, refl, sym, ◌∙◌}
use Rattle.std.specs.Prelude.{◌≢◌, ◌==◌, nat_lt}
use Rattle.std.specs.List.{list_any, list_all, flat_map}
use Rattle.std.proofs.lemmas.Bool.{eqb-true, ltb-true, lt-ltb, or_parts, false_from_ne_true, and_parts}
use Rattle.std.proofs.lemmas.Slice.Eq.{bytes_eq-Decides}
use Rattle.map_model.specs.declared.limits.TheConstants.{MAX_NEXT_ID}
use Rattle.map_model.specs.Lists.{Each, Distinct}
use Rattle.map_model.specs.WellFormed.{IsId, AreIds}
use Rattle.map_json.specs.Distinctness.{are_distinct}

pub not_and : (a b : Bool) → not a && b ≡ true → (a ≡ false) × (b ≡ true)
not_and true b e = absurd (true≢false (sym e))
not_and false b e = (refl, e)

module _ {A : Type 0} (eq : A → A → Bool) (same : (x y : A) → x ≡ y → eq x y ≡ true) where
  none_same : (x : A) (ys : List A) → list_any (eq x) ys ≡ false → Each (λ y. x ≢ y) ys
  none_same x [] e = tt
  none_same x (y ∷ ys) e = let f = or_parts (eq x y) (list_any (eq x) ys) e in ((λ s. true≢false (sym (same x y s) ∙ f.0)), none_same x ys f.1)

  Distinct-are_distinct : (xs : List A) → are_distinct eq xs ≡ true → Distinct xs
  Distinct-are_distinct [] e = tt
  Distinct-are_distinct (x ∷ xs) e = let f = not_and (list_any (eq x) xs) (are_distinct eq xs) e in (none_same x xs f.0, Distinct-are_distinct xs f.1)

module _ {A : Type 0} (eq : A → A → Bool) (same : (x y : A) → eq x y ≡ true → x ≡ y) where
  none_equal : (x : A) (ys : List A) → Each (λ y. x ≢ y) ys → list_any (eq x) ys ≡ false
  none_equal x [] h = refl
  none_equal x (y ∷ ys) h = rw (false_from_ne_true (eq x y) (λ e. h.0 (same x y e)), none_equal x ys h.1) refl

  are_distinct-Distinct : (xs : List A) → Distinct xs → are_distinct eq xs ≡ true
  are_distinct-Distinct [] h = refl
  are_distinct-Distinct (x ∷ xs) h = rw (none_equal x xs h.0, are_distinct-Distinct xs h.1) refl

pub Distinct-numbers : (ns : List ℕ) → are_distinct (λ a b. a == b) ns ≡ true → Distinct ns
Distinct-numbers = Distinct-are_distinct (λ a b. a == b) (λ x y e. eq-eqb x y e)

pub numbers-Distinct : (ns : List ℕ) → Distinct ns → are_distinct (λ a b. a == b) ns ≡ true
numbers-Distinct = are_distinct-Distinct (λ a b. a == b) (λ x y e. eqb-true x y e)

pub Distinct-texts : (ts : List (List ℕ)) → are_distinct bytes_eq ts ≡ true → Distinct ts
Distinct-texts = Distinct-are_distinct bytes_eq (λ x y e. (bytes_eq-Decides x y).1 e)

pub texts-Distinct : (ts : List (List ℕ)) → Distinct ts → are_distinct bytes_eq ts ≡ true
texts-Distinct = are_distinct-Distinct bytes_eq (λ x y e. (bytes_eq-Decides x y).0 e)

-- ---- lists in lists
module _ {B : Type 0} (P : B → Type 0) where
  Each-append : (xs ys : List B) → Each P xs → Each P ys → Each P (xs ++ ys)
  Each-append [] ys h g = g
  Each-append (x ∷ xs) ys h g = (h.0, Each-append xs ys h.1 g)

  pub Each-flat_map : {A : Type 0} (Q : A → Type 0) (f : A → List B) → ((x : A) → Q x → Each P (f x)) → (xs : List A) → Each Q xs → Each P (flat_map f xs)
  Each-flat_map Q f gives [] h = tt
  Each-flat_map Q f gives (x ∷ xs) h = Each-append (f x) (flat_map f xs) (gives x h.0) (Each-flat_map Q f gives xs h.1)

-- ---- ids
Each-IsId : (next : ℕ) (ids : List ℕ) → Each (λ id. 1 ≤ id) ids → list_all (λ id. nat_lt id next) ids ≡ true → Each (IsId next) ids
Each-IsId next [] h e = tt
Each-IsId next (id ∷ ids) h e =
    let f = and_parts (nat_lt id next) (list_all (λ id. nat_lt id next) ids) e in
    (record { low = h.0; high = ltb-true id next f.0 }, Each-IsId next ids h.1 f.1)

pub AreIds-read : (next : ℕ) (ids : List ℕ) → 1 ≤ next → next ≤ MAX_NEXT_ID → Each (λ id. 1 ≤ id) ids → are_distinct (λ a b. a == b) ids ≡ true
    → list_all (λ id. nat_lt id next) ids ≡ true → AreIds next ids
AreIds-read next ids low high h apart below = record {
  next_low = low;
  next_high = high;
  each = Each-IsId next ids h below;
  distinct = Distinct-numbers ids
      apart;
}

-- ids from 1 on that are below another next one
pub Each-IsId-next : (old next : ℕ) (ids : List ℕ) → Each (IsId old) ids → list_all (λ id. nat_lt id next) ids ≡ true → Each (IsId next) ids
Each-IsId-next old next [] h e = tt
Each-IsId-next old next (id ∷ ids) h e =
    let f = and_parts (nat_lt id next) (list_all (λ id. nat_lt id next) ids) e in
    (record { low = h.0.low; high = ltb-true id next f.0 }, Each-IsId-next old next ids h.1 f.1)

pub below-IsId : (next : ℕ) (ids : List ℕ) → Each (IsId next) ids → list_all (λ id. nat_lt id next) ids ≡ true
below-IsId next [] h = refl
below-IsId next (id ∷ ids) h = rw (lt-ltb id next h.0.high, below-IsId next ids h.1) refl
