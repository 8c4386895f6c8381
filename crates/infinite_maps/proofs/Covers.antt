-- What a list of covered cells says of places.
use Rattle.std.proofs.Common.{◌≡◌, ℕ, zero, suc, ◌+◌, ◌*◌, ◌<◌, ◌≤◌, ◌≢◌, inl, inr, List, [], ◌∷◌, Bool, true, false, length, get_or, set, fold, refl}
use Rattle.std.proofs.Common.{sym, ap, ◌∙◌, arith, get_or-set_other}
use Rattle.std.specs.Prelude.{not, ◌||◌, nat_lt, nat_eq, if◌then◌else◌}
use Rattle.std.proofs.lemmas.Bool.Decides.{nat_tests}
use Rattle.infinite_maps.specs.declared.rectangle.Rectangle.{Rectangle}
use Rattle.infinite_maps.specs.Rectangles.{area, place}
use Rattle.infinite_maps.specs.Coverage.{covered_to, with_covered, any_below, is_uncovered, are_apart}
use Rattle.infinite_maps.specs.Placed.{has, times}
use Rattle.infinite_maps.proofs.Places.{facts, answered, both_parts, not_both, numbered, stands, in_rectangle, of_facts}

-- whether a place is covered; one past the end is
abbrev pub at : List Bool → ℕ → Bool
at cover n = get_or cover n true

past_end : (xs : List Bool) (n : ℕ) → length xs ≤ n → get_or xs n true ≡ true
past_end [] n h = refl
past_end (x ∷ xs) zero h = absurd (omega arith)
past_end (x ∷ xs) (suc n) h = past_end xs n (omega arith)

set_here : (xs : List Bool) (n : ℕ) → get_or (set xs n true) n true ≡ true
set_here [] n = refl
set_here (x ∷ xs) zero = refl
set_here (x ∷ xs) (suc n) = set_here xs n

set_there : (xs : List Bool) (n m : ℕ) → at xs m ≡ true → at (set xs n true) m ≡ true
set_there xs n m h = elim (answered (nat_eq m n)) [
  | inl e ↦ let same : m ≡ n = grind (arith, nat_tests) in rw same (set_here xs n)
  | inr e ↦ let other : m ≢ n = grind (arith, nat_tests) in get_or-set_other xs n m true true other ∙ h
]

stays : (columns : ℕ) (r : Rectangle) (n : ℕ) (cover : List Bool) (m : ℕ) → at cover m ≡ true → at (covered_to columns r n cover) m ≡ true
stays columns r zero cover m h = h
stays columns r (suc n) cover m h = set_there (covered_to columns r n cover) (place columns r n) m (stays columns r n cover m h)

comes : (columns : ℕ) (r : Rectangle) (n : ℕ) (cover : List Bool) (k m : ℕ) → k < n → place columns r k ≡ m → at (covered_to columns r n cover) m ≡ true
comes columns r zero cover k m h e = absurd (omega arith)
comes columns r (suc n) cover k m h e = elim (answered (nat_lt k n)) [
  | inl b ↦ let lt : k < n = grind (arith, nat_tests) in
      set_there (covered_to columns r n cover) (place columns r n) m (comes columns r n cover k m lt e)
  | inr b ↦ let same : k ≡ n = grind (arith, nat_tests) in
      let here : m ≡ place columns r n = sym e ∙ ap (place columns r) same in
      rw here (set_here (covered_to columns r n cover) (place columns r n))
]

others : (columns : ℕ) (r : Rectangle) (n : ℕ) (cover : List Bool) (m : ℕ) → ((k : ℕ) → k < n → place columns r k ≡ m → ⊥)
    → at (covered_to columns r n cover) m ≡ at cover m
others columns r zero cover m h = refl
others columns r (suc n) cover m h =
    get_or-set_other (covered_to columns r n cover) (place columns r n) m true true (λ e. h n (omega arith) (sym e))
    ∙ others columns r n cover m (λ k lt e. h k (omega arith) e)

-- a rectangle within the columns covers its places, and no other
pub covers : (columns i j : ℕ) (r : Rectangle) (cover : List Bool) → has i j r ≡ true → at (with_covered columns cover r) (j * columns + i) ≡ true
unfolding with_covered
covers columns i j r cover e =
    let h = numbered columns i j r (facts i j r e) in
    comes columns r (area r) cover _ (j * columns + i) h.below h.there

pub covers_more : (columns : ℕ) (r : Rectangle) (cover : List Bool) (m : ℕ) → at cover m ≡ true → at (with_covered columns cover r) m ≡ true
unfolding with_covered
covers_more columns r cover m h = stays columns r (area r) cover m h

pub covers_no_other : (columns i j : ℕ) (r : Rectangle) (cover : List Bool) → r.right ≤ columns → i < columns → has i j r ≡ false
    → at (with_covered columns cover r) (j * columns + i) ≡ at cover (j * columns + i)
unfolding with_covered
covers_no_other columns i j r cover fits inside free = others columns r (area r) cover (j * columns + i)
    (λ k lt e. not_both (has i j r) (of_facts i j r (in_rectangle i j r k lt (stands columns i j r k lt fits inside e))) free)

none_below : (test : ℕ → Bool) (n k : ℕ) → any_below test n ≡ false → k < n → test k ≡ false
none_below test zero k h lt = absurd (omega arith)
none_below test (suc n) k h lt =
    let parts : (a b : Bool) → (a || b) ≡ false → (a ≡ false) × (b ≡ false) = λ a b. elim a as (λ (a : Bool). (a || b) ≡ false → (a ≡ false) × (b ≡ false)) [
      | true ↦ λ e. absurd (not_both true refl e)
      | false ↦ λ e. (refl, e)
    ] in
    let p = parts (any_below test n) (test n) h in
    elim (answered (nat_lt k n)) [
      | inl b ↦ none_below test n k p.0 (grind (arith, nat_tests))
      | inr b ↦ let same : k ≡ n = grind (arith, nat_tests) in rw same p.1
    ]

not_true : (b : Bool) → not b ≡ true → b ≡ false
not_true true e = sym e
not_true false e = refl

pub uncovered : (columns i j : ℕ) (r : Rectangle) (cover : List Bool) → is_uncovered columns cover r ≡ true → has i j r ≡ true
    → at cover (j * columns + i) ≡ false
uncovered columns i j r cover free e =
    let h = numbered columns i j r (facts i j r e) in
    sym (ap (at cover) h.there) ∙ none_below (λ k. at cover (place columns r k)) (area r) _ (not_true _ free) h.below

-- all lie within so many columns and rows
abbrev pub AllWithin : ℕ → ℕ → List Rectangle → Type 0
AllWithin columns rows [] = Unit {0}
AllWithin columns rows (r ∷ rs) = (r.right ≤ columns) × (r.bottom ≤ rows) × AllWithin columns rows rs

-- what rectangles cover of a list that was begun
pub cover_stays : (columns : ℕ) (rs : List Rectangle) (cover : List Bool) (m : ℕ) → at cover m ≡ true → at (fold (with_covered columns) cover rs) m ≡ true
cover_stays columns [] cover m h = h
cover_stays columns (r ∷ rs) cover m h = cover_stays columns rs (with_covered columns cover r) m (covers_more columns r cover m h)

pub cover_has : (columns i j : ℕ) (rs : List Rectangle) (cover : List Bool) → 0 < times i j rs
    → at (fold (with_covered columns) cover rs) (j * columns + i) ≡ true
cover_has columns i j [] cover h = absurd (omega arith)
cover_has columns i j (r ∷ rs) cover h = elim (answered (has i j r)) [
  | inl e ↦ cover_stays columns rs (with_covered columns cover r) (j * columns + i) (covers columns i j r cover e)
  | inr e ↦
      let rest : 0 < times i j rs = omega (arith, h, ap (λ (b : Bool). (if b then 1 else 0) + times i j rs) e) in
      cover_has columns i j rs (with_covered columns cover r) rest
]

pub cover_has_not : (columns rows i j : ℕ) (rs : List Rectangle) (cover : List Bool) → AllWithin columns rows rs → i < columns → times i j rs ≡ 0
    → at (fold (with_covered columns) cover rs) (j * columns + i) ≡ at cover (j * columns + i)
cover_has_not columns rows i j [] cover within inside h = refl
cover_has_not columns rows i j (r ∷ rs) cover within inside h = elim (answered (has i j r)) [
  | inl e ↦ absurd (omega (arith, h, ap (λ (b : Bool). (if b then 1 else 0) + times i j rs) e))
  | inr e ↦
      let rest : times i j rs ≡ 0 = omega (arith, h, ap (λ (b : Bool). (if b then 1 else 0) + times i j rs) e) in
      cover_has_not columns rows i j rs (with_covered columns cover r) within.2 inside rest
      ∙ covers_no_other columns i j r cover within.0 inside e
]

-- rectangles that are apart have each place at most once, and none that was covered
pub apart_covered : (columns i j : ℕ) (rs : List Rectangle) (cover : List Bool) → are_apart columns cover rs ≡ true → at cover (j * columns + i) ≡ true
    → times i j rs ≡ 0
apart_covered columns i j [] cover apart h = refl
apart_covered columns i j (r ∷ rs) cover apart h =
    let p = both_parts (is_uncovered columns cover r) (are_apart columns (with_covered columns cover r) rs) apart in
    let rest = apart_covered columns i j rs (with_covered columns cover r) p.1 (covers_more columns r cover (j * columns + i) h) in
    elim (answered (has i j r)) [
      | inl e ↦ absurd (not_both _ h (uncovered columns i j r cover p.0 e))
      | inr e ↦ omega (arith, rest, ap (λ (b : Bool). (if b then 1 else 0) + times i j rs) e)
    ]

pub apart_once : (columns i j : ℕ) (rs : List Rectangle) (cover : List Bool) → are_apart columns cover rs ≡ true → times i j rs ≤ 1
apart_once columns i j [] cover apart = omega arith
apart_once columns i j (r ∷ rs) cover apart =
    let p = both_parts (is_uncovered columns cover r) (are_apart columns (with_covered columns cover r) rs) apart in
    elim (answered (has i j r)) [
      | inl e ↦
          let rest = apart_covered columns i j rs (with_covered columns cover r) p.1 (covers columns i j r cover e) in
          omega (arith, rest, ap (λ (b : Bool). (if b then 1 else 0) + times i j rs) e)
      | inr e ↦
          let rest = apart_once columns i j rs (with_covered columns cover r) p.1 in
          omega (arith, rest, ap (λ (b : Bool). (if b then 1 else 0) + times i j rs) e)
    ]
