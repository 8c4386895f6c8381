-- Which places a rectangle has.
use Rattle.std.proofs.Common.{◌≡◌, ℕ, ◌+◌, ◌-◌, ◌*◌, ◌/◌, ◌%◌, ◌<◌, ◌≤◌, ◌⊎◌, inl, inr, max, List, [], ◌∷◌, ◌++◌, Bool, true, false, true≢false, refl}
use Rattle.std.proofs.Common.{sym, ap, ◌∙◌, arith}
use Rattle.std.specs.Prelude.{◌&&◌, nat_lt, nat_le}
use Rattle.std.proofs.lemmas.Bool.Decides.{nat_tests}
use Rattle.std.proofs.lemmas.Nat.{div-mul-add, mod-mul-add, mod_below, mul-add-lt, same_from_place, div-add-mod', row-Below}
use Rattle.infinite_maps.specs.declared.rectangle.Rectangle.{Rectangle}
use Rattle.infinite_maps.specs.Rectangles.{width, height, area, place}
use Rattle.infinite_maps.specs.Placed.{has, times}

pub record Has (i j : ℕ) (r : Rectangle) : Type 0 where
  pub from_left : r.left ≤ i
  pub to_right : i < r.right
  pub from_top : r.top ≤ j
  pub to_bottom : j < r.bottom

pub both_parts : (a b : Bool) → (a && b) ≡ true → (a ≡ true) × (b ≡ true)
both_parts true b e = (refl, e)
both_parts false b e = absurd (true≢false (sym e))

pub facts : (i j : ℕ) (r : Rectangle) → has i j r ≡ true → Has i j r
facts i j r e =
    let p = both_parts (nat_le r.left i && nat_lt i r.right) (nat_le r.top j && nat_lt j r.bottom) e in
    let q = both_parts (nat_le r.left i) (nat_lt i r.right) p.0 in
    let s = both_parts (nat_le r.top j) (nat_lt j r.bottom) p.1 in
    let a : nat_le r.left i ≡ true = q.0 in
    let b : nat_lt i r.right ≡ true = q.1 in
    let c : nat_le r.top j ≡ true = s.0 in
    let d : nat_lt j r.bottom ≡ true = s.1 in
    record {
      from_left = grind (arith, nat_tests);
      to_right = grind (arith, nat_tests);
      from_top = grind (arith, nat_tests);
      to_bottom = grind (arith, nat_tests);
    }

pub of_facts : (i j : ℕ) (r : Rectangle) → Has i j r → has i j r ≡ true
of_facts i j r h =
    let a : nat_le r.left i ≡ true = grind (arith, nat_tests, h.from_left) in
    let b : nat_lt i r.right ≡ true = grind (arith, nat_tests, h.to_right) in
    let c : nat_le r.top j ≡ true = grind (arith, nat_tests, h.from_top) in
    let d : nat_lt j r.bottom ≡ true = grind (arith, nat_tests, h.to_bottom) in
    rw (a, b, c, d) refl

-- each test answers
pub answered : (b : Bool) → (b ≡ true) ⊎ (b ≡ false)
answered true = inl refl
answered false = inr refl

pub not_both : (b : Bool) → b ≡ true → b ≡ false → ⊥
not_both b p q = true≢false (sym p ∙ q)

pub no_facts : (i j : ℕ) (r : Rectangle) → (Has i j r → ⊥) → has i j r ≡ false
no_facts i j r h = elim (answered (has i j r)) [ inl e ↦ absurd (h (facts i j r e)) | inr e ↦ e ]

-- the number of a place in a rectangle, row by row
pub number : ℕ → ℕ → Rectangle → ℕ
number i j r = (j - r.top) * width r + (i - r.left)

pub record IsNumber (columns i j : ℕ) (r : Rectangle) (k : ℕ) : Type 0 where
  pub below : k < area r
  pub column : k % max (width r) 1 ≡ i - r.left
  pub row : k / max (width r) 1 ≡ j - r.top
  pub there : place columns r k ≡ j * columns + i

wide_max : (w n : ℕ) → n < w → max w 1 ≡ w
wide_max w n h = omega arith

pub numbered : (columns i j : ℕ) (r : Rectangle) → Has i j r → IsNumber columns i j r ((j - r.top) * width r + (i - r.left))
unfolding place
numbered columns i j r h =
    let w = width r in
    let k = (j - r.top) * w + (i - r.left) in
    let lt : i - r.left < width r = omega (arith, h.from_left, h.to_right) in
    let high : j - r.top < height r = omega (arith, h.from_top, h.to_bottom) in
    let m : max w 1 ≡ w = wide_max w (i - r.left) lt in
    let column : k % max w 1 ≡ i - r.left = ap (λ (n : ℕ). k % n) m ∙ mod-mul-add (j - r.top) w (i - r.left) lt in
    let row : k / max w 1 ≡ j - r.top = ap (λ (n : ℕ). k / n) m ∙ div-mul-add (j - r.top) w (i - r.left) lt in
    let down : r.top + (j - r.top) ≡ j = omega (arith, h.from_top) in
    let along : r.left + (i - r.left) ≡ i = omega (arith, h.from_left) in
    record {
      below = mul-add-lt (j - r.top) w (i - r.left) (height r) high lt;
      column = column;
      row = row;
      there = rw (column, row, down, along) refl;
    }

-- the number of a place tells the place
pub record StandsAt (i j : ℕ) (r : Rectangle) (k : ℕ) : Type 0 where
  pub column : r.left + k % max (width r) 1 ≡ i
  pub row : r.top + k / max (width r) 1 ≡ j

pub in_rectangle : (i j : ℕ) (r : Rectangle) (k : ℕ) → k < area r → StandsAt i j r k → Has i j r
in_rectangle i j r k lt at =
    let high : k / max (width r) 1 < height r = (row-Below k (max (width r) 1) (width r) (height r) lt (omega arith)).1 in
    let wide : 0 < width r = elim (answered (nat_lt 0 (width r))) [
      | inl e ↦ grind (arith, nat_tests)
      | inr e ↦ let zero' : width r ≡ 0 = grind (arith, nat_tests) in absurd (omega (arith, lt, ap (λ (n : ℕ). n * height r) zero'))
    ] in
    let along : k % max (width r) 1 < max (width r) 1 = mod_below k (max (width r) 1) (omega arith) in
    record {
      from_left = omega (arith, at.column);
      to_right = omega (arith, at.column, along, wide);
      from_top = omega (arith, at.row);
      to_bottom = omega (arith, at.row, high);
    }

-- a place of one number is the place of another only if they are one
pub stands : (columns i j : ℕ) (r : Rectangle) (k : ℕ) → k < area r → r.right ≤ columns → i < columns → place columns r k ≡ j * columns + i → StandsAt i j r k
unfolding place
stands columns i j r k lt fits inside e =
    let wide : 0 < width r = elim (answered (nat_lt 0 (width r))) [
      | inl e ↦ grind (arith, nat_tests)
      | inr e ↦ let zero' : width r ≡ 0 = grind (arith, nat_tests) in absurd (omega (arith, lt, ap (λ (n : ℕ). n * height r) zero'))
    ] in
    let along : k % max (width r) 1 < max (width r) 1 = mod_below k (max (width r) 1) (omega arith) in
    let short : r.left + k % max (width r) 1 < columns = omega (arith, along, wide, fits) in
    let same = same_from_place (r.top + k / max (width r) 1) (r.left + k % max (width r) 1) j i columns short inside e in
    record { column = same.1; row = same.0 }

pub one_number : (i j : ℕ) (r : Rectangle) (k : ℕ) → StandsAt i j r k → k ≡ (j - r.top) * max (width r) 1 + (i - r.left)
one_number i j r k at =
    let w = max (width r) 1 in
    let a : j - r.top ≡ k / w = omega (arith, at.row) in
    let b : i - r.left ≡ k % w = omega (arith, at.column) in
    rw (a, b) (sym (div-add-mod' k w))

pub times-append : (i j : ℕ) (rs ss : List Rectangle) → times i j (rs ++ ss) ≡ times i j rs + times i j ss
times-append i j [] ss = omega arith
times-append i j (r ∷ rs) ss = omega (arith, times-append i j rs ss)
