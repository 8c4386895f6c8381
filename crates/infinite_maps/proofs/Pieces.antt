-- The new rectangles of one block.
use Rattle.std.proofs.Common.{◌≡◌, ℕ, zero, suc, ◌+◌, ◌-◌, ◌*◌, ◌/◌, ◌%◌, ◌<◌, ◌≤◌, inl, inr, max, List, [], ◌∷◌, ◌++◌, Bool, true, false, Option}
use Rattle.std.proofs.Common.{Some, None, fold, refl, sym, ap, ◌∙◌, subst, arith}
use Rattle.std.specs.Prelude.{nat_lt, if◌then◌else◌}
use Rattle.std.proofs.lemmas.Bool.Decides.{nat_tests}
use Rattle.infinite_maps.specs.declared.rectangle.Rectangle.{Rectangle}
use Rattle.infinite_maps.specs.Rectangles.{width, area, place, cell_of, joined, around, bounds}
use Rattle.infinite_maps.specs.Growth.{is_new, new_cells}
use Rattle.infinite_maps.specs.Placed.{has, times}
use Rattle.infinite_maps.proofs.Places.{facts, answered, not_both, StandsAt, in_rectangle, of_facts, one_number, times-append}

if_one : (b : Bool) (n : ℕ) → b ≡ true → (if b then 1 else 0) + n ≡ suc n
if_one b n e = ap (λ (b : Bool). (if b then 1 else 0) + n) e ∙ omega arith

if_none : (b : Bool) (n : ℕ) → b ≡ false → (if b then 1 else 0) + n ≡ n
if_none b n e = ap (λ (b : Bool). (if b then 1 else 0) + n) e ∙ omega arith

-- a place of one cell of a rectangle
stands_in_cell : (i j : ℕ) (r : Rectangle) (k : ℕ) → has i j (cell_of r k) ≡ true → StandsAt i j r k
stands_in_cell i j r k e =
    let h = facts i j (cell_of r k) e in
    record { column = omega (arith, h.from_left, h.to_right); row = omega (arith, h.from_top, h.to_bottom) }

cell_stands : (i j : ℕ) (r : Rectangle) (k : ℕ) → StandsAt i j r k → has i j (cell_of r k) ≡ true
cell_stands i j r k s = of_facts i j (cell_of r k)
    (record { from_left = omega (arith, s.column); to_right = omega (arith, s.column); from_top = omega (arith, s.row); to_bottom = omega (arith, s.row) })

there : (columns i j : ℕ) (r : Rectangle) (k : ℕ) → StandsAt i j r k → place columns r k ≡ j * columns + i
unfolding place
there columns i j r k s = rw (s.column, s.row) refl

-- what the new cells among the first n of a rectangle are
pub record Cells (columns : ℕ) (cells : List ℕ) (cover : List Bool) (r : Rectangle) (n i j : ℕ) : Type 0 where
  pub at_most : times i j (new_cells columns cells cover r n) ≤ 1
  pub before : 0 < times i j (new_cells columns cells cover r n) → (j - r.top) * max (width r) 1 + (i - r.left) < n
  pub inside : 0 < times i j (new_cells columns cells cover r n) → has i j r ≡ true
  pub new : 0 < times i j (new_cells columns cells cover r n) → is_new cells cover (j * columns + i) ≡ true
  pub all : (k : ℕ) → k < n → StandsAt i j r k → is_new cells cover (j * columns + i) ≡ true → 0 < times i j (new_cells columns cells cover r n)

one_more : (columns : ℕ) (cells : List ℕ) (cover : List Bool) (r : Rectangle) (n i j : ℕ) (b : Bool) → is_new cells cover (place columns r n) ≡ b
    → times i j (new_cells columns cells cover r (suc n)) ≡ times i j (new_cells columns cells cover r n) + times i j (if b then cell_of r n ∷ [] else [])
one_more columns cells cover r n i j b e =
    times-append i j (new_cells columns cells cover r n) _
    ∙ ap (λ (b : Bool). times i j (new_cells columns cells cover r n) + times i j (if b then cell_of r n ∷ [] else [])) e

pub found : (columns : ℕ) (cells : List ℕ) (cover : List Bool) (r : Rectangle) (n i j : ℕ) → n ≤ area r → Cells columns cells cover r n i j
found columns cells cover r zero i j h = record {
  at_most = omega arith;
  before = λ p. absurd (omega (arith, p));
  inside = λ p. absurd (omega (arith, p));
  new = λ p. absurd (omega (arith, p));
  all = λ k lt. absurd (omega (arith, lt));
}
found columns cells cover r (suc n) i j h =
    let so_far = found columns cells cover r n i j (omega arith) in
    let m = times i j (new_cells columns cells cover r n) in
    let m' = times i j (new_cells columns cells cover r (suc n)) in
    let like : m' ≡ m → ((StandsAt i j r n → is_new cells cover (j * columns + i) ≡ true → ⊥) → Cells columns cells cover r (suc n) i j) = λ e free. record {
      at_most = omega (arith, e, so_far.at_most);
      before = λ p. omega (arith, so_far.before (omega (arith, p, e)));
      inside = λ p. so_far.inside (omega (arith, p, e));
      new = λ p. so_far.new (omega (arith, p, e));
      all = λ k lt s is. elim (answered (nat_lt k n)) [
        | inl b ↦ let before : k < n = grind (arith, nat_tests) in
            let more : 0 < m = so_far.all k before s is in omega (arith, e, more)
        | inr b ↦ let same : k ≡ n = grind (arith, nat_tests) in absurd (free (subst (λ (k : ℕ). StandsAt i j r k) same s) is)
      ];
    } in
    elim (answered (is_new cells cover (place columns r n))) [
      | inr e ↦
          let one = one_more columns cells cover r n i j false e in
          like (omega (arith, one)) (λ s is. not_both _ is (sym (ap (is_new cells cover) (there columns i j r n s)) ∙ e))
      | inl e ↦
          let one = one_more columns cells cover r n i j true e in
          elim (answered (has i j (cell_of r n))) [
            | inr miss ↦
                let zero' = if_none (has i j (cell_of r n)) 0 miss in
                like (omega (arith, one, zero')) (λ s is. not_both _ (cell_stands i j r n s) miss)
            | inl hit ↦
                let s = stands_in_cell i j r n hit in
                let suc' = if_one (has i j (cell_of r n)) 0 hit in
                let number : n ≡ (j - r.top) * max (width r) 1 + (i - r.left) = one_number i j r n s in
                let none : m ≡ 0 = elim (answered (nat_lt 0 m)) [
                  | inl b ↦ let some : 0 < m = grind (arith, nat_tests) in absurd (omega (arith, so_far.before some, number))
                  | inr b ↦ grind (arith, nat_tests)
                ] in
                let more : m' ≡ 1 = omega (arith, one, suc', none) in
                record {
                  at_most = omega (arith, more);
                  before = λ p. omega (arith, number);
                  inside = λ p. of_facts i j r (in_rectangle i j r n (omega arith) s);
                  new = λ p. sym (ap (is_new cells cover) (there columns i j r n s)) ∙ e;
                  all = λ k lt s' is. omega (arith, more);
                }
          ]
    ]

-- all lie in a rectangle
pub record Inside (s r : Rectangle) : Type 0 where
  pub left : r.left ≤ s.left
  pub right : s.right ≤ r.right
  pub top : r.top ≤ s.top
  pub bottom : s.bottom ≤ r.bottom

abbrev pub AllInside : Rectangle → List Rectangle → Type 0
AllInside r [] = Unit {0}
AllInside r (s ∷ ss) = Inside s r × AllInside r ss

pub all_inside-append : (r : Rectangle) (ss ts : List Rectangle) → AllInside r ss → AllInside r ts → AllInside r (ss ++ ts)
all_inside-append r [] ts a b = b
all_inside-append r (s ∷ ss) ts a b = (a.0, all_inside-append r ss ts a.1 b)

pub inside_has : (i j : ℕ) (s r : Rectangle) → Inside s r → has i j s ≡ true → has i j r ≡ true
inside_has i j s r h e =
    let f = facts i j s e in
    of_facts i j r (record {
      from_left = omega (arith, f.from_left, h.left);
      to_right = omega (arith, f.to_right, h.right);
      from_top = omega (arith, f.from_top, h.top);
      to_bottom = omega (arith, f.to_bottom, h.bottom);
    })

cell_inside : (r : Rectangle) (k : ℕ) → k < area r → Inside (cell_of r k) r
cell_inside r k lt =
    let h = in_rectangle (r.left + k % max (width r) 1) (r.top + k / max (width r) 1) r k lt (record { column = refl; row = refl }) in
    record { left = omega arith; right = omega (arith, h.to_right); top = omega arith; bottom = omega (arith, h.to_bottom) }

pub news_inside : (columns : ℕ) (cells : List ℕ) (cover : List Bool) (r : Rectangle) (n : ℕ) → n ≤ area r → AllInside r (new_cells columns cells cover r n)
news_inside columns cells cover r zero h = tt
news_inside columns cells cover r (suc n) h =
    let one : (b : Bool) → AllInside r (if b then cell_of r n ∷ [] else []) = λ b. elim b as (λ (b : Bool). AllInside r (if b then cell_of r n ∷ [] else [])) [
      | true ↦ (cell_inside r n (omega arith), tt)
      | false ↦ tt
    ] in
    all_inside-append r (new_cells columns cells cover r n) _ (news_inside columns cells cover r n (omega arith)) (one (is_new cells cover (place columns r n)))

-- the smallest rectangle around rectangles
abbrev pub AroundInside : Rectangle → Option Rectangle → Type 0
AroundInside r None = Unit {0}
AroundInside r (Some b) = Inside b r

around_inside : (r s : Rectangle) (o : Option Rectangle) → AroundInside r o → Inside s r → AroundInside r (around o s)
around_inside r s None a h = h
around_inside r s (Some b) a h = record {
  left = omega (arith, a.left, h.left);
  right = omega (arith, a.right, h.right);
  top = omega (arith, a.top, h.top);
  bottom = omega (arith, a.bottom, h.bottom);
}

fold_inside : (r : Rectangle) (ss : List Rectangle) (o : Option Rectangle) → AroundInside r o → AllInside r ss → AroundInside r (fold around o ss)
fold_inside r [] o a h = a
fold_inside r (s ∷ ss) o a h = fold_inside r ss (around o s) (around_inside r s o a h.0) h.1

pub bounds_inside : (r : Rectangle) (ss : List Rectangle) → AllInside r ss → AroundInside r (bounds ss)
bounds_inside r ss h = fold_inside r ss None tt h

-- whether a rectangle that there may be has a place
abbrev pub some_has : ℕ → ℕ → Option Rectangle → Bool
some_has i j None = false
some_has i j (Some b) = has i j b

joined_left : (i j : ℕ) (o : Option Rectangle) (s : Rectangle) → some_has i j o ≡ true → some_has i j (around o s) ≡ true
joined_left i j None s e = absurd (not_both true refl (sym e))
joined_left i j (Some b) s e = inside_has i j b (joined b s) (record { left = omega arith; right = omega arith; top = omega arith; bottom = omega arith }) e

joined_right : (i j : ℕ) (o : Option Rectangle) (s : Rectangle) → has i j s ≡ true → some_has i j (around o s) ≡ true
joined_right i j None s e = e
joined_right i j (Some b) s e = inside_has i j s (joined b s) (record { left = omega arith; right = omega arith; top = omega arith; bottom = omega arith }) e

fold_keeps : (i j : ℕ) (ss : List Rectangle) (o : Option Rectangle) → some_has i j o ≡ true → some_has i j (fold around o ss) ≡ true
fold_keeps i j [] o e = e
fold_keeps i j (s ∷ ss) o e = fold_keeps i j ss (around o s) (joined_left i j o s e)

fold_has : (i j : ℕ) (ss : List Rectangle) (o : Option Rectangle) → 0 < times i j ss → some_has i j (fold around o ss) ≡ true
fold_has i j [] o h = absurd (omega arith)
fold_has i j (s ∷ ss) o h = elim (answered (has i j s)) [
  | inl e ↦ fold_keeps i j ss (around o s) (joined_right i j o s e)
  | inr e ↦ let rest : 0 < times i j ss = omega (arith, h, if_none (has i j s) (times i j ss) e) in fold_has i j ss (around o s) rest
]

pub bounds_has : (i j : ℕ) (ss : List Rectangle) → 0 < times i j ss → some_has i j (bounds ss) ≡ true
bounds_has i j ss h = fold_has i j ss None h
