-- Cells that a fill takes, word by word.
use Rattle.std.proofs.Common.{◌≡◌, ◌≢◌, inl, inr, ℕ, suc, ◌+◌, ◌-◌, ◌*◌, ◌/◌, ◌%◌, ◌<◌, ◌≤◌, List, length, true, false, ◌&&◌, nat_eq, nat_lt, sym, ap, ◌∙◌}
use Rattle.std.proofs.Common.{mul_comm, arith}
use Rattle.std.specs.List.{slice_get}
use Rattle.std.proofs.lemmas.Bool.{cases_lt, and_parts, and_from, ltb-true, lt-ltb, leb-true, le-leb, eq-eqb, false≢true}
use Rattle.std.proofs.lemmas.Bool.Decides.{nat_tests}
use Rattle.std.proofs.lemmas.Nat.{mul-add-lt, mod-mul-add, div-mul-add, div-add-mod', div_below, mod_below, same_from_place}
use Rattle.std.proofs.lemmas.Option.{slice_get_past}
use Rattle.edits.specs.declared.ground.Ground.{Ground}
use Rattle.edits.specs.declared.flood.Spread.{Spread}
use Rattle.edits.specs.Covering.{lets_change}
use Rattle.edits.specs.Joining.{AreNeighbours, is_value}
use Rattle.edits.specs.Marks.{is_between}
use Rattle.edits.specs.Flooding.{AreNear, IsGround, IsLed, cell_of, free_at, free_in, is_taken, start_of, taken_at}
use Rattle.edits.proofs.Joined.{AreJoined-step}

-- ---- numbers
pub is_between-true : (a b k : ℕ) → is_between a b k ≡ true → (a ≤ k) × (k < b)
is_between-true a b k h = let p = and_parts _ _ h in (leb-true a k p.0, ltb-true k b p.1)

pub between : (a b k : ℕ) → a ≤ k → k < b → is_between a b k ≡ true
between a b k p q = and_from _ _ (le-leb a k p) (lt-ltb k b q)

pub in_row : (w y first end : ℕ) (q : ℕ × ℕ) → q.0 < w → end ≤ w → y * w + first ≤ q.1 * w + q.0 → q.1 * w + q.0 < y * w + end
    → (y ≡ q.1) × (first ≤ q.0) × (q.0 < end)
in_row w y first end q l m p r =
    let right = q.1 * w + q.0 - y * w in
    let small : right < w = omega arith in
    let at : y * w + right ≡ q.1 * w + q.0 = omega arith in
    let same = same_from_place y right q.1 q.0 w small l at in
    (same.0, omega (arith, same.1), omega (arith, same.1))

-- the column and the row of a number
pub column_and_row : (w p y x : ℕ) → p ≡ y * w + x → x < w → (p % w ≡ x) × (p / w ≡ y)
column_and_row w p y x e l = (ap (λ n. n % w) e ∙ mod-mul-add y w x l, ap (λ n. n / w) e ∙ div-mul-add y w x l)

pub is_value-within : (vs : List ℕ) (number value : ℕ) → is_value (slice_get vs number) value ≡ true → number < length vs
is_value-within vs number value h = elim (cases_lt number (length vs)) [
  | inl l ↦ l
  | inr l ↦ absurd (false≢true (ap (λ o. is_value o value) (sym (slice_get_past vs number l)) ∙ h))
]

-- a row begins at a number, and does not before the next
pub row_start : (w p y : ℕ) → 0 < w → p ≡ y * w → nat_eq (p % w) 0 ≡ true
row_start w p y some e = let at : p ≡ y * w + 0 = omega arith in eq-eqb (p % w) 0 (column_and_row w p y 0 at some).0

pub no_row_start : (w p y : ℕ) → y * w < p → p < y * w + w → nat_eq (p % w) 0 ≡ false
no_row_start w p y from to =
    let right = p - y * w in
    let at : p ≡ y * w + right = omega arith in
    let column = (column_and_row w p y right at (omega arith)).0 in
    let differ : nat_eq (p % w) 0 ≡ false = grind (arith, nat_tests) in
    differ

-- ---- free cells and taken cells
module _ (g : Ground) where
  pub some_width : IsGround g → 0 < g.width
  some_width ground = omega (arith, ground.column)

  pub free_at-read : 0 < g.width → (p : ℕ) → free_at g p ≡ (is_value (slice_get g.tiles.now p) g.value && lets_change g.selection.now (cell_of g p))
  unfolding free_at
  free_at-read some p =
      ap (λ b. b && (is_value (slice_get g.tiles.now (p / g.width * g.width + p % g.width)) g.value && lets_change g.selection.now (cell_of g p)))
      (lt-ltb (p % g.width) g.width (mod_below p g.width some))
      ∙ ap (λ k. is_value (slice_get g.tiles.now k) g.value && lets_change g.selection.now (cell_of g p)) (div-add-mod' p g.width)

  pub free_at-value : 0 < g.width → (p : ℕ) → free_at g p ≡ true → is_value (slice_get g.tiles.now p) g.value ≡ true
  free_at-value some p h = (and_parts _ (lets_change g.selection.now (cell_of g p)) (sym (free_at-read some p) ∙ h)).0

  pub free_at-within : 0 < g.width → (p : ℕ) → free_at g p ≡ true → p < length g.tiles.now
  free_at-within some p h = is_value-within g.tiles.now p g.value (free_at-value some p h)

  pub free_in-at : (x y : ℕ) → x < g.width → free_in g (x, y) ≡ free_at g (y * g.width + x)
  unfolding free_at
  free_in-at x y l = λ i. free_in g (sym (mod-mul-add y g.width x l) i, sym (div-mul-add y g.width x l) i)

  pub is_taken-at : (s : Spread) (x y : ℕ) → x < g.width → is_taken g s (x, y) ≡ taken_at s (y * g.width + x)
  unfolding is_taken
  is_taken-at s x y l = ap (λ b. b && taken_at s (y * g.width + x)) (lt-ltb x g.width l)

  pub is_taken-column : (s : Spread) (q : ℕ × ℕ) → is_taken g s q ≡ true → q.0 < g.width
  unfolding is_taken
  is_taken-column s q h = ltb-true q.0 g.width (and_parts (nat_lt q.0 g.width) (taken_at s (q.1 * g.width + q.0)) h).0

  pub free_in-column : (q : ℕ × ℕ) → free_in g q ≡ true → q.0 < g.width
  free_in-column q h = ltb-true q.0 g.width (and_parts (nat_lt q.0 g.width) _ h).0

  pub free_in-row : IsGround g → (q : ℕ × ℕ) → free_in g q ≡ true → q.1 < g.height
  free_in-row ground q h =
      let column = free_in-column q h in
      let inside = free_at-within (some_width ground) (q.1 * g.width + q.0) (sym (free_in-at q.0 q.1 column) ∙ h) in
      let row = div_below (q.1 * g.width + q.0) g.width g.height (omega arith) (omega (arith, ground.size)) in
      omega (arith, row, div-mul-add q.1 g.width q.0 column)

  pub cell_within : IsGround g → (x y : ℕ) → x < g.width → y < g.height → y * g.width + x < length g.tiles.now
  cell_within ground x y l m = omega (arith, ground.size, mul-add-lt y g.width x g.height m l, mul_comm g.width g.height)

  -- ---- neighbours by their numbers
  down_neighbours : 0 < g.width → (p r : ℕ) → r ≡ p + g.width → (p % g.width ≡ r % g.width) × (suc (p / g.width) ≡ r / g.width)
  down_neighbours some p r e =
      let own = div-add-mod' p g.width in
      let at : r ≡ suc (p / g.width) * g.width + p % g.width = omega (arith, own) in
      let both = column_and_row g.width r (suc (p / g.width)) (p % g.width) at (mod_below p g.width some) in
      (sym both.0, sym both.1)

  right_neighbours : 0 < g.width → (p r : ℕ) → r ≡ suc p → r % g.width ≢ 0 → (p / g.width ≡ r / g.width) × (suc (p % g.width) ≡ r % g.width)
  right_neighbours some p r e inner = elim (cases_lt (suc (p % g.width)) g.width) [
    | inl l ↦
        let own = div-add-mod' p g.width in
        let at : r ≡ p / g.width * g.width + suc (p % g.width) = omega (arith, own) in
        let both = column_and_row g.width r (p / g.width) (suc (p % g.width)) at l in
        (sym both.1, sym both.0)
    | inr l ↦
        let own = div-add-mod' p g.width in
        let last : suc (p % g.width) ≡ g.width = omega (arith, mod_below p g.width some) in
        let at : r ≡ suc (p / g.width) * g.width + 0 = omega (arith, own) in
        absurd (inner (column_and_row g.width r (suc (p / g.width)) 0 at some).0)
  ]

  pub near-neighbours : 0 < g.width → (p r : ℕ) → AreNear g p r → AreNeighbours (cell_of g p) (cell_of g r)
  near-neighbours some p r (inl e) = let n = down_neighbours some p r e in inr (n.0, inl n.1)
  near-neighbours some p r (inr (inl e)) = let n = down_neighbours some r p e in inr (sym n.0, inr n.1)
  near-neighbours some p r (inr (inr (inl e))) = let n = right_neighbours some p r e.0 e.1 in inl (n.0, inl n.1)
  near-neighbours some p r (inr (inr (inr e))) = let n = right_neighbours some r p e.0 e.1 in inl (sym n.0, inr n.1)

  pub neighbours-near : (q r : ℕ × ℕ) → q.0 < g.width → r.0 < g.width → AreNeighbours q r → AreNear g (q.1 * g.width + q.0) (r.1 * g.width + r.0)
  neighbours-near q r l m (inl (row, inl e)) =
      let same : q.1 * g.width ≡ r.1 * g.width = ap (λ n. n * g.width) row in
      let column = mod-mul-add r.1 g.width r.0 m in
      inr (inr (inl (omega arith, λ h. omega (arith, h, column))))
  neighbours-near q r l m (inl (row, inr e)) =
      let same : q.1 * g.width ≡ r.1 * g.width = ap (λ n. n * g.width) row in
      let column = mod-mul-add q.1 g.width q.0 l in
      inr (inr (inr (omega arith, λ h. omega (arith, h, column))))
  neighbours-near q r l m (inr (column, inl e)) =
      let next : suc q.1 * g.width ≡ r.1 * g.width = ap (λ n. n * g.width) e in
      inl (omega arith)
  neighbours-near q r l m (inr (column, inr e)) =
      let next : suc r.1 * g.width ≡ q.1 * g.width = ap (λ n. n * g.width) e in
      inr (inl (omega arith))

  -- what is free beside a cell that is joined to the start is joined to it
  pub IsLed-step : 0 < g.width → (p r : ℕ) → IsLed g p → AreNear g p r → free_at g r ≡ true → IsLed g r
  unfolding IsLed free_at
  IsLed-step some p r led near free = AreJoined-step (free_in g) (start_of g) (cell_of g p) (cell_of g r) led (near-neighbours some p r near) free
