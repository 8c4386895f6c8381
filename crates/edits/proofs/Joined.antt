-- Cells that are joined: a list of cells leads from one to the other, exactly where as many steps as there are cells do.
use Rattle.std.proofs.Common.{◌≡◌, ◌⊎◌, ◌↔◌, inl, inr, ℕ, zero, suc, ◌+◌, ◌-◌, ◌*◌, ◌/◌, ◌%◌, ◌<◌, ◌≤◌, List, [], ◌∷◌, ◌++◌, Bool, true, false, cond, ◌&&◌}
use Rattle.std.proofs.Common.{◌||◌, nat_eq, refl, sym, ap, ◌∙◌, subst, mul_comm, arith}
use Rattle.std.proofs.Math.Bool.{or-false}
use Rattle.std.specs.List.{list_any}
use Rattle.std.proofs.lemmas.Bool.{cases_lt, or_cases, and_parts, and_from, eqb-true, eq-eqb, false≢true, or_right, or_left}
use Rattle.std.proofs.lemmas.Nat.{mul-add-lt, mod-mul-add, div-mul-add}
use Rattle.edits.specs.Flooding.{count}
use Rattle.edits.specs.Joining.{AreBeside, AreNeighbours, Leads, AreJoined, beside, any_neighbour, is_reached}

any_beside : (test : ℕ → Bool) (a : ℕ) → list_any test (beside a) ≡ true → (b : ℕ) × AreBeside b a × (test b ≡ true)
any_beside test zero h = elim (or_cases (test 1) false h) [ inl e ↦ (1, inr refl, e) | inr e ↦ absurd (false≢true e) ]
any_beside test (suc a) h = elim (or_cases (test a) (test (suc (suc a)) || false) h) [
  | inl e ↦ (a, inl refl, e)
  | inr e ↦ elim (or_cases (test (suc (suc a))) false e) [ inl f ↦ (suc (suc a), inr refl, f) | inr f ↦ absurd (false≢true f) ]
]

beside_any : (test : ℕ → Bool) (a b : ℕ) → AreBeside b a → test b ≡ true → list_any test (beside a) ≡ true
beside_any test zero b (inl s) e = absurd (omega arith)
beside_any test zero b (inr s) e = or_left (test 1) false (ap test s ∙ e)
beside_any test (suc a) b (inl s) e = let same : a ≡ b = omega arith in or_left (test a) (test (suc (suc a)) || false) (ap test same ∙ e)
beside_any test (suc a) b (inr s) e = or_right (test a) (test (suc (suc a)) || false) (or_left (test (suc (suc a))) false (ap test s ∙ e))

-- the test at the column, or the row, before and behind one: before the first there is none
any_beside-by : (test : ℕ → Bool) (a before : ℕ) → (a ≡ 0 → test before ≡ false) → (0 < a → before ≡ a - 1)
    → list_any test (beside a) ≡ (test before || test (a + 1))
any_beside-by test zero before none back = or-false (test 1) ∙ ap (λ b. b || test 1) (sym (none refl))
any_beside-by test (suc a) before none back =
    let same : before ≡ a = omega (arith, back (omega arith)) in
    let next : suc a + 1 ≡ suc (suc a) = omega arith in
    ap (λ b. test a || b) (or-false (test (suc (suc a)))) ∙ ap (λ k. test k || test (suc (suc a))) (sym same) ∙ ap (λ k. test before || test k) (sym next)

pub any_neighbour-by : (test : ℕ × ℕ → Bool) (x y left up : ℕ) → (x ≡ 0 → test (left, y) ≡ false) → (0 < x → left ≡ x - 1) → (y ≡ 0 → test (x, up) ≡ false)
    → (0 < y → up ≡ y - 1)
    → any_neighbour test (x, y) ≡ ((test (left, y) || test (x + 1, y)) || (test (x, up) || test (x, y + 1)))
any_neighbour-by test x y left up first before top above =
    ap (λ b. b || list_any (λ k. test (x, k)) (beside y)) (any_beside-by (λ k. test (k, y)) x left first before)
    ∙ ap (λ b. (test (left, y) || test (x + 1, y)) || b) (any_beside-by (λ k. test (x, k)) y up top above)

-- the test holds of a neighbour
neighbour-of : (test : ℕ × ℕ → Bool) (q : ℕ × ℕ) → any_neighbour test q ≡ true → (r : ℕ × ℕ) × AreNeighbours r q × (test r ≡ true)
neighbour-of test q h = elim (or_cases (list_any (λ x. test (x, q.1)) (beside q.0)) (list_any (λ y. test (q.0, y)) (beside q.1)) h) [
  | inl e ↦ let b = any_beside (λ x. test (x, q.1)) q.0 e in ((b.0, q.1), inl (refl, b.1), b.2)
  | inr e ↦ let b = any_beside (λ y. test (q.0, y)) q.1 e in ((q.0, b.0), inr (refl, b.1), b.2)
]

any_neighbour-of : (test : ℕ × ℕ → Bool) (r q : ℕ × ℕ) → AreNeighbours r q → test r ≡ true → any_neighbour test q ≡ true
any_neighbour-of test r q (inl n) e =
    or_left (list_any (λ x. test (x, q.1)) (beside q.0)) (list_any (λ y. test (q.0, y)) (beside q.1))
    (beside_any (λ x. test (x, q.1)) q.0 r.0 n.1 (ap (λ y. test (r.0, y)) (sym n.0) ∙ e))
any_neighbour-of test r q (inr n) e =
    or_right (list_any (λ x. test (x, q.1)) (beside q.0)) (list_any (λ y. test (q.0, y)) (beside q.1))
    (beside_any (λ y. test (q.0, y)) q.1 r.1 n.1 (ap (λ x. test (x, r.1)) (sym n.0) ∙ e))

-- ---- of how many numbers a test holds
pub count-le : (test test' : ℕ → Bool) (n : ℕ) → ((k : ℕ) → k < n → test k ≡ true → test' k ≡ true) → count test n ≤ count test' n
count-le test test' zero h = omega arith
count-le test test' (suc n) h = by_test (test n) refl (count-le test test' n (λ k l e. h k (omega arith) e))
  where
    by_test : (b : Bool) → test n ≡ b → count test n ≤ count test' n → cond (test n) 1 0 + count test n ≤ cond (test' n) 1 0 + count test' n
    by_test true e l = rw (e, h n (omega arith) e) (omega arith)
    by_test false e l = rw e (omega arith)

-- it holds of one more
pub count-lt : (test test' : ℕ → Bool) (n at : ℕ) → ((k : ℕ) → k < n → test k ≡ true → test' k ≡ true) → at < n → test at ≡ false → test' at ≡ true
    → count test n < count test' n
count-lt test test' zero at h l e f = absurd (omega arith)
count-lt test test' (suc n) at h l e f = elim (cases_lt at n) [
  | inl before ↦ by_test (test n) refl (count-lt test test' n at (λ k l e. h k (omega arith) e) before e f)
  | inr here ↦ let same : at ≡ n = omega arith in
      let all = count-le test test' n (λ k l e. h k (omega arith) e) in
      let old : test n ≡ false = ap test (sym same) ∙ e in
      let new : test' n ≡ true = ap test' (sym same) ∙ f in
      rw (old, new) (omega arith)
]
  where
    by_test : (b : Bool) → test n ≡ b → count test n < count test' n → cond (test n) 1 0 + count test n < cond (test' n) 1 0 + count test' n
    by_test true e l = rw (e, h n (omega arith) e) (omega arith)
    by_test false e l = rw e (omega arith)

pub count-all : (test : ℕ → Bool) (n : ℕ) → count test n ≤ n
count-all test zero = omega arith
count-all test (suc n) = elim (test n) as (λ b. cond b 1 0 + count test n ≤ suc n)
    [ true ↦ omega (arith, count-all test n) | false ↦ omega (arith, count-all test n) ]

-- a test that one number below the end tells from another, or none does
difference_of : (test test' : ℕ → Bool) (n : ℕ) → ((k : ℕ) → k < n → test' k ≡ true → test k ≡ true) ⊎ ((k : ℕ) × (k < n) × (test k ≡ false) × (test' k ≡ true))
difference_of test test' zero = inl (λ k l e. absurd (omega arith))
difference_of test test' (suc n) = elim (difference_of test test' n) [
  | inr d ↦ inr (d.0, omega (arith, d.1), d.2, d.3)
  | inl same ↦ by_new (test' n) refl (test n) refl same
]
  where
    by_new : (b : Bool) → test' n ≡ b → (a : Bool) → test n ≡ a → ((k : ℕ) → k < n → test' k ≡ true → test k ≡ true)
        → ((k : ℕ) → k < suc n → test' k ≡ true → test k ≡ true) ⊎ ((k : ℕ) × (k < suc n) × (test k ≡ false) × (test' k ≡ true))
    by_new true e false f same = inr (n, omega arith, f, e)
    by_new true e true f same = inl (λ k l g. elim (cases_lt k n) [ inl m ↦ same k m g | inr m ↦ let here : k ≡ n = omega arith in ap test here ∙ f ])
    by_new false e a f same = inl (λ k l g. elim (cases_lt k n) [
      | inl m ↦ same k m g
      | inr m ↦ let here : k ≡ n = omega arith in absurd (false≢true (sym e ∙ ap test' (sym here) ∙ g))
    ])

-- ---- paths
module _ (free : ℕ × ℕ → Bool) where
  Leads-append : (p : ℕ × ℕ) (path : List (ℕ × ℕ)) (r q : ℕ × ℕ) → Leads free p path r → AreNeighbours r q → free q ≡ true → Leads free p (path ++ q ∷ []) q
  Leads-append p [] r q h n e = let P : ℕ × ℕ → Type 0 = λ c. AreNeighbours c q in (h.0, subst P (sym h.1) n, (e, refl))
  Leads-append p (s ∷ path) r q h n e = (h.0, h.1, Leads-append s path r q h.2 n e)

  -- one more step
  pub AreJoined-step : (p r q : ℕ × ℕ) → AreJoined free p r → AreNeighbours r q → free q ≡ true → AreJoined free p q
  AreJoined-step p r q j n e = (j.0 ++ q ∷ [], Leads-append p j.0 r q j.1 n e)

  pub AreJoined-self : (p : ℕ × ℕ) → free p ≡ true → AreJoined free p p
  AreJoined-self p e = ([], (e, refl))

  -- where a path leads, holds what the neighbours' free cells take over
  pub along_path : (P : ℕ × ℕ → Type 0) → ((r q : ℕ × ℕ) → P r → AreNeighbours r q → free q ≡ true → P q)
      → (p : ℕ × ℕ) (path : List (ℕ × ℕ)) (q : ℕ × ℕ) → Leads free p path q → P p → P q
  along_path P more p [] q h here = subst P h.1 here
  along_path P more p (r ∷ path) q h here = along_path P more r path q h.2 (more p r here h.1 (first_free r path q h.2))
    where
      first_free : (r : ℕ × ℕ) (path : List (ℕ × ℕ)) (q : ℕ × ℕ) → Leads free r path q → free r ≡ true
      first_free r [] q h = h.0
      first_free r (s ∷ path) q h = h.0

  pub end_free : (p q : ℕ × ℕ) → AreJoined free p q → free q ≡ true
  end_free p q j = last_free p j.0 q j.1
    where
      last_free : (p : ℕ × ℕ) (path : List (ℕ × ℕ)) (q : ℕ × ℕ) → Leads free p path q → free q ≡ true
      last_free p [] q h = subst (λ c. free c ≡ true) h.1 h.0
      last_free p (r ∷ path) q h = last_free r path q h.2

  pub start_free : (p q : ℕ × ℕ) → AreJoined free p q → free p ≡ true
  start_free p q ([], h) = h.0
  start_free p q (r ∷ path, h) = h.0

neighbours_turned : (p q : ℕ × ℕ) → AreNeighbours p q → AreNeighbours q p
neighbours_turned p q (inl (row, inl e)) = inl (sym row, inr e)
neighbours_turned p q (inl (row, inr e)) = inl (sym row, inl e)
neighbours_turned p q (inr (column, inl e)) = inr (sym column, inr e)
neighbours_turned p q (inr (column, inr e)) = inr (sym column, inl e)

-- a cell with no free neighbour is joined to itself alone
pub alone-joined : (free : ℕ × ℕ → Bool) (p q : ℕ × ℕ) → any_neighbour free p ≡ false → AreJoined free p q → p ≡ q
alone-joined free p q alone ([], h) = h.1
alone-joined free p q alone (r ∷ path, h) = absurd (false≢true
    (sym alone ∙ any_neighbour-of free r p (neighbours_turned p r h.1) (start_free free r q (path, h.2))))

-- ---- steps
module _ (free : ℕ × ℕ → Bool) (p : ℕ × ℕ) where
  pub reached-free : (n : ℕ) (q : ℕ × ℕ) → is_reached free p n q ≡ true → free q ≡ true
  reached-free zero q h = (and_parts (free q) (nat_eq p.0 q.0 && nat_eq p.1 q.1) h).0
  reached-free (suc n) q h = elim (or_cases (is_reached free p n q) (free q && any_neighbour (is_reached free p n) q) h) [
    | inl e ↦ reached-free n q e
    | inr e ↦ (and_parts (free q) (any_neighbour (is_reached free p n) q) e).0
  ]

  reached-step : (n : ℕ) (r q : ℕ × ℕ) → is_reached free p n r ≡ true → AreNeighbours r q → free q ≡ true → is_reached free p (suc n) q ≡ true
  reached-step n r q h e f =
      or_right (is_reached free p n q) (free q && any_neighbour (is_reached free p n) q)
      (and_from (free q) (any_neighbour (is_reached free p n) q) f (any_neighbour-of (is_reached free p n) r q e h))

  reached-more : (n k : ℕ) (q : ℕ × ℕ) → is_reached free p n q ≡ true → is_reached free p (k + n) q ≡ true
  reached-more n zero q h = let same : 0 + n ≡ n = omega arith in rw same h
  reached-more n (suc k) q h =
      let same : suc k + n ≡ suc (k + n) = omega arith in
      rw same (or_left (is_reached free p (k + n) q) (free q && any_neighbour (is_reached free p (k + n)) q) (reached-more n k q h))

  reached-joined : (n : ℕ) (q : ℕ × ℕ) → is_reached free p n q ≡ true → AreJoined free p q
  reached-joined zero q h =
      let f = and_parts (free q) (nat_eq p.0 q.0 && nat_eq p.1 q.1) h in
      let g = and_parts (nat_eq p.0 q.0) (nat_eq p.1 q.1) f.1 in
      let column = eqb-true p.0 q.0 g.0 in
      let row = eqb-true p.1 q.1 g.1 in
      let same : p ≡ q = λ i. (column i, row i) in
      ([], (ap free same ∙ f.0, same))
  reached-joined (suc n) q h = elim (or_cases (is_reached free p n q) (free q && any_neighbour (is_reached free p n) q) h) [
    | inl e ↦ reached-joined n q e
    | inr e ↦
        let f = and_parts (free q) (any_neighbour (is_reached free p n) q) e in
        let r = neighbour-of (is_reached free p n) q f.1 in
        AreJoined-step free p r.0 q (reached-joined n r.0 r.2) r.1 f.0
  ]

  -- no step leads further
  IsWhole : ℕ → Type 0
  IsWhole n = (q : ℕ × ℕ) → is_reached free p (suc n) q ≡ true → is_reached free p n q ≡ true

  module _ (w h : ℕ) (bounded : (q : ℕ × ℕ) → free q ≡ true → (q.0 < w) × (q.1 < h)) where
    at_number : ℕ → ℕ → Bool
    at_number n k = is_reached free p n (k % w, k / w)

    IsWhole-numbers : (n : ℕ) → ((k : ℕ) → k < h * w → at_number (suc n) k ≡ true → at_number n k ≡ true) → IsWhole n
    unfolding IsWhole at_number
    IsWhole-numbers n same q r =
        let b = bounded q (reached-free (suc n) q r) in
        let inside : q.1 * w + q.0 < h * w = omega (arith, mul-add-lt q.1 w q.0 h b.1 b.0, mul_comm w h) in
        let column = mod-mul-add q.1 w q.0 b.0 in
        let row = div-mul-add q.1 w q.0 b.0 in
        sym (ap (λ x. is_reached free p n (x, (q.1 * w + q.0) / w)) column ∙ ap (λ y. is_reached free p n (q.0, y)) row)
        ∙ same (q.1 * w + q.0) inside (ap (λ x. is_reached free p (suc n) (x, (q.1 * w + q.0) / w)) column ∙ ap (λ y. is_reached free p (suc n) (q.0, y)) row
        ∙ r)

    -- some number of steps below n is enough, or n cells are reached
    whole_or_more : (n : ℕ) → ((m : ℕ) × (m < n) × IsWhole m) ⊎ (n ≤ count (at_number n) (h * w))
    unfolding at_number
    whole_or_more zero = inr (omega arith)
    whole_or_more (suc n) = elim (whole_or_more n) [
      | inl s ↦ inl (s.0, omega (arith, s.1), s.2)
      | inr c ↦ elim (difference_of (at_number n) (at_number (suc n)) (h * w)) [
        | inl same ↦ inl (n, omega arith, IsWhole-numbers n same)
        | inr d ↦ inr (omega (arith, c, count-lt (at_number n) (at_number (suc n)) (h * w) d.0 remains d.1 d.2 d.3))
      ]
    ]
      where
        remains : (k : ℕ) → k < h * w → at_number n k ≡ true → at_number (suc n) k ≡ true
        remains k l e = or_left (is_reached free p n (k % w, k / w)) _ e

    whole : (m : ℕ) × (m < suc (h * w)) × IsWhole m
    whole = elim (whole_or_more (suc (h * w))) [ inl s ↦ s | inr c ↦ absurd (omega (arith, c, count-all (at_number (suc (h * w))) (h * w))) ]

    joined-reached : (q : ℕ × ℕ) → AreJoined free p q → is_reached free p (h * w) q ≡ true
    unfolding IsWhole
    joined-reached q j =
        let m = whole in
        let P : ℕ × ℕ → Type 0 = λ r. is_reached free p m.0 r ≡ true in
        let start = reached-more 0 m.0 p (and_from (free p) (nat_eq p.0 p.0 && nat_eq p.1 p.1) (start_free free p q j)
        (and_from (nat_eq p.0 p.0) (nat_eq p.1 p.1) (eq-eqb p.0 p.0 refl) (eq-eqb p.1 p.1 refl))) in
        let all : m.0 + 0 ≡ m.0 = omega arith in
        let here = along_path free P (λ r s t n f. m.2 s (reached-step m.0 r s t n f)) p j.0 q j.1 (rw all at start) in
        let more : h * w - m.0 + m.0 ≡ h * w = omega (arith, m.1) in
        rw more at (reached-more m.0 (h * w - m.0) q here)

    -- as many steps as there are cells are enough
    pub is_reached-AreJoined : (q : ℕ × ℕ) → (is_reached free p (h * w) q ≡ true) ↔ AreJoined free p q
    is_reached-AreJoined q = (reached-joined (h * w) q, joined-reached q)
