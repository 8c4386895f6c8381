-- Runs with the same cells are the same runs.
use Rattle.std.proofs.Common.{◌≡◌, ℕ, ◌+◌, ◌<◌, ◌≤◌, ◌⊎◌, inl, inr, Bool, true, false, ◌||◌, List, [], ◌∷◌, refl, sym, subst, ◌∙◌, arith}
use Rattle.std.proofs.lemmas.Bool.{or_left, or_cases}
use Rattle.std.proofs.lemmas.Bool.Decides.{nat_tests}
use Rattle.region.specs.declared.runs.Run.{Run}
use Rattle.region.specs.Runs.{IsMaximalRuns, EndsBefore, in_run, in_runs}

pub in_run-row : (t : Run) (q : ℕ × ℕ) → in_run t q ≡ true → t.y ≡ q.1
in_run-row t q h = grind (arith, nat_tests)

pub in_run-start : (t : Run) (q : ℕ × ℕ) → in_run t q ≡ true → t.x ≤ q.0
in_run-start t q h = grind (arith, nat_tests)

in_run-end : (t : Run) (q : ℕ × ℕ) → in_run t q ≡ true → q.0 < t.x + t.len
in_run-end t q h = grind (arith, nat_tests)

in_run-has : (t : Run) (x : ℕ) → t.x ≤ x → x < t.x + t.len → in_run t (x, t.y) ≡ true
in_run-has t x a b = grind (arith, nat_tests)

-- the cell stands after the run, with a cell between them
abbrev pub After : Run → ℕ × ℕ → Type 0
After r q = (r.y < q.1) ⊎ ((r.y ≡ q.1) × (r.x + r.len < q.0))

after_run : (r t : Run) (q : ℕ × ℕ) → EndsBefore r t → in_run t q ≡ true → After r q
after_run r t q (inl e) h = inl (omega (arith, in_run-row t q h))
after_run r t q (inr e) h = inr (e.0 ∙ in_run-row t q h, omega (arith, e.1, in_run-start t q h))

after_after : (r t : Run) (q : ℕ × ℕ) → EndsBefore r t → After t q → After r q
after_after r t q (inl e) (inl h) = inl (omega arith)
after_after r t q (inl e) (inr h) = inl (omega (arith, h.0))
after_after r t q (inr e) (inl h) = inl (omega (arith, e.0))
after_after r t q (inr e) (inr h) = inr (e.0 ∙ h.0, omega (arith, e.1, h.1))

-- the cells of the later runs stand after the first run
pub after : (r : Run) (rs : List Run) (q : ℕ × ℕ) → IsMaximalRuns (r ∷ rs) → in_runs rs q ≡ true → After r q
after r [] q h e = cc
after r (t ∷ ts) q h e =
    elim (or_cases (in_run t q) (in_runs ts q) e) [ inl k ↦ after_run r t q h.1 k | inr k ↦ after_after r t q h.1 (after t ts q h.2 k) ]

abbrev FromStart : Run → ℕ × ℕ → Type 0
FromStart r q = (r.y < q.1) ⊎ ((r.y ≡ q.1) × (r.x ≤ q.0))

after_from : (r : Run) (q : ℕ × ℕ) → After r q → FromStart r q
after_from r q (inl h) = inl h
after_from r q (inr h) = inr (h.0, omega (arith, h.1))

-- no cell stands before the first run's start
least : (r : Run) (rs : List Run) (q : ℕ × ℕ) → IsMaximalRuns (r ∷ rs) → in_runs (r ∷ rs) q ≡ true → FromStart r q
least r rs q h e =
    elim (or_cases (in_run r q) (in_runs rs q) e) [ inl k ↦ inr (in_run-row r q k, in_run-start r q k) | inr k ↦ after_from r q (after r rs q h k) ]

pub first_cell : (r : Run) (rs : List Run) → IsMaximalRuns (r ∷ rs) → in_runs (r ∷ rs) (r.x, r.y) ≡ true
first_cell r rs h = or_left (in_run r (r.x, r.y)) (in_runs rs (r.x, r.y)) (in_run-has r r.x (omega arith) (omega (arith, h.0.some)))

row_same : (r s : Run) → FromStart r (s.x, s.y) → FromStart s (r.x, r.y) → r.y ≡ s.y
row_same r s (inl a) (inl b) = absurd (omega arith)
row_same r s (inl a) (inr b) = absurd (omega (arith, b.0))
row_same r s (inr a) k = a.0

start_same : (r s : Run) → FromStart r (s.x, s.y) → FromStart s (r.x, r.y) → r.x ≡ s.x
start_same r s (inl a) (inl b) = absurd (omega arith)
start_same r s (inl a) (inr b) = absurd (omega (arith, b.0))
start_same r s (inr a) (inl b) = absurd (omega (arith, a.0))
start_same r s (inr a) (inr b) = omega (arith, a.1, b.1)

-- the cell just past the first run is in none
past_end : (r : Run) (rs : List Run) → IsMaximalRuns (r ∷ rs) → in_runs (r ∷ rs) (r.x + r.len, r.y) ≡ true → ⊥
past_end r rs h e =
    elim (or_cases (in_run r (r.x + r.len, r.y)) (in_runs rs (r.x + r.len, r.y)) e) [
      | inl k ↦ let less = in_run-end r (r.x + r.len, r.y) k in omega arith
      | inr k ↦ elim (after r rs (r.x + r.len, r.y) h k) [ inl m ↦ omega arith | inr m ↦ omega (arith, m.1) ]
    ]

not_longer : (r s : Run) (rs ss : List Run) → IsMaximalRuns (r ∷ rs) → r.y ≡ s.y → r.x ≡ s.x → ((q : ℕ × ℕ) → in_runs (r ∷ rs) q ≡ in_runs (s ∷ ss) q)
    → r.len < s.len → ⊥
not_longer r s rs ss h e f same l =
    let inside : in_run s (r.x + r.len, s.y) ≡ true = in_run-has s (r.x + r.len) (omega arith) (omega arith) in
    let there : in_runs (s ∷ ss) (r.x + r.len, s.y) ≡ true = or_left (in_run s (r.x + r.len, s.y)) (in_runs ss (r.x + r.len, s.y)) inside in
    past_end r rs h (subst (λ (y : ℕ). in_runs (r ∷ rs) (r.x + r.len, y) ≡ true) (sym e) (same (r.x + r.len, s.y) ∙ there))

len_same : (a b : ℕ) → (a < b → ⊥) → (b < a → ⊥) → a ≡ b
len_same a b p q = grind arith

-- a cell of the first run is in no later one
apart : (r : Run) (rs : List Run) (q : ℕ × ℕ) → IsMaximalRuns (r ∷ rs) → in_run r q ≡ true → in_runs rs q ≡ false
apart r rs q h e = by_test (in_runs rs q) refl
  where
    by_test : (b : Bool) → in_runs rs q ≡ b → in_runs rs q ≡ false
    by_test true k = elim (after r rs q h k) [
      | inl m ↦ let row = in_run-row r q e in absurd (omega arith)
      | inr m ↦ let end = in_run-end r q e in absurd (omega (arith, m.1))
    ]
    by_test false k = k

rest_same : (r : Run) (rs ss : List Run) → IsMaximalRuns (r ∷ rs) → IsMaximalRuns (r ∷ ss) → ((q : ℕ × ℕ) → in_runs (r ∷ rs) q ≡ in_runs (r ∷ ss) q)
    → (q : ℕ × ℕ) → in_runs rs q ≡ in_runs ss q
rest_same r rs ss h k same q = by_test (in_run r q) refl (same q)
  where
    by_test : (b : Bool) → in_run r q ≡ b → (in_run r q || in_runs rs q) ≡ (in_run r q || in_runs ss q) → in_runs rs q ≡ in_runs ss q
    by_test true e s = apart r rs q h e ∙ sym (apart r ss q k e)
    by_test false e s = rw e at s

-- runs with the same cells are the same runs
pub same_runs : (a b : List Run) → IsMaximalRuns a → IsMaximalRuns b → ((q : ℕ × ℕ) → in_runs a q ≡ in_runs b q) → a ≡ b
same_runs [] [] h k same = refl
same_runs [] (s ∷ ss) h k same = let e = same (s.x, s.y) in let f = first_cell s ss k in cc
same_runs (r ∷ rs) [] h k same = let e = same (r.x, r.y) in let f = first_cell r rs h in cc
same_runs (r ∷ rs) (s ∷ ss) h k same =
    let a = least r rs (s.x, s.y) h (same (s.x, s.y) ∙ first_cell s ss k) in
    let b = least s ss (r.x, r.y) k (sym (same (r.x, r.y)) ∙ first_cell r rs h) in
    let row = row_same r s a b in
    let start = start_same r s a b in
    let long = len_same r.len s.len (not_longer r s rs ss h row start same) (not_longer s r ss rs k (sym row) (sym start) (λ q. sym (same q))) in
    let first : r ≡ s = λ i. record { y = row i; x = start i; len = long i } in
    λ i. first i ∷ same_runs rs ss h.2 k.2 (rest_same s rs ss (subst (λ (t : Run). IsMaximalRuns (t ∷ rs)) first h) k
    (λ q. subst (λ (t : Run). in_runs (t ∷ rs) q ≡ in_runs (s ∷ ss) q) first (same q))) i
