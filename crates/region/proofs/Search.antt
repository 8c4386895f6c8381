-- Which of the runs can have a cell.
use Rattle.std.proofs.Common.{◌≡◌, ℕ, zero, suc, length, get_or, ◌+◌, ◌<◌, ◌≤◌, ◌⊎◌, inl, inr, Bool, true, false, ◌||◌, List, [], ◌∷◌, refl, ap, ◌∙◌, arith}
use Rattle.std.proofs.Math.Bool.{or-false}
use Rattle.std.specs.List.Sorted.{IsPartitionedBy, IsPartitionPoint}
use Rattle.std.proofs.lemmas.Bool.Decides.{nat_tests}
use Rattle.region.specs.declared.runs.Run.{Run}
use Rattle.region.specs.Runs.{IsMaximalRuns, EndsBefore, in_run, in_runs}
use Rattle.region.specs.Walks.{is_after}
use Rattle.region.proofs.Canonical.{after}
use Rattle.region.proofs.Order.{EndsBeforeAll-later}
use Rattle.region.proofs.Sides.{After-is_after}

pub after_cases : (r : Run) (q : ℕ × ℕ) → is_after q r ≡ true → (r.y < q.1) ⊎ ((r.y ≡ q.1) × (r.x + r.len ≤ q.0))
after_cases r q h = grind (arith, nat_tests)

pub row_before : (r s : Run) (q : ℕ × ℕ) → r.y < q.1 → is_after q r ≡ true
row_before r s q h = grind (arith, nat_tests)

pub end_before : (r : Run) (q : ℕ × ℕ) → r.y ≡ q.1 → r.x + r.len ≤ q.0 → is_after q r ≡ true
end_before r q h k = grind (arith, nat_tests)

-- what ends before a run that ends before the cell does so too
earlier_after : (r s : Run) (q : ℕ × ℕ) → EndsBefore r s → is_after q s ≡ true → is_after q r ≡ true
earlier_after r s q h k = by_cases h (after_cases s q k)
  where
    by_cases : EndsBefore r s → ((s.y < q.1) ⊎ ((s.y ≡ q.1) × (s.x + s.len ≤ q.0))) → is_after q r ≡ true
    by_cases (inl a) (inl b) = row_before r s q (omega arith)
    by_cases (inl a) (inr b) = row_before r s q (omega (arith, b.0))
    by_cases (inr a) (inl b) = row_before r s q (omega (arith, a.0))
    by_cases (inr a) (inr b) = end_before r q (a.0 ∙ b.0) (omega (arith, a.1, b.1))

ends_before_later : (r : Run) (rs : List Run) (j : ℕ) (d : Run) → IsMaximalRuns (r ∷ rs) → j < length rs → EndsBefore r (get_or rs j d)
ends_before_later r [] j d h l = absurd (omega arith)
ends_before_later r (s ∷ rs) zero d h l = h.1
ends_before_later r (s ∷ rs) (suc j) d h l = ends_before_later r rs j d (h.0, EndsBeforeAll-later r s rs h.1 h.2, h.2.2) (omega arith)

-- the runs that end before a cell stand first
pub after_partitioned : (rs : List Run) (q : ℕ × ℕ) → IsMaximalRuns rs → IsPartitionedBy (λ r. is_after q r) rs
after_partitioned [] q h i j d le l t = absurd (omega arith)
after_partitioned (r ∷ rs) q h zero zero d le l t = t
after_partitioned (r ∷ rs) q h zero (suc j) d le l t = earlier_after r (get_or rs j d) q (ends_before_later r rs j d h (omega arith)) t
after_partitioned (r ∷ rs) q h (suc i) zero d le l t = absurd (omega arith)
after_partitioned (r ∷ rs) q h (suc i) (suc j) d le l t = after_partitioned rs q h.2 i j d (omega arith) (omega arith) t

not_in : (r : Run) (q : ℕ × ℕ) → is_after q r ≡ true → in_run r q ≡ false
not_in r q h = grind (arith, nat_tests)

-- no later run has a cell that the first one has not ended before
pub not_later : (r : Run) (rs : List Run) (q : ℕ × ℕ) → IsMaximalRuns (r ∷ rs) → is_after q r ≡ false → in_runs rs q ≡ false
not_later r rs q h e = by_test (in_runs rs q) refl
  where
    by_test : (b : Bool) → in_runs rs q ≡ b → in_runs rs q ≡ false
    by_test true k = let behind = After-is_after r q (after r rs q h k) in cc
    by_test false k = k

abbrev pub Splits : ℕ × ℕ → List Run → ℕ → Type 0
Splits q rs i = IsPartitionPoint (λ r. is_after q r ≡ true) (λ r. is_after q r ≡ false) rs i

pub next_splits : (q : ℕ × ℕ) (r : Run) (rs : List Run) (i : ℕ) → Splits q (r ∷ rs) (suc i) → Splits q rs i
next_splits q r rs i h = (λ k d l u. h.0 (suc k) d (omega arith) (omega arith), λ k d l u. h.1 (suc k) d (omega arith) (omega arith))

-- only the first run that does not end before a cell can have it
pub in_runs-split : (rs : List Run) (i : ℕ) (d : Run) (q : ℕ × ℕ) → IsMaximalRuns rs → Splits q rs i → i < length rs → in_runs rs q ≡ in_run (get_or rs i d) q
in_runs-split [] i d q h s l = absurd (omega arith)
in_runs-split (r ∷ rs) zero d q h s l = ap (λ b. in_run r q || b) (not_later r rs q h (s.1 0 d (omega arith) (omega arith))) ∙ or-false (in_run r q)
in_runs-split (r ∷ rs) (suc i) d q h s l =
    ap (λ b. b || in_runs rs q) (not_in r q (s.0 0 d (omega arith) (omega arith))) ∙ in_runs-split rs i d q h.2 (next_splits q r rs i s) (omega arith)

-- and where each ends before it, none has it
pub in_runs-past : (rs : List Run) (i : ℕ) (d : Run) (q : ℕ × ℕ) → Splits q rs i → length rs ≤ i → in_runs rs q ≡ false
in_runs-past [] i d q s l = refl
in_runs-past (r ∷ rs) zero d q s l = absurd (omega arith)
in_runs-past (r ∷ rs) (suc i) d q s l =
    ap (λ b. b || in_runs rs q) (not_in r q (s.0 0 d (omega arith) (omega arith))) ∙ in_runs-past rs i d q (next_splits q r rs i s) (omega arith)
