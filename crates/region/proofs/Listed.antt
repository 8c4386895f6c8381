-- The list of runs that a set has.
use Rattle.std.proofs.Common.{◌≡◌, ℕ, zero, suc, ◌+◌, ◌<◌, ◌≤◌, ◌⊎◌, inl, inr, Bool, true, false, ◌&&◌, nat_eq, List, [], ◌∷◌, ◌++◌, refl, sym, ap, subst, ◌∙◌}
use Rattle.std.proofs.Common.{arith}
use Rattle.std.specs.FinSet as set
use Rattle.std.specs.declared.cmp.Ordering.TheVariants.{Less}
use Rattle.std.specs.Bool.{Decides}
use Rattle.std.specs.Cmp.{first_so, second_so}
use Rattle.std.proofs.lemmas.Bool.Decides.{nat_tests}
use Rattle.region.specs.declared.runs.Run.{Run}
use Rattle.region.specs.Cells.{cell_cmp, row_cells, cells_of, set_of, ComesBeforeAll, IsInRowOrder}
use Rattle.region.specs.Equality.{cell_cmp_total, same_cells}
use Rattle.region.specs.Runs.{IsMaximalRuns, EndsBeforeAll, in_runs}
use Rattle.region.proofs.Canonical.{same_runs}
use Rattle.region.proofs.Members.{cell_cmp-same, contains-set_of}

-- ---- the cells of the runs stand in row order
-- a cell in an earlier row, or in an earlier column of the same row, comes before another
pub comes_before : (p q : ℕ × ℕ) → (p.1 < q.1) ⊎ ((p.1 ≡ q.1) × (p.0 < q.0)) → cell_cmp p q ≡ Less
comes_before p q h = by_cases h
  where
    by_row : (p q : ℕ × ℕ) → p.1 < q.1 → cell_cmp p q ≡ Less
    by_row p q h = grind (arith, nat_tests)

    by_column : (p q : ℕ × ℕ) → p.1 ≡ q.1 → p.0 < q.0 → cell_cmp p q ≡ Less
    by_column p q h k = grind (arith, nat_tests)

    by_cases : (p.1 < q.1) ⊎ ((p.1 ≡ q.1) × (p.0 < q.0)) → cell_cmp p q ≡ Less
    by_cases (inl h) = by_row p q h
    by_cases (inr h) = by_column p q h.0 h.1

-- the cells stand behind a column of a row
abbrev From : ℕ → ℕ → List (ℕ × ℕ) → Type 0
From y e [] = Unit {0}
From y e (q ∷ qs) = (y < q.1) ⊎ ((y ≡ q.1) × (e ≤ q.0))

later_column : (y d e : ℕ) (qs : List (ℕ × ℕ)) → d ≡ e → From y d qs → From y e qs
later_column y d e qs h = subst (λ (n : ℕ). From y n qs) h

before_from : (x y : ℕ) (qs : List (ℕ × ℕ)) → From y (x + 1) qs → ComesBeforeAll (x, y) qs
before_from x y [] h = tt
before_from x y (q ∷ qs) (inl h) = comes_before (x, y) q (inl h)
before_from x y (q ∷ qs) (inr h) = comes_before (x, y) q (inr (h.0, omega (arith, h.1)))

row_in_order : (y x n : ℕ) (qs : List (ℕ × ℕ)) → From y (x + n) qs → IsInRowOrder qs → IsInRowOrder (row_cells y x n ++ qs)
row_in_order y x zero qs f h = h
row_in_order y x (suc zero) qs f h = (before_from x y qs f, h)
row_in_order y x (suc (suc n)) qs f h = (
  comes_before (x, y) (suc x, y) (inr (refl, omega arith)),
  row_in_order y (suc x) (suc n) qs (later_column y (x + suc (suc n)) (suc x + suc n) qs (omega arith) f) h,
)

row_from : (y e v x n : ℕ) (qs : List (ℕ × ℕ)) → 1 ≤ n → (y < v) ⊎ ((y ≡ v) × (e ≤ x)) → From y e (row_cells v x n ++ qs)
row_from y e v x zero qs l h = absurd (omega arith)
row_from y e v x (suc n) qs l h = h

cells_from : (r : Run) (rs : List Run) → EndsBeforeAll r rs → IsMaximalRuns rs → From r.y (r.x + r.len) (cells_of rs)
cells_from r [] b h = tt
cells_from r (s ∷ rs) (inl b) h = row_from r.y (r.x + r.len) s.y s.x s.len (cells_of rs) h.0.some (inl b)
cells_from r (s ∷ rs) (inr b) h = row_from r.y (r.x + r.len) s.y s.x s.len (cells_of rs) h.0.some (inr (b.0, omega (arith, b.1)))

pub cells_in_order : (rs : List Run) → IsMaximalRuns rs → IsInRowOrder (cells_of rs)
cells_in_order [] h = tt
cells_in_order (r ∷ rs) h = row_in_order r.y r.x r.len (cells_of rs) (cells_from r rs h.1 h.2) (cells_in_order rs h.2)

-- ---- equal sets have equal runs
pub set_of-same : (a b : List Run) → IsMaximalRuns a → IsMaximalRuns b → set_of a ≡ set_of b → a ≡ b
set_of-same a b h k e = same_runs a b h k (λ q. sym (contains-set_of a q) ∙ ap (λ s. set.contains s q) e ∙ contains-set_of b q)

pub set_of-empty : (rs : List Run) → IsMaximalRuns rs → set_of rs ≡ set.empty → rs ≡ []
set_of-empty rs h e = set_of-same rs [] h tt e

-- a set with the cells of the runs is theirs
pub set_of-is : (rs : List Run) (s : set.FinSet cell_cmp) → ((q : ℕ × ℕ) → in_runs rs q ≡ set.contains s q) → set_of rs ≡ s
set_of-is rs s h = set.same_set cell_cmp_total cell_cmp-same (set_of rs) s (λ q. contains-set_of rs q ∙ h q)

-- ---- equality of sets
both_ways : (a b : Bool) → (a ≡ true → b ≡ true) → (b ≡ true → a ≡ true) → a ≡ b
both_ways true true h k = refl
both_ways true false h k = sym (h refl)
both_ways false true h k = k refl
both_ways false false h k = refl

both_true : (a b : Bool) → a ≡ true → b ≡ true → (a && b) ≡ true
both_true a b h k = rw (h, k) refl

pub same_cells-Decides : (s t : set.FinSet cell_cmp) → Decides (same_cells s t) (s ≡ t)
same_cells-Decides s t = (
  λ h. set.same_set cell_cmp_total cell_cmp-same s t (λ q. both_ways (set.contains s q) (set.contains t q)
      (set.is_subset-contains cell_cmp_total s t (first_so (set.is_subset s t) (set.is_subset t s) h) q)
      (set.is_subset-contains cell_cmp_total t s (second_so (set.is_subset s t) (set.is_subset t s) h) q)),
  λ e. both_true (set.is_subset s t) (set.is_subset t s)
      (set.contains-is_subset cell_cmp_total s t (λ q h. ap (λ u. set.contains u q) (sym e) ∙ h))
      (set.contains-is_subset cell_cmp_total t s (λ q h. ap (λ u. set.contains u q) e ∙ h)),
)

-- ---- equality of runs
same_run : (a b : Run) → a.y ≡ b.y → a.x ≡ b.x → a.len ≡ b.len → a ≡ b
same_run a b row start long = λ i. record { y = row i; x = start i; len = long i }

fields_same : (y v x u l m : ℕ) → (nat_eq y v && (nat_eq x u && nat_eq l m)) ≡ true → (y ≡ v) × (x ≡ u) × (l ≡ m)
fields_same y v x u l m h = (grind (arith, nat_tests), grind (arith, nat_tests), grind (arith, nat_tests))

same_fields : (y v x u l m : ℕ) → y ≡ v → x ≡ u → l ≡ m → (nat_eq y v && (nat_eq x u && nat_eq l m)) ≡ true
same_fields y v x u l m a b c = grind (arith, nat_tests)

pub run_eq-Decides : (a b : Run) → Decides (nat_eq a.y b.y && (nat_eq a.x b.x && nat_eq a.len b.len)) (a ≡ b)
run_eq-Decides a b = (
  λ h. let same = fields_same a.y b.y a.x b.x a.len b.len h in same_run a b same.0 same.1 same.2,
  λ e. same_fields a.y b.y a.x b.x a.len b.len (ap (λ r. r.y) e) (ap (λ r. r.x) e) (ap (λ r. r.len) e),
)
