-- The cells before a run, in it and after it.
use Rattle.std.proofs.Common.{◌≡◌, ℕ, ◌+◌, ◌<◌, ◌≤◌, inl, inr, Bool, true, false, not, ◌&&◌, ◌||◌, List, ◌∷◌, refl, sym, ap, ◌∙◌, arith}
use Rattle.std.proofs.lemmas.Bool.Decides.{nat_tests}
use Rattle.region.specs.declared.runs.Run.{Run}
use Rattle.region.specs.Runs.{IsRun, IsMaximalRuns, in_run, in_runs}
use Rattle.region.specs.Walks.{is_before, is_after}
use Rattle.region.proofs.Canonical.{After, after}

-- a cell is before a run, in it, or after it
pub sides : (t : Run) (q : ℕ × ℕ) → IsRun t → in_run t q ≡ not (is_before q t || is_after q t)
sides t q i = let some = i.some in grind (arith, nat_tests)

pub one_side : (t : Run) (q : ℕ × ℕ) → IsRun t → (is_before q t && is_after q t) ≡ false
one_side t q i = let some = i.some in grind (arith, nat_tests)

after_row : (t : Run) (q : ℕ × ℕ) → t.y < q.1 → is_after q t ≡ true
after_row t q h = grind (arith, nat_tests)

after_end : (t : Run) (q : ℕ × ℕ) → t.y ≡ q.1 → t.x + t.len ≤ q.0 → is_after q t ≡ true
after_end t q h k = grind (arith, nat_tests)

pub After-is_after : (t : Run) (q : ℕ × ℕ) → After t q → is_after q t ≡ true
After-is_after t q (inl h) = after_row t q h
After-is_after t q (inr h) = after_end t q h.0 (omega (arith, h.1))

-- no later run has a cell before the first one
pub before_later : (t : Run) (ts : List Run) (q : ℕ × ℕ) → IsMaximalRuns (t ∷ ts) → (is_before q t && in_runs ts q) ≡ false
before_later t ts q h = by_tests (is_before q t) (in_runs ts q) refl refl
  where
    by_tests : (a b : Bool) → is_before q t ≡ a → in_runs ts q ≡ b → (a && b) ≡ false
    by_tests true true i j =
        let behind = After-is_after t q (after t ts q h j) in
        let no = one_side t q h.0 in
        cc (ap (λ a. a && is_after q t) (sym i) ∙ no)
    by_tests true false i j = refl
    by_tests false b i j = refl
