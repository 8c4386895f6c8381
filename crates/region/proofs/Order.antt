-- Maximal runs, runs within them, and runs that may be there.
use Rattle.std.proofs.Common.{◌≡◌, ℕ, zero, suc, inl, inr, Bool, true, false, ◌||◌, List, [], ◌∷◌, ◌++◌, append_assoc, drop, refl, ap, ◌∙◌, arith, Option, Some}
use Rattle.std.proofs.Common.{None}
use Rattle.std.proofs.Math.Seq.{drop-nil}
use Rattle.std.specs.Option.{option_to_list}
use Rattle.std.proofs.lemmas.List.Folds.{list_any-append}
use Rattle.region.specs.declared.runs.Run.{Run}
use Rattle.region.specs.Runs.{IsRun, IsMaximalRuns, EndsBefore, EndsBeforeAll, in_run, in_runs}
use Rattle.region.specs.Walks.{LiesBehind, LiesWithin, in_option}

ends_before_trans : (r s t : Run) → IsRun s → EndsBefore r s → EndsBefore s t → EndsBefore r t
ends_before_trans r s t i (inl h) (inl k) = inl (omega arith)
ends_before_trans r s t i (inl h) (inr k) = inl (omega (arith, k.0))
ends_before_trans r s t i (inr h) (inl k) = inl (omega (arith, h.0))
ends_before_trans r s t i (inr h) (inr k) = inr (h.0 ∙ k.0, omega (arith, h.1, k.1, i.some))

pub EndsBeforeAll-later : (r s : Run) (ss : List Run) → EndsBefore r s → IsMaximalRuns (s ∷ ss) → EndsBeforeAll r ss
EndsBeforeAll-later r s [] h k = tt
EndsBeforeAll-later r s (t ∷ ts) h k = ends_before_trans r s t k.0 h k.1

pub IsMaximalRuns-prefix : (xs ys : List Run) → IsMaximalRuns (xs ++ ys) → IsMaximalRuns xs
IsMaximalRuns-prefix [] ys h = tt
IsMaximalRuns-prefix (x ∷ []) ys h = (h.0, tt, tt)
IsMaximalRuns-prefix (x ∷ (y ∷ xs)) ys h = (h.0, h.1, IsMaximalRuns-prefix (y ∷ xs) ys h.2)

pub IsMaximalRuns-back : (xs ys : List Run) → IsMaximalRuns (xs ++ ys) → IsMaximalRuns ys
IsMaximalRuns-back [] ys h = h
IsMaximalRuns-back (x ∷ xs) ys h = IsMaximalRuns-back xs ys h.2

pub IsMaximalRuns-drop : (a : List Run) (i : ℕ) → IsMaximalRuns a → IsMaximalRuns (drop i a)
IsMaximalRuns-drop [] i h = rw (drop-nil {A = Run} i) tt
IsMaximalRuns-drop (x ∷ xs) zero h = h
IsMaximalRuns-drop (x ∷ xs) (suc i) h = IsMaximalRuns-drop xs i h.2

pub append_none : (xs : List Run) → xs ++ [] ≡ xs
append_none [] = refl
append_none (x ∷ xs) = ap (λ t. x ∷ t) (append_none xs)

pub in_option-list : (out : List Run) (o : Option Run) (q : ℕ × ℕ) → in_runs (out ++ option_to_list o) q ≡ (in_runs out q || in_option o q)
in_option-list out None q = ap (λ t. in_runs t q) (append_none out) ∙ or-false (in_runs out q)
  where
    or-false : (b : Bool) → b ≡ (b || false)
    or-false true = refl
    or-false false = refl
in_option-list out (Some p) q = list_any-append (λ r. in_run r q) out (p ∷ []) ∙ ap (λ t. in_runs out q || t) (or-false (in_run p q))
  where
    or-false : (b : Bool) → (b || false) ≡ b
    or-false true = refl
    or-false false = refl

pub within_run : (p r : Run) → LiesWithin p r → IsRun r → IsRun p
within_run p r i h = record { some = i.some; fits = omega (arith, i.end, h.fits) }

pub joined : (xs : List Run) (p : Run) (rs : List Run) → IsMaximalRuns (xs ++ p ∷ []) → IsMaximalRuns (p ∷ rs) → IsMaximalRuns (xs ++ p ∷ rs)
joined [] p rs h k = k
joined (x ∷ []) p rs h k = (h.0, h.1, k)
joined (x ∷ (y ∷ xs)) p rs h k = (h.0, h.1, joined (y ∷ xs) p rs h.2 k)

pub appended : (xs : List Run) (p : Run) (rs : List Run) → IsMaximalRuns (xs ++ p ∷ rs) → IsMaximalRuns ((xs ++ p ∷ []) ++ rs)
appended xs p rs h = rw append_assoc h

pub between : (t p s : Run) → IsRun t → LiesBehind t p → LiesBehind s t → p.y ≡ s.y → EndsBefore p s
between t p s i (inl h) (inl k) e = absurd (omega arith)
between t p s i (inl h) (inr k) e = absurd (omega (arith, k.0))
between t p s i (inr h) (inl k) e = absurd (omega (arith, h.0))
between t p s i (inr h) (inr k) e = inr (e, omega (arith, h.1, k.1, i.some))
