-- What runs have before another run.
use Rattle.std.proofs.Common.{◌≡◌, ℕ, ◌+◌, ◌<◌, ◌≤◌, ◌⊎◌, inl, inr, Bool, true, false, not, ◌&&◌, ◌||◌, List, ◌∷◌, ◌++◌, append_assoc, refl, sym, ap, ◌∙◌}
use Rattle.std.proofs.Common.{arith, Option, Some, None, IfSome}
use Rattle.std.proofs.lemmas.Bool.Decides.{nat_tests}
use Rattle.region.specs.declared.runs.Run.{Run}
use Rattle.region.specs.Cells.{IsFrom}
use Rattle.region.specs.Runs.{IsRun, IsMaximalRuns, in_run, in_runs}
use Rattle.region.specs.Walks.{LiesWithin, is_before, is_after, HaveEnded, AreSplitAt}
use Rattle.region.proofs.Canonical.{After, after, in_run-row, in_run-start}
use Rattle.region.proofs.Search.{after_cases, row_before, end_before}
use Rattle.region.proofs.Splits.{in_runs-append, in_runs-ended, HaveEnded-later, HaveEnded-append}
use Rattle.region.proofs.Sides.{sides}

before_cases : (r : Run) (q : ℕ × ℕ) → is_before q r ≡ true → (q.1 < r.y) ⊎ ((q.1 ≡ r.y) × (q.0 < r.x))
before_cases r q h = grind (arith, nat_tests)

from_before : (t : Run) (q : ℕ × ℕ) → IsFrom q (t.x, t.y) → is_before q t ≡ false
from_before t q (inl h) = later_row t q h
  where
    later_row : (t : Run) (q : ℕ × ℕ) → t.y < q.1 → is_before q t ≡ false
    later_row t q h = grind (arith, nat_tests)
from_before t q (inr h) = same_row t q h.0 h.1
  where
    same_row : (t : Run) (q : ℕ × ℕ) → t.y ≡ q.1 → t.x ≤ q.0 → is_before q t ≡ false
    same_row t q h k = grind (arith, nat_tests)

-- what stands behind a run that lasts to t is not before t
behind_lasting : (r t : Run) (q : ℕ × ℕ) → is_after (t.x, t.y) r ≡ false → After r q → is_before q t ≡ true → ⊥
behind_lasting r t q h a b = by_cases a (before_cases t q b)
  where
    by_cases : After r q → ((q.1 < t.y) ⊎ ((q.1 ≡ t.y) × (q.0 < t.x))) → ⊥
    by_cases (inl a) (inl b) = let ended = row_before r r (t.x, t.y) (omega arith) in cc
    by_cases (inl a) (inr b) = let ended = row_before r r (t.x, t.y) (omega (arith, b.0)) in cc
    by_cases (inr a) (inl b) = let ended = row_before r r (t.x, t.y) (omega (arith, a.0)) in cc
    by_cases (inr a) (inr b) = let ended = end_before r (t.x, t.y) (a.0 ∙ b.0) (omega (arith, a.1, b.1)) in cc

pub later_none : (r : Run) (rs : List Run) (t : Run) (q : ℕ × ℕ) → IsMaximalRuns (r ∷ rs) → is_after (t.x, t.y) r ≡ false
    → (in_runs rs q && is_before q t) ≡ false
later_none r rs t q h k = by_tests (in_runs rs q) (is_before q t) refl refl
  where
    by_tests : (a b : Bool) → in_runs rs q ≡ a → is_before q t ≡ b → (a && b) ≡ false
    by_tests true true i j = absurd (behind_lasting r t q k (after r rs q h i) j)
    by_tests true false i j = refl
    by_tests false b i j = refl

first_tests : (r rs b : Bool) → (rs && b) ≡ false → (r && b) ≡ ((r || rs) && b)
first_tests true rs true h = refl
first_tests true rs false h = refl
first_tests false rs b h = sym h

-- only the first of the runs has cells before t
pub first_only : (r : Run) (rs : List Run) (t : Run) (q : ℕ × ℕ) → IsMaximalRuns (r ∷ rs) → is_after (t.x, t.y) r ≡ false
    → (in_run r q && is_before q t) ≡ (in_runs (r ∷ rs) q && is_before q t)
first_only r rs t q h k = first_tests (in_run r q) (in_runs rs q) (is_before q t) (later_none r rs t q h k)

pub within_order_of : (out : List Run) (o : Option Run) (r : Run) → IfSome o (λ p. LiesWithin p r) → HaveEnded (r.x, r.y) out
    → IfSome o (λ p. HaveEnded (p.x, p.y) out)
within_order_of out None r i h = tt
within_order_of out (Some p) r i h = HaveEnded-later out (r.x, r.y) (p.x, p.y) h (inr (sym i.row, i.start))

-- ---- runs are taken up to the end of t: those of the prefix end before it, and those that are cut do not, but end by its end
module _ (runs prefix cut near rest : List Run) (t : Run) (end : ℕ) (run : IsRun t) (end-is : end ≡ t.x + t.len)
    (first : AreSplitAt (t.x, t.y) runs prefix near) (at_end : AreSplitAt (end, t.y) near cut rest) where
  second : AreSplitAt (t.x + t.len, t.y) near cut rest
  second = rw end-is at at_end

  start_end : IsFrom (t.x + t.len, t.y) (t.x, t.y)
  start_end = inr (refl, omega arith)

  pub whole : runs ≡ prefix ++ (cut ++ rest)
  whole = first.whole ∙ ap (λ rs. prefix ++ rs) second.whole

  pub taken : AreSplitAt (t.x + t.len, t.y) runs (prefix ++ cut) rest
  taken = record {
    whole = whole ∙ sym (append_assoc prefix cut rest);
    ended = HaveEnded-append prefix cut (t.x + t.len, t.y) (HaveEnded-later prefix (t.x, t.y) (t.x + t.len, t.y) first.ended start_end) second.ended;
    lasts = second.lasts;
  }

  -- none of those of the prefix has a cell of t, nor one behind its start
  prefix_none : (q : ℕ × ℕ) → IsFrom q (t.x, t.y) → in_runs prefix q ≡ false
  prefix_none q f = in_runs-ended prefix (t.x, t.y) q first.ended f

  prefix_apart : (q : ℕ × ℕ) → (in_runs prefix q && in_run t q) ≡ false
  prefix_apart q = by_tests (in_runs prefix q) (in_run t q) refl refl
    where
      by_tests : (a b : Bool) → in_runs prefix q ≡ a → in_run t q ≡ b → (a && b) ≡ false
      by_tests true true i j = let none = prefix_none q (inr (in_run-row t q j, in_run-start t q j)) in cc
      by_tests true false i j = refl
      by_tests false b i j = refl

  -- none of those that are cut has a cell behind t
  cut_after : (q : ℕ × ℕ) → (in_runs cut q && is_after q t) ≡ false
  cut_after q = by_tests (in_runs cut q) (is_after q t) refl refl
    where
      by_tests : (a b : Bool) → in_runs cut q ≡ a → is_after q t ≡ b → (a && b) ≡ false
      by_tests true true i j = let none = in_runs-ended cut (t.x + t.len, t.y) q second.ended (after_cases t q j) in cc
      by_tests true false i j = refl
      by_tests false b i j = refl

  before_tests : (o f i r b a : Bool) → (f && not (b || a)) ≡ false → (i && a) ≡ false
      → (((o || f) || (i && b)) || (r && (b || a))) ≡ (o || ((f || (i || r)) && (b || a)))
  before_tests o f i r b a h k = grind arith

  not_not : (b : Bool) → not (not b) ≡ b
  not_not true = refl
  not_not false = refl

  -- what is given is what they have before t
  pub before_cells : (out new : List Run) (q : ℕ × ℕ) → in_runs new q ≡ ((in_runs out q || in_runs prefix q) || (in_runs cut q && is_before q t))
      → (in_runs new q || (in_runs rest q && not (in_run t q))) ≡ (in_runs out q || (in_runs runs q && not (in_run t q)))
  before_cells out new q e =
      let outside = sides t q run in
      rw (e, whole, in_runs-append prefix (cut ++ rest) q, in_runs-append cut rest q, outside, not_not (is_before q t || is_after q t))
      (before_tests (in_runs out q) (in_runs prefix q) (in_runs cut q) (in_runs rest q) (is_before q t) (is_after q t) (rw outside at (prefix_apart q))
      (cut_after q))

  pub before_none : (out new : List Run) (q : ℕ × ℕ) → in_runs new q ≡ ((in_runs out q || in_runs prefix q) || (in_runs cut q && is_before q t))
      → IsFrom q (t.x, t.y) → in_runs new q ≡ in_runs out q
  before_none out new q e f = rw (e, prefix_none q f, from_before t q f) (none (in_runs out q) (in_runs cut q))
    where
      none : (o i : Bool) → ((o || false) || (i && false)) ≡ o
      none o i = grind arith

  shared_tests : (o f i r t : Bool) → (f && t) ≡ false → ((o || (i && t)) || (r && t)) ≡ (o || ((f || (i || r)) && t))
  shared_tests o f i r t h = grind arith

  -- what is given is what they share with t
  pub shared_cells : (out new : List Run) (q : ℕ × ℕ) → in_runs new q ≡ (in_runs out q || (in_runs cut q && in_run t q))
      → (in_runs new q || (in_runs rest q && in_run t q)) ≡ (in_runs out q || (in_runs runs q && in_run t q))
  shared_cells out new q e =
      rw (e, whole, in_runs-append prefix (cut ++ rest) q, in_runs-append cut rest q)
      (shared_tests (in_runs out q) (in_runs prefix q) (in_runs cut q) (in_runs rest q) (in_run t q) (prefix_apart q))
