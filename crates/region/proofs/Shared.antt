-- What runs share with another run.
use Rattle.std.proofs.Common.{◌≡◌, ℕ, ◌+◌, ◌<◌, ◌≤◌, ◌⊎◌, inl, inr, Bool, true, false, not, ◌&&◌, ◌||◌, List, [], ◌∷◌, ◌++◌, refl, sym, ◌∙◌, arith, Option}
use Rattle.std.proofs.Common.{Some, None, IfSome}
use Rattle.region.specs.declared.runs.Run.{Run}
use Rattle.region.specs.Cells.{IsFrom}
use Rattle.region.specs.Runs.{IsRun, IsMaximalRuns, EndsBefore, in_run, in_runs}
use Rattle.region.specs.Walks.{LiesWithin, in_option, is_before, is_after, HaveEnded, IsFromFirst, EndBeforeFirst, AreSplitAt}
use Rattle.region.proofs.Before.{later_none}
use Rattle.region.proofs.Canonical.{After, after}
use Rattle.region.proofs.Search.{after_cases, row_before, end_before}
use Rattle.region.proofs.Splits.{in_runs-from, in_runs-ended, ended_out, HaveEnded-later, ended_at, starts_from, ends_before, before_next}
use Rattle.region.proofs.Sides.{sides}

within_from : (p r : Run) → LiesWithin p r → IsFrom (p.x, p.y) (r.x, r.y)
within_from p r h = inr (sym h.row, h.start)

-- what two runs share starts behind the start of each
pub shared_order : (out : List Run) (o : Option Run) (r t : Run) → IfSome o (λ p. LiesWithin p r) → IfSome o (λ p. LiesWithin p t)
    → ((q : ℕ × ℕ) → IsFrom q (t.x, t.y) → IsFrom q (r.x, r.y) → HaveEnded q out) → IfSome o (λ p. HaveEnded (p.x, p.y) out)
shared_order out None r t h k f = tt
shared_order out (Some p) r t h k f = f (p.x, p.y) (within_from p t k) (within_from p r h)

within_after : (p r : Run) (q : ℕ × ℕ) → LiesWithin p r → ((r.y < q.1) ⊎ ((r.y ≡ q.1) × (r.x + r.len ≤ q.0))) → is_after q p ≡ true
within_after p r q h (inl a) = row_before p p q (omega (arith, h.row))
within_after p r q h (inr a) = end_before p q (h.row ∙ a.0) (omega (arith, h.end, a.1))

-- what lies within a run has ended where the whole has
pub each_after : (o : Option Run) (r : Run) (q : ℕ × ℕ) → IfSome o (λ p. LiesWithin p r) → is_after q r ≡ true → IfSome o (λ p. is_after q p ≡ true)
each_after None r q h k = tt
each_after (Some p) r q h k = within_after p r q h (after_cases r q k)

-- what comes behind a run that lasts to t starts behind the start of t
lasts_from : (r s t : Run) → is_after (t.x, t.y) r ≡ false → EndsBefore r s → IsFrom (s.x, s.y) (t.x, t.y)
lasts_from r s t h e = by_cases (row_cases r.y t.y) e
  where
    row_cases : (a b : ℕ) → (a < b) ⊎ (b ≤ a)
    row_cases a b = grind arith

    no_end : r.y ≡ t.y → r.x + r.len ≤ t.x → ⊥
    no_end i j = let ended = end_before r (t.x, t.y) i j in cc

    by_columns : r.y ≡ t.y → r.y ≡ s.y → r.x + r.len < s.x → ((r.x + r.len ≤ t.x) ⊎ (t.x < r.x + r.len)) → IsFrom (s.x, s.y) (t.x, t.y)
    by_columns i j k (inl l) = absurd (no_end i l)
    by_columns i j k (inr l) = inr (sym i ∙ j, omega arith)

    columns : (a b : ℕ) → (a ≤ b) ⊎ (b < a)
    columns a b = grind arith

    in_row : (r.y < s.y) ⊎ ((r.y ≡ s.y) × (r.x + r.len < s.x)) → ((t.y < r.y) ⊎ (t.y ≡ r.y)) → IsFrom (s.x, s.y) (t.x, t.y)
    in_row (inl a) (inl b) = inl (omega arith)
    in_row (inl a) (inr b) = inl (omega arith)
    in_row (inr a) (inl b) = inl (omega (arith, a.0))
    in_row (inr a) (inr b) = by_columns (sym b) a.0 a.1 (columns (r.x + r.len) t.x)

    rows : (a b : ℕ) → b ≤ a → (b < a) ⊎ (b ≡ a)
    rows a b l = grind arith

    by_cases : (r.y < t.y) ⊎ (t.y ≤ r.y) → EndsBefore r s → IsFrom (s.x, s.y) (t.x, t.y)
    by_cases (inl a) e = let ended = row_before r r (t.x, t.y) a in absurd cc
    by_cases (inr a) e = in_row e (rows r.y t.y a)

-- ---- the first run lasts to t, and all end by its end
module _ (r : Run) (rs : List Run) (t : Run) (run : IsRun t) (runs : IsMaximalRuns (r ∷ rs)) (lasts : is_after (t.x, t.y) r ≡ false)
    (ended : HaveEnded (t.x + t.len, t.y) (r ∷ rs)) where
  within : (q : ℕ × ℕ) → in_runs rs q ≡ (in_runs rs q && in_run t q)
  within q = by_tests (in_runs rs q) (is_before q t) (is_after q t) refl refl refl
    where
      within_tests : (a b c d : Bool) → d ≡ not (b || c) → a ≡ true → b ≡ false → c ≡ false → a ≡ (a && d)
      within_tests a b c d e f g h = grind arith

      by_tests : (a b c : Bool) → in_runs rs q ≡ a → is_before q t ≡ b → is_after q t ≡ c → in_runs rs q ≡ (in_runs rs q && in_run t q)
      by_tests false b c i j k = rw i refl
      by_tests true true c i j k = let none = rw (i, j) at (later_none r rs t q runs lasts) in cc
      by_tests true false true i j k = let none = in_runs-ended rs (t.x + t.len, t.y) q ended.1 (after_cases t q k) in absurd cc
      by_tests true false false i j k = within_tests (in_runs rs q) (is_before q t) (is_after q t) (in_run t q) (sides t q run) i j k

  all_tests : (o r rs t : Bool) → rs ≡ (rs && t) → ((o || (r && t)) || rs) ≡ (o || ((r || rs) && t))
  all_tests o r rs t h = grind arith

  pub within_cells : (out o1 new : List Run) (p : Option Run) (q : ℕ × ℕ) → in_runs o1 q ≡ (in_runs out q || in_option p q)
      → in_runs new q ≡ (in_runs o1 q || in_runs rs q)
      → in_option p q ≡ (in_run r q && in_run t q) → in_runs new q ≡ (in_runs out q || (in_runs (r ∷ rs) q && in_run t q))
  within_cells out o1 new p q e f g = rw (f, e, g) (all_tests (in_runs out q) (in_run r q) (in_runs rs q) (in_run t q) (within q))

  -- what is given of the first ends before the second
  pub within_order : (out o1 : List Run) (p : Option Run) → IfSome p (λ u. LiesWithin u r)
      → ((q : ℕ × ℕ) → IsFrom q (t.x, t.y) → IsFrom q (r.x, r.y) → HaveEnded q out)
      → ((q : ℕ × ℕ) → HaveEnded q out → IfSome p (λ u. is_after q u ≡ true) → HaveEnded q o1) → EndBeforeFirst o1 rs
  within_order out o1 p h f k = by_list rs runs
    where
      by_list : (rs : List Run) → IsMaximalRuns (r ∷ rs) → EndBeforeFirst o1 rs
      by_list [] m = tt
      by_list (s ∷ ss) m = k (s.x, s.y) (f (s.x, s.y) (lasts_from r s t lasts m.1) (starts_from r s m.1)) (each_after p r (s.x, s.y) h (ended_at r s m.1))

-- ---- a run in the middle starts behind the first one
from_trans : (p q r : ℕ × ℕ) → IsFrom p q → IsFrom q r → IsFrom p r
from_trans p q r (inl a) (inl b) = inl (omega arith)
from_trans p q r (inl a) (inr b) = inl (omega (arith, b.0))
from_trans p q r (inr a) (inl b) = inl (omega (arith, a.0))
from_trans p q r (inr a) (inr b) = inr (b.0 ∙ a.0, omega (arith, a.1, b.1))

pub from_first : (xs ys : List Run) (q : ℕ × ℕ) → IsMaximalRuns (xs ++ ys) → IsFromFirst q ys → IsFromFirst q (xs ++ ys)
from_first [] ys q h f = f
from_first (x ∷ xs) [] q h f = absurd f
from_first (x ∷ xs) (s ∷ ys) q h f = from_trans q (s.x, s.y) (x.x, x.y) f (starts_from x s (ends_before x xs s ys h))

pub prefix_ended : (xs ys : List Run) (q : ℕ × ℕ) → IsMaximalRuns (xs ++ ys) → IsFromFirst q ys → HaveEnded q xs
prefix_ended xs [] q h f = absurd f
prefix_ended xs (s ∷ ys) q h f = HaveEnded-later xs (s.x, s.y) q (before_next xs s ys h) f

pub from_prefix : (xs ys : List Run) (q : ℕ × ℕ) → IsFromFirst q xs → IsFromFirst q (xs ++ ys)
from_prefix [] ys q f = absurd f
from_prefix (x ∷ xs) ys q f = f

-- ---- what the prefix of the runs shares with t has been given, so it has what it shares with all of the others, of which t is the first
module _ (out o1 runs prefix left others : List Run) (t : Run) (ts : List Run) (others-are : others ≡ t ∷ ts) (other_runs : IsMaximalRuns others)
    (split_is : AreSplitAt (t.x + t.len, t.y) runs prefix left) where
  behind_end : (q : ℕ × ℕ) → After t q → IsFrom q (t.x + t.len, t.y)
  behind_end q (inl h) = inl h
  behind_end q (inr h) = inr (h.0, omega (arith, h.1))

  not_in : (q : ℕ × ℕ) → After t q → in_run t q ≡ false
  not_in q h = ended_out t (t.x + t.len, t.y) q (behind_end q h) (end_before t (t.x + t.len, t.y) refl (omega arith))

  pub share_cells : (q : ℕ × ℕ) → (in_runs o1 q || (in_runs left q && in_run t q)) ≡ (in_runs out q || (in_runs runs q && in_run t q))
      → (in_run t q ≡ false → in_runs o1 q ≡ in_runs out q)
      → (in_runs o1 q || (in_runs left q && in_runs others q)) ≡ (in_runs out q || (in_runs runs q && in_runs others q))
  share_cells q e f = rw others-are (by_test (in_runs ts q) refl)
    where
      or-false : (b : Bool) → (b || false) ≡ b
      or-false b = grind arith

      by_test : (b : Bool) → in_runs ts q ≡ b → (in_runs o1 q || (in_runs left q && (in_run t q || b)))
          ≡ (in_runs out q || (in_runs runs q && (in_run t q || b)))
      by_test true i =
          let behind = after t ts q (rw others-are at other_runs) i in
          rw (f (not_in q behind), in_runs-from q (t.x + t.len, t.y) runs prefix left split_is (behind_end q behind)) refl
      by_test false i = rw (or-false (in_run t q)) e

pub and_turned : (o a b : Bool) → (o || (a && b)) ≡ (o || (b && a))
and_turned o true true = refl
and_turned o true false = refl
and_turned o false true = refl
and_turned o false false = refl
