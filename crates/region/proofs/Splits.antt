-- Runs that are split at a cell.
use Rattle.std.proofs.Common.{◌≡◌, ℕ, zero, suc, ◌+◌, ◌<◌, ◌≤◌, ◌⊎◌, inl, inr, true, false, ◌||◌, List, [], ◌∷◌, ◌++◌, length, get_or, take, drop, drop-cons}
use Rattle.std.proofs.Common.{drop_of_length-le, append_assoc, refl, sym, ap, ◌∙◌, arith}
use Rattle.std.proofs.lemmas.Bool.{or_right}
use Rattle.std.proofs.lemmas.List.{take-append-drop}
use Rattle.std.proofs.Math.Seq.{take-append_seam, drop-append_seam}
use Rattle.std.proofs.lemmas.Bool.Decides.{nat_tests}
use Rattle.std.proofs.lemmas.List.Folds.{list_any-append}
use Rattle.region.specs.declared.runs.Run.{Run}
use Rattle.region.specs.Cells.{IsFrom}
use Rattle.region.specs.Runs.{IsMaximalRuns, EndsBefore, in_run, in_runs}
use Rattle.region.specs.Walks.{is_after, HaveEnded, EndBeforeFirst, LastsTo, AreSplitAt}
use Rattle.region.proofs.Search.{Splits, next_splits, after_cases, row_before, end_before}
use Rattle.region.proofs.Order.{EndsBeforeAll-later}

-- ---- where the runs of a prefix end
pub ended-take : (q : ℕ × ℕ) (rs : List Run) (i : ℕ) → Splits q rs i → HaveEnded q (take i rs)
ended-take q [] zero h = tt
ended-take q [] (suc i) h = tt
ended-take q (r ∷ rs) zero h = tt
ended-take q (r ∷ rs) (suc i) h = (h.0 0 r (omega arith) (omega arith), ended-take q rs i (next_splits q r rs i h))

pub lasts-drop : (q : ℕ × ℕ) (rs : List Run) (i : ℕ) → Splits q rs i → LastsTo q (drop i rs)
lasts-drop q [] zero h = tt
lasts-drop q [] (suc i) h = tt
lasts-drop q (r ∷ rs) zero h = h.1 0 r (omega arith) (omega arith)
lasts-drop q (r ∷ rs) (suc i) h = lasts-drop q rs i (next_splits q r rs i h)

-- runs of which a prefix is split are split there too, if what stands behind that prefix does not end before the cell
pub split_on : (q : ℕ × ℕ) (runs prefix rest : List Run) (w : ℕ) → AreSplitAt q (take w runs) prefix rest → LastsTo q (drop w runs)
    → AreSplitAt q runs (take (length prefix) runs) (drop (length prefix) runs)
split_on q runs prefix rest w h k = rw (
  ap (take (length prefix)) split_is,
  ap (drop (length prefix)) split_is,
  take-append_seam prefix (rest ++ drop w runs),
  drop-append_seam prefix (rest ++ drop w runs),
)
    (record { whole = split_is; ended = h.ended; lasts = lasts_on rest h.lasts })
  where
    split_is : runs ≡ prefix ++ (rest ++ drop w runs)
    split_is = sym (take-append-drop w runs) ∙ ap (λ t. t ++ drop w runs) h.whole ∙ append_assoc prefix rest (drop w runs)

    lasts_on : (rest : List Run) → LastsTo q rest → LastsTo q (rest ++ drop w runs)
    lasts_on [] h = k
    lasts_on (r ∷ rest) h = h

pub lasts_at : (q : ℕ × ℕ) (runs : List Run) (w : ℕ) (d : Run) → w < length runs → is_after q (get_or runs w d) ≡ false → LastsTo q (drop w runs)
lasts_at q runs w d l h = rw (drop-cons runs w d l) h

pub lasts_past : (q : ℕ × ℕ) (runs : List Run) (w : ℕ) → length runs ≤ w → LastsTo q (drop w runs)
lasts_past q runs w l = rw (drop_of_length-le runs l) tt

-- ---- which cells the runs of a prefix have
pub ended_out : (r : Run) (p q : ℕ × ℕ) → (p.1 < q.1) ⊎ ((p.1 ≡ q.1) × (p.0 ≤ q.0)) → is_after p r ≡ true → in_run r q ≡ false
ended_out r p q (inl h) e = later_row r p q h e
  where
    later_row : (r : Run) (p q : ℕ × ℕ) → p.1 < q.1 → is_after p r ≡ true → in_run r q ≡ false
    later_row r p q h e = grind (arith, nat_tests)
ended_out r p q (inr h) e = same_row r p q h.0 h.1 e
  where
    same_row : (r : Run) (p q : ℕ × ℕ) → p.1 ≡ q.1 → p.0 ≤ q.0 → is_after p r ≡ true → in_run r q ≡ false
    same_row r p q h k e = grind (arith, nat_tests)

-- none of them has a cell from there on
pub in_runs-ended : (rs : List Run) (p q : ℕ × ℕ) → HaveEnded p rs → IsFrom q p → in_runs rs q ≡ false
in_runs-ended [] p q h f = refl
in_runs-ended (r ∷ rs) p q h f = rw (ended_out r p q f h.0) (in_runs-ended rs p q h.1 f)

pub in_runs-append : (xs ys : List Run) (q : ℕ × ℕ) → in_runs (xs ++ ys) q ≡ (in_runs xs q || in_runs ys q)
in_runs-append xs ys q = list_any-append (λ r. in_run r q) xs ys

-- a cell of the rest is one of the runs'
pub in_runs-rest : (q p : ℕ × ℕ) (runs prefix rest : List Run) → AreSplitAt p runs prefix rest → in_runs rest q ≡ true → in_runs runs q ≡ true
in_runs-rest q p runs prefix rest h e = rw (h.whole, in_runs-append prefix rest q) (or_right (in_runs prefix q) (in_runs rest q) e)

-- and from there on the rest has each cell of the runs
pub in_runs-from : (q p : ℕ × ℕ) (runs prefix rest : List Run) → AreSplitAt p runs prefix rest → IsFrom q p → in_runs runs q ≡ in_runs rest q
in_runs-from q p runs prefix rest h f = rw (h.whole, in_runs-append prefix rest q, in_runs-ended prefix p q h.ended f) refl

-- ---- what has ended before a cell
pub is_after-later : (r : Run) (p q : ℕ × ℕ) → is_after p r ≡ true → IsFrom q p → is_after q r ≡ true
is_after-later r p q h f = by_cases (after_cases r p h) f
  where
    by_cases : (r.y < p.1) ⊎ ((r.y ≡ p.1) × (r.x + r.len ≤ p.0)) → IsFrom q p → is_after q r ≡ true
    by_cases (inl a) (inl b) = row_before r r q (omega arith)
    by_cases (inl a) (inr b) = row_before r r q (omega (arith, b.0))
    by_cases (inr a) (inl b) = row_before r r q (omega (arith, a.0))
    by_cases (inr a) (inr b) = end_before r q (a.0 ∙ b.0) (omega (arith, a.1, b.1))

pub HaveEnded-later : (rs : List Run) (p q : ℕ × ℕ) → HaveEnded p rs → IsFrom q p → HaveEnded q rs
HaveEnded-later [] p q h f = tt
HaveEnded-later (r ∷ rs) p q h f = (is_after-later r p q h.0 f, HaveEnded-later rs p q h.1 f)

pub HaveEnded-append : (xs ys : List Run) (q : ℕ × ℕ) → HaveEnded q xs → HaveEnded q ys → HaveEnded q (xs ++ ys)
HaveEnded-append [] ys q h k = k
HaveEnded-append (x ∷ xs) ys q h k = (h.0, HaveEnded-append xs ys q h.1 k)

pub HaveEnded-prefix : (xs ys : List Run) (q : ℕ × ℕ) → HaveEnded q (xs ++ ys) → HaveEnded q xs
HaveEnded-prefix [] ys q h = tt
HaveEnded-prefix (x ∷ xs) ys q h = (h.0, HaveEnded-prefix xs ys q h.1)

pub HaveEnded-back : (xs ys : List Run) (q : ℕ × ℕ) → HaveEnded q (xs ++ ys) → HaveEnded q ys
HaveEnded-back [] ys q h = h
HaveEnded-back (x ∷ xs) ys q h = HaveEnded-back xs ys q h.1

-- ---- runs one after another
pub ends_before : (x : Run) (xs : List Run) (s : Run) (ys : List Run) → IsMaximalRuns (x ∷ (xs ++ s ∷ ys)) → EndsBefore x s
ends_before x [] s ys h = h.1
ends_before x (t ∷ ts) s ys h = ends_before x ts s ys (h.0, EndsBeforeAll-later x t (ts ++ s ∷ ys) h.1 h.2, h.2.2)

pub ended_at : (x s : Run) → EndsBefore x s → is_after (s.x, s.y) x ≡ true
ended_at x s (inl h) = row_before x x (s.x, s.y) h
ended_at x s (inr h) = end_before x (s.x, s.y) h.0 (omega (arith, h.1))

pub starts_from : (x s : Run) → EndsBefore x s → IsFrom (s.x, s.y) (x.x, x.y)
starts_from x s (inl h) = inl h
starts_from x s (inr h) = inr (h.0, omega (arith, h.1))

-- the runs before a run have ended where it starts
pub before_next : (xs : List Run) (s : Run) (ys : List Run) → IsMaximalRuns (xs ++ s ∷ ys) → HaveEnded (s.x, s.y) xs
before_next [] s ys h = tt
before_next (x ∷ xs) s ys h = (ended_at x s (ends_before x xs s ys h), before_next xs s ys h.2)

before_skipped : (out xs : List Run) (s : Run) (ys : List Run) → IsMaximalRuns (xs ++ s ∷ ys) → EndBeforeFirst out (xs ++ s ∷ ys) → HaveEnded (s.x, s.y) out
before_skipped out [] s ys h e = e
before_skipped out (x ∷ xs) s ys h e = HaveEnded-later out (x.x, x.y) (s.x, s.y) e (starts_from x s (ends_before x xs s ys h))

-- what is given instead of the prefix of the runs ends before the rest
pub advanced : (out new xs ys : List Run) → IsMaximalRuns (xs ++ ys) → EndBeforeFirst out (xs ++ ys)
    → ((q : ℕ × ℕ) → HaveEnded q out → HaveEnded q xs → HaveEnded q new) → EndBeforeFirst new ys
advanced out new xs [] h e k = tt
advanced out new xs (s ∷ ys) h e k = k (s.x, s.y) (before_skipped out xs s ys h e) (before_next xs s ys h)

pub EndBeforeFirst-prefix : (out xs ys : List Run) → EndBeforeFirst out (xs ++ ys) → EndBeforeFirst out xs
EndBeforeFirst-prefix out [] ys e = tt
EndBeforeFirst-prefix out (x ∷ xs) ys e = e
