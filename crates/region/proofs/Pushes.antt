-- Runs with one more run at the end.
use Rattle.std.proofs.Common.{◌≡◌, ℕ, zero, suc, length, get_or, ◌+◌, ◌<◌, ◌≤◌, max, ◌⊎◌, inl, inr, Bool, true, false, ◌||◌, List, [], ◌∷◌, ◌++◌, refl, sym, ap}
use Rattle.std.proofs.Common.{◌∙◌, arith}
use Rattle.std.proofs.Math.Bool.{or-false}
use Rattle.std.proofs.lemmas.Bool.Decides.{nat_tests}
use Rattle.std.proofs.lemmas.List.Folds.{list_any-append}
use Rattle.region.specs.declared.runs.Run.{Run}
use Rattle.region.specs.Runs.{IsRun, IsMaximalRuns, EndsBefore, EndsBeforeAll, in_run, in_runs}
use Rattle.region.specs.Walks.{HaveEnded, is_after}
use Rattle.region.proofs.Search.{after_cases, row_before, end_before}
use Rattle.region.proofs.Splits.{HaveEnded-append, HaveEnded-prefix, HaveEnded-back}
use Rattle.region.proofs.Order.{joined as joined_runs, appended}

pub IsMaximalRuns-last : (xs : List Run) (l : Run) → IsMaximalRuns (xs ++ l ∷ []) → IsRun l
IsMaximalRuns-last [] l h = h.0
IsMaximalRuns-last (x ∷ xs) l h = IsMaximalRuns-last xs l h.2

same_start : (r l m : Run) → m.y ≡ l.y → m.x ≡ l.x → EndsBefore r l → EndsBefore r m
same_start r l m e f (inl h) = inl (omega arith)
same_start r l m e f (inr h) = inr (h.0 ∙ sym e, omega (arith, h.1))

before_start : (r : Run) (xs : List Run) (l m : Run) → m.y ≡ l.y → m.x ≡ l.x → EndsBeforeAll r (xs ++ l ∷ []) → EndsBeforeAll r (xs ++ m ∷ [])
before_start r [] l m e f h = same_start r l m e f h
before_start r (x ∷ xs) l m e f h = h

-- the last run replaced by one that starts where it does
pub IsMaximalRuns-replace : (xs : List Run) (l m : Run) → m.y ≡ l.y → m.x ≡ l.x → IsRun m → IsMaximalRuns (xs ++ l ∷ []) → IsMaximalRuns (xs ++ m ∷ [])
IsMaximalRuns-replace [] l m e f i h = (i, tt, tt)
IsMaximalRuns-replace (x ∷ xs) l m e f i h = (h.0, before_start x xs l m e f h.1, IsMaximalRuns-replace xs l m e f i h.2)

before_push : (r : Run) (xs : List Run) (l m : Run) → EndsBeforeAll r (xs ++ l ∷ []) → EndsBeforeAll r ((xs ++ l ∷ []) ++ m ∷ [])
before_push r [] l m h = h
before_push r (x ∷ xs) l m h = h

pub IsMaximalRuns-push : (xs : List Run) (l m : Run) → IsRun m → EndsBefore l m → IsMaximalRuns (xs ++ l ∷ []) → IsMaximalRuns ((xs ++ l ∷ []) ++ m ∷ [])
IsMaximalRuns-push [] l m i b h = (h.0, b, (i, tt, tt))
IsMaximalRuns-push (x ∷ xs) l m i b h = (h.0, before_push x xs l m h.1, IsMaximalRuns-push xs l m i b h.2)

pub in_runs-push : (xs : List Run) (l : Run) (q : ℕ × ℕ) → in_runs (xs ++ l ∷ []) q ≡ (in_runs xs q || in_run l q)
in_runs-push xs l q = list_any-append (λ r. in_run r q) xs (l ∷ []) ∙ ap (λ b. in_runs xs q || b) (or-false (in_run l q))

or_assoc : (a b c : Bool) → (a || (b || c)) ≡ ((a || b) || c)
or_assoc true b c = refl
or_assoc false b c = refl

-- two runs of a row that touch or overlap
joined : (l r m : Run) (q : ℕ × ℕ) → l.y ≡ r.y → m.y ≡ l.y → m.x ≡ l.x → l.x ≤ r.x → r.x ≤ l.x + l.len → m.x + m.len ≡ max (l.x + l.len) (r.x + r.len)
    → in_run m q ≡ (in_run l q || in_run r q)
joined l r m q a b c d e f = grind (arith, nat_tests)

pub in_runs-join : (xs : List Run) (l r m : Run) (q : ℕ × ℕ) → l.y ≡ r.y → m.y ≡ l.y → m.x ≡ l.x → l.x ≤ r.x → r.x ≤ l.x + l.len
    → m.x + m.len ≡ max (l.x + l.len) (r.x + r.len) → in_runs (xs ++ m ∷ []) q ≡ (in_runs (xs ++ l ∷ []) q || in_run r q)
in_runs-join xs l r m q a b c d e f =
    in_runs-push xs m q ∙ ap (λ t. in_runs xs q || t) (joined l r m q a b c d e f) ∙ or_assoc (in_runs xs q) (in_run l q) (in_run r q)
    ∙ ap (λ t. t || in_run r q) (sym (in_runs-push xs l q))

-- ---- what a push leaves
-- the last run ends before the new one starts
module _ (xs : List Run) (l r : Run) (runs : IsMaximalRuns (xs ++ l ∷ [])) (run : IsRun r) (order : HaveEnded (r.x, r.y) (xs ++ l ∷ [])) where
  behind : (l.y < r.y) ⊎ ((l.y ≡ r.y) × (l.x + l.len ≤ r.x))
  behind = after_cases l (r.x, r.y) (HaveEnded-back xs (l ∷ []) (r.x, r.y) order).0

  last_run : IsRun l
  last_run = IsMaximalRuns-last xs l runs

  -- and they touch
  module _ (m : Run) (row : m.y ≡ l.y) (start : m.x ≡ l.x) (end : m.x + m.len ≡ max (l.x + l.len) (r.x + r.len))
      (touches : (l.y ≡ r.y) × (r.x ≤ l.x + l.len)) where
    end_first : l.x + l.len ≤ r.x
    end_first = elim behind [ inl h ↦ absurd (omega (arith, touches.0)) | inr h ↦ h.1 ]

    same_end : m.x + m.len ≡ r.x + r.len
    same_end = omega (arith, end, end_first)

    joined_run : IsRun m
    joined_run = record { some = omega (arith, same_end, start, end_first, last_run.some, run.some); fits = omega (arith, same_end, run.fits) }

    pub joins-cells : (q : ℕ × ℕ) → in_runs (xs ++ m ∷ []) q ≡ (in_runs (xs ++ l ∷ []) q || in_run r q)
    joins-cells q = in_runs-join xs l r m q touches.0 row start (omega (arith, end_first)) touches.1 end

    ends_as : (next : List Run) → EndsBeforeAll r next → EndsBeforeAll m next
    ends_as [] h = tt
    ends_as (s ∷ next) (inl h) = inl (omega (arith, row, touches.0))
    ends_as (s ∷ next) (inr h) = inr (row ∙ touches.0 ∙ h.0, omega (arith, same_end, h.1))

    pub joins-runs : (next : List Run) → IsMaximalRuns (r ∷ next) → IsMaximalRuns ((xs ++ m ∷ []) ++ next)
    joins-runs next h = appended xs m next (joined_runs xs m next (IsMaximalRuns-replace xs l m row start joined_run runs) (joined_run, ends_as next h.1, h.2))

    pub joins-ended : (q : ℕ × ℕ) → HaveEnded q (xs ++ l ∷ []) → is_after q r ≡ true → HaveEnded q (xs ++ m ∷ [])
    joins-ended q h k = HaveEnded-append xs (m ∷ []) q (HaveEnded-prefix xs (l ∷ []) q h) (ended_as (after_cases r q k), tt)
      where
        ended_as : (r.y < q.1) ⊎ ((r.y ≡ q.1) × (r.x + r.len ≤ q.0)) → is_after q m ≡ true
        ended_as (inl a) = row_before m m q (omega (arith, row, touches.0))
        ended_as (inr a) = end_before m q (row ∙ touches.0 ∙ a.0) (omega (arith, same_end, a.1))

  -- and they do not
  module _ (apart : (l.y ≡ r.y) × (r.x ≤ l.x + l.len) → ⊥) where
    ends : EndsBefore l r
    ends = elim behind [ inl h ↦ inl h | inr h ↦ elim (nat_cases r.x (l.x + l.len)) [ inl k ↦ absurd (apart (h.0, k)) | inr k ↦ inr (h.0, k) ] ]
      where
        nat_cases : (a b : ℕ) → (a ≤ b) ⊎ (b < a)
        nat_cases a b = grind arith

    pub follows-runs : (next : List Run) → IsMaximalRuns (r ∷ next) → IsMaximalRuns (((xs ++ l ∷ []) ++ r ∷ []) ++ next)
    follows-runs next h = appended (xs ++ l ∷ []) r next (joined_runs (xs ++ l ∷ []) r next (IsMaximalRuns-push xs l r run ends runs) h)

pub run_at : (a : List Run) (i : ℕ) (d : Run) → i < length a → IsMaximalRuns a → IsRun (get_or a i d)
run_at [] i d l h = absurd (omega arith)
run_at (x ∷ xs) zero d l h = h.0
run_at (x ∷ xs) (suc i) d l h = run_at xs i d (omega arith) h.2
