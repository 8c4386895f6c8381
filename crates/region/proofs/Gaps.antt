-- What a run has apart from other runs.
use Rattle.std.proofs.Common.{◌≡◌, ℕ, ◌+◌, ◌≤◌, inl, inr, Bool, true, false, not, ◌&&◌, ◌||◌, List, [], ◌∷◌, length, refl, sym, ap, ◌∙◌, arith, Option, Some}
use Rattle.std.proofs.Common.{None, IfSome}
use Rattle.std.specs.Option.{option_to_list}
use Rattle.region.specs.declared.runs.Run.{Run}
use Rattle.region.specs.Cells.{IsFrom}
use Rattle.region.specs.Runs.{IsRun, IsMaximalRuns, EndsBefore, in_run, in_runs}
use Rattle.region.specs.Walks.{LiesBehind, LiesWithin, in_option, is_before, is_after, HaveEnded, EndBeforeFirst, AreSplitAt}
use Rattle.region.proofs.Canonical.{After, after, in_run-row, in_run-start}
use Rattle.region.proofs.Search.{row_before, end_before}
use Rattle.region.proofs.Splits.{in_runs-from, ended_out, HaveEnded-later, ended_at}
use Rattle.region.proofs.Order.{between}
use Rattle.region.proofs.Sides.{sides, one_side, before_later}

pub option_len : {A : Type 0} (o : Option A) → length (option_to_list o) ≤ 1
option_len None = omega arith
option_len (Some a) = omega arith

pub within_itself : (r : Run) → IsRun r → LiesWithin r r
within_itself r h = record { row = refl; start = omega arith; end = omega arith; some = h.some }

pub within_trans : (p r s : Run) → LiesWithin p r → LiesWithin r s → LiesWithin p s
within_trans p r s h k = record { row = h.row ∙ k.row; start = omega (arith, h.start, k.start); end = omega (arith, h.end, k.end); some = h.some }

-- what lies within a run has ended where the whole ends
pub within_ended : (p r : Run) → LiesWithin p r → is_after (r.x + r.len, r.y) p ≡ true
within_ended p r h = end_before p (r.x + r.len, r.y) h.row h.end

pub end_from : (p r : Run) → LiesWithin p r → IsFrom (r.x + r.len, r.y) (p.x, p.y)
end_from p r h = inr (h.row, omega (arith, h.end))

pub each_ended : (o : Option Run) (p r : Run) → IfSome o (λ t. LiesWithin t p) → LiesWithin p r → IfSome o (λ t. is_after (r.x + r.len, r.y) t ≡ true)
each_ended None p r h k = tt
each_ended (Some t) p r h k = within_ended t r (within_trans t p r h k)

pub end_to_start : (r : Run) (q : ℕ × ℕ) → IsFrom q (r.x + r.len, r.y) → IsFrom q (r.x, r.y)
end_to_start r q (inl h) = inl h
end_to_start r q (inr h) = inr (h.0, omega (arith, h.1))

-- what ends before the run starts has none of its cells
pub start_cells : (runs prefix rest : List Run) (r : Run) (o : Bool) (q : ℕ × ℕ) → AreSplitAt (r.x, r.y) runs prefix rest
    → (o || (in_run r q && not (in_runs rest q))) ≡ (o || (in_run r q && not (in_runs runs q)))
start_cells runs prefix rest r o q h = ap (λ b. o || b) (by_test (in_run r q) refl)
  where
    by_test : (b : Bool) → in_run r q ≡ b → (b && not (in_runs rest q)) ≡ (b && not (in_runs runs q))
    by_test true i = ap not (sym (in_runs-from q (r.x, r.y) runs prefix rest h (inr (in_run-row r q i, in_run-start r q i))))
    by_test false i = refl

cut_tests : (o r b a ts : Bool) → (b && a) ≡ false → (b && ts) ≡ false
    → ((o || (r && b)) || ((r && a) && not ts)) ≡ (o || (r && not (not (b || a) || ts)))
cut_tests o r b a ts i j = grind arith

done_tests : (o r b a ts : Bool) → (b && ts) ≡ false → (r && a) ≡ false → (o || (r && b)) ≡ (o || (r && not (not (b || a) || ts)))
done_tests o r b a ts i j = grind arith

-- r is what is left of the run, t the next of the others, and p what r has before t
module _ (o : List Run) (new : List Run) (p : Option Run) (r t : Run) (ts : List Run) (others : IsMaximalRuns (t ∷ ts))
    (pushed : (q : ℕ × ℕ) → in_runs new q ≡ (in_runs o q || in_option p q)) (before : (q : ℕ × ℕ) → in_option p q ≡ (in_run r q && is_before q t)) where
  -- and s what it has after t
  pub cut_cells : (s : Run) (q : ℕ × ℕ) → in_run s q ≡ (in_run r q && is_after q t)
      → (in_runs new q || (in_run s q && not (in_runs ts q))) ≡ (in_runs o q || (in_run r q && not (in_runs (t ∷ ts) q)))
  cut_cells s q e =
      rw (pushed q, before q, e, sides t q others.0)
      (cut_tests (in_runs o q) (in_run r q) (is_before q t) (is_after q t) (in_runs ts q) (one_side t q others.0) (before_later t ts q others))

  -- or it has nothing there
  pub done_cells : (q : ℕ × ℕ) → false ≡ (in_run r q && is_after q t) → in_runs new q ≡ (in_runs o q || (in_run r q && not (in_runs (t ∷ ts) q)))
  done_cells q e =
      rw (pushed q, before q, sides t q others.0) (done_tests (in_runs o q) (in_run r q) (is_before q t) (is_after q t) (in_runs ts q)
      (before_later t ts q others) (sym e))

-- t ends within the run that has s, which lies within it behind t
pub ended_within : (t s r : Run) → LiesBehind s t → LiesWithin s r → is_after (r.x + r.len, r.y) t ≡ true
ended_within t s r (inl h) i = row_before t t (r.x + r.len, r.y) (omega (arith, i.row))
ended_within t s r (inr h) i = end_before t (r.x + r.len, r.y) (h.0 ∙ i.row) (omega (arith, h.1, i.end))

pub gone_later : (t s r : Run) (ts : List Run) (b : Bool) (q : ℕ × ℕ) → LiesBehind s t → LiesWithin s r → IsFrom q (r.x + r.len, r.y) → in_runs (t ∷ ts) q ≡ b
    → in_runs ts q ≡ b
gone_later t s r ts b q h i f e = rw (ended_out t (r.x + r.len, r.y) q f (ended_within t s r h i)) at e

pub left_order : (out new : List Run) (p : Option Run) (r s t : Run) → IsRun t → IfSome p (λ u. LiesWithin u r) → IfSome p (λ u. LiesBehind t u)
    → LiesWithin s r → LiesBehind s t
    → HaveEnded (r.x, r.y) out → (HaveEnded (s.x, s.y) out → IfSome p (λ u. is_after (s.x, s.y) u ≡ true) → HaveEnded (s.x, s.y) new) → HaveEnded (s.x, s.y) new
left_order out new p r s t i a b c d h k = k (HaveEnded-later out (r.x, r.y) (s.x, s.y) h (inr (sym c.row, c.start))) (ended p a b)
  where
    ended : (p : Option Run) → IfSome p (λ u. LiesWithin u r) → IfSome p (λ u. LiesBehind t u) → IfSome p (λ u. is_after (s.x, s.y) u ≡ true)
    ended None a b = tt
    ended (Some u) a b = ended_at u s (between t u s i b d (a.row ∙ sym c.row))

-- ---- a step of the walk: what stands before t, the first of the cuts, has been given
module _ (out o1 runs rest cuts : List Run) (t : Run) (ts : List Run) (cuts-is : cuts ≡ t ∷ ts) (cut_runs : IsMaximalRuns cuts) where
  from_start : (q : ℕ × ℕ) → After t q → IsFrom q (t.x, t.y)
  from_start q (inl h) = inl h
  from_start q (inr h) = inr (h.0, omega (arith, h.1))

  split_tests : (n o l a t : Bool) → (n || (l && not t)) ≡ (o || (a && not t)) → (n || (l && not (t || false))) ≡ (o || (a && not (t || false)))
  split_tests n o l a true h = h
  split_tests n o l a false h = h

  same_tests : (n o l a t : Bool) → n ≡ o → (n || (l && not (t || true))) ≡ (o || (a && not (t || true)))
  same_tests n o l a t h = grind arith

  pub prefix_cells : (q : ℕ × ℕ) → (in_runs o1 q || (in_runs rest q && not (in_run t q))) ≡ (in_runs out q || (in_runs runs q && not (in_run t q)))
      → (IsFrom q (t.x, t.y) → in_runs o1 q ≡ in_runs out q)
      → (in_runs o1 q || (in_runs rest q && not (in_runs cuts q))) ≡ (in_runs out q || (in_runs runs q && not (in_runs cuts q)))
  prefix_cells q e f = rw cuts-is (by_test (in_runs ts q) refl)
    where
      by_test : (b : Bool) → in_runs ts q ≡ b → (in_runs o1 q || (in_runs rest q && not (in_run t q || b)))
          ≡ (in_runs out q || (in_runs runs q && not (in_run t q || b)))
      by_test true i = same_tests (in_runs o1 q) (in_runs out q) (in_runs rest q) (in_runs runs q) (in_run t q)
          (f (from_start q (after t ts q (rw cuts-is at cut_runs) i)))
      by_test false i = split_tests (in_runs o1 q) (in_runs out q) (in_runs rest q) (in_runs runs q) (in_run t q) e

-- and then what the first run that is left has apart from the cuts
module _ (o1 o2 left cuts rest : List Run) (r : Run) (others : List Run) (left-is : left ≡ r ∷ others) (left_runs : IsMaximalRuns (r ∷ others)) where
  from_end : (q : ℕ × ℕ) → After r q → IsFrom q (r.x + r.len, r.y)
  from_end q (inl h) = inl h
  from_end q (inr h) = inr (h.0, omega (arith, h.1))

  later_cells : (q : ℕ × ℕ) → (IsFrom q (r.x + r.len, r.y) → in_runs rest q ≡ in_runs cuts q)
      → (in_runs others q && not (in_runs rest q)) ≡ (in_runs others q && not (in_runs cuts q))
  later_cells q f = by_test (in_runs others q) refl
    where
      by_test : (b : Bool) → in_runs others q ≡ b → (b && not (in_runs rest q)) ≡ (b && not (in_runs cuts q))
      by_test true i = ap not (f (from_end q (after r others q left_runs i)))
      by_test false i = refl

  both_tests : (o r s c : Bool) → ((o || (r && not c)) || (s && not c)) ≡ (o || ((r || s) && not c))
  both_tests o r s c = grind arith

  pub gap_cells : (q : ℕ × ℕ) → in_runs o2 q ≡ (in_runs o1 q || (in_run r q && not (in_runs cuts q)))
      → (IsFrom q (r.x + r.len, r.y) → in_runs rest q ≡ in_runs cuts q)
      → (in_runs o2 q || (in_runs others q && not (in_runs rest q))) ≡ (in_runs o1 q || (in_runs left q && not (in_runs cuts q)))
  gap_cells q e f = rw (left-is, e, later_cells q f) (both_tests (in_runs o1 q) (in_run r q) (in_runs others q) (in_runs cuts q))

-- what has ended where a run ends has ended where the next one starts
pub next_order : (out : List Run) (r : Run) (rs : List Run) → IsMaximalRuns (r ∷ rs) → HaveEnded (r.x + r.len, r.y) out → EndBeforeFirst out rs
next_order out r [] h k = tt
next_order out r (s ∷ rs) h k = HaveEnded-later out (r.x + r.len, r.y) (s.x, s.y) k (from h.1)
  where
    from : EndsBefore r s → IsFrom (s.x, s.y) (r.x + r.len, r.y)
    from (inl e) = inl e
    from (inr e) = inr (e.0, omega (arith, e.1))

-- ---- a walk over two lists that gives both
either_tests : (n m o r rs t ts y z : Bool) → (n || ((r || rs) && not t)) ≡ (o || (y && not t)) → (m || (z && not r)) ≡ (n || ((t || ts) && not r))
    → (m || ((r || rs) || z)) ≡ (o || (y || (t || ts)))
either_tests n m o true rs true ts y z h k = grind arith
either_tests n m o true rs false ts y z h k = grind arith
either_tests n m o false rs true ts y z h k = grind arith
either_tests n m o false rs false ts y z h k = grind arith

-- what stands before the first run of each has been given in turn
pub either_cells : (out o1 o2 first left second rest : List Run) (r t : Run) (rs ts : List Run) (q : ℕ × ℕ) → left ≡ r ∷ rs → second ≡ t ∷ ts
    → (in_runs o1 q || (in_runs left q && not (in_run t q))) ≡ (in_runs out q || (in_runs first q && not (in_run t q)))
    → (in_runs o2 q || (in_runs rest q && not (in_run r q))) ≡ (in_runs o1 q || (in_runs second q && not (in_run r q)))
    → (in_runs o2 q || (in_runs left q || in_runs rest q)) ≡ (in_runs out q || (in_runs first q || in_runs second q))
either_cells out o1 o2 first left second rest r t rs ts q e f h k =
    rw (e, f) (either_tests (in_runs o1 q) (in_runs o2 q) (in_runs out q) (in_run r q) (in_runs rs q) (in_run t q) (in_runs ts q) (in_runs first q)
    (in_runs rest q)
    (rw e at h) (rw f at k))

last_tests : (n o y t ts : Bool) → (n || (false && not t)) ≡ (o || (y && not t)) → (n || (t || ts)) ≡ (o || (y || (t || ts)))
last_tests n o y true ts h = grind arith
last_tests n o y false ts h = grind arith

pub last_cells : (out o1 first left second : List Run) (t : Run) (ts : List Run) (q : ℕ × ℕ) → left ≡ [] → second ≡ t ∷ ts
    → (in_runs o1 q || (in_runs left q && not (in_run t q))) ≡ (in_runs out q || (in_runs first q && not (in_run t q)))
    → (in_runs o1 q || in_runs second q) ≡ (in_runs out q || (in_runs first q || in_runs second q))
last_cells out o1 first left second t ts q e f h = rw f (last_tests (in_runs o1 q) (in_runs out q) (in_runs first q) (in_run t q) (in_runs ts q) (rw e at h))
