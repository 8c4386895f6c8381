-- The next run of a row.
use Rattle.std.proofs.Common.{◌≡◌, ℕ, ◌+◌, ◌-◌, ◌<◌, ◌≤◌, ◌⊎◌, inl, inr, max, min, Bool, true, false, ◌||◌, Option, Some, None, IfSome, IfNone, List, [], ◌∷◌}
use Rattle.std.proofs.Common.{refl, ap, ◌∙◌, subst, arith}
use Rattle.std.proofs.lemmas.Bool.Decides.{nat_tests}
use Rattle.region.specs.declared.runs.Run.{Run}
use Rattle.region.specs.Runs.{HasNone, IsMaximalRuns, IsNextRun, in_run, in_runs}
use Rattle.region.specs.Walks.{AreSplitAt, is_after}
use Rattle.region.proofs.Canonical.{After, after}
use Rattle.region.proofs.Order.{IsMaximalRuns-back}
use Rattle.region.proofs.Search.{not_later}
use Rattle.region.proofs.Splits.{in_runs-from}

pub HasNone-nothing : (runs prefix : List Run) (y from end : ℕ) → AreSplitAt (from, y) runs prefix [] → HasNone (in_runs runs) y from end
HasNone-nothing runs prefix y from end h x le lt = in_runs-from (x, y) (from, y) runs prefix [] h (inr (refl, le))

-- the rest begins with a run, and so do maximal runs
pub parted : {q : ℕ × ℕ} {runs prefix rest tail : List Run} {r : Run} → IsMaximalRuns runs → AreSplitAt q runs prefix rest → rest ≡ r ∷ tail
    → IsMaximalRuns (r ∷ tail) × AreSplitAt q runs prefix (r ∷ tail)
parted {q = q} {runs = runs} {prefix = prefix} {tail = tail} {r = r} maximal split is =
    let whole : AreSplitAt q runs prefix (r ∷ tail) = subst (AreSplitAt q runs prefix) is split in
    (IsMaximalRuns-back prefix (r ∷ tail) (subst IsMaximalRuns whole.whole maximal), whole)

-- ---- cells and one run
not_ended : (r : Run) (x y from : ℕ) → from ≤ x → is_after (from, y) r ≡ false → r.y ≡ y → from < r.x + r.len
not_ended r x y from le e row = grind (arith, nat_tests)

not_earlier : (r : Run) (y from : ℕ) → is_after (from, y) r ≡ false → y ≤ r.y
not_earlier r y from e = grind (arith, nat_tests)

left_out : (r : Run) (x y : ℕ) → r.y ≡ y → x < r.x → (in_run r (x, y) ≡ false) × (is_after (x, y) r ≡ false)
left_out r x y row l = (grind (arith, nat_tests), grind (arith, nat_tests))

below_out : (r : Run) (x y : ℕ) → y < r.y → (in_run r (x, y) ≡ false) × (is_after (x, y) r ≡ false)
below_out r x y l = (grind (arith, nat_tests), grind (arith, nat_tests))

inside : (r : Run) (x y : ℕ) → r.y ≡ y → r.x ≤ x → x < r.x + r.len → in_run r (x, y) ≡ true
inside r x y row le l = grind (arith, nat_tests)

end_out : (r : Run) (x y : ℕ) → r.x + r.len ≤ x → in_run r (x, y) ≡ false
end_out r x y l = grind (arith, nat_tests)

-- ---- cells and all runs
module _ (runs prefix tail : List Run) (r : Run) (y from : ℕ) (maximal : IsMaximalRuns (r ∷ tail)) (split : AreSplitAt (from, y) runs prefix (r ∷ tail)) where
  in_runs-at : (x : ℕ) → from ≤ x → in_runs runs (x, y) ≡ (in_run r (x, y) || in_runs tail (x, y))
  in_runs-at x le = in_runs-from (x, y) (from, y) runs prefix (r ∷ tail) split (inr (refl, le))

  none_at : (x : ℕ) → from ≤ x → (in_run r (x, y) ≡ false) × (is_after (x, y) r ≡ false) → in_runs runs (x, y) ≡ false
  none_at x le out = in_runs-at x le ∙ ap (λ b. b || in_runs tail (x, y)) out.0 ∙ not_later r tail (x, y) maximal out.1

  -- the cell behind the run
  behind : (b : Bool) → in_runs tail (r.x + r.len, y) ≡ b → r.y ≡ y → b ≡ false
  behind true e row = absurd (by_cases (after r tail (r.x + r.len, y) maximal e))
    where
      by_cases : After r (r.x + r.len, y) → ⊥
      by_cases (inl l) = omega (arith, row)
      by_cases (inr l) = omega (arith, l.1)
  behind false e row = refl

  pub HasNone-other : (end : ℕ) → (r.y ≡ y → ⊥) ⊎ ((r.y ≡ y) × (min (r.x + r.len) end ≤ max r.x from)) → HasNone (in_runs runs) y from end
  HasNone-other end (inl other) x le lt =
      let low = not_earlier r y from split.lasts in
      none_at x le (below_out r x y (grind (arith, other)))
  HasNone-other end (inr short) x le lt =
      let far = not_ended r x y from le split.lasts short.0 in
      none_at x le (left_out r x y short.0 (omega (arith, short.1)))

  pub IsNextRun-cut : (end : ℕ) → r.y ≡ y → max r.x from < min (r.x + r.len) end → (run : Run) → run.y ≡ y → run.x ≡ max r.x from
      → run.len ≡ min (r.x + r.len) end - max r.x from
      → IsNextRun (in_runs runs) y from end run
  IsNextRun-cut end row some run a b c = record {
    row = a;
    start = omega (arith, b);
    some = omega (arith, c);
    fits = omega (arith, b, c);
    before = λ x le l. none_at x le (left_out r x y row (omega (arith, b)));
    cells = λ x le l. in_runs-at x (omega (arith, b)) ∙ ap (λ t. t || in_runs tail (x, y)) (inside r x y row (omega (arith, b)) (omega (arith, b, c)));
    whole = λ l.
        let at : run.x + run.len ≡ r.x + r.len = omega (arith, b, c) in
        rw at (in_runs-at (r.x + r.len) (omega (arith, b, c)) ∙ ap (λ t. t || in_runs tail (r.x + r.len, y)) (end_out r (r.x + r.len) y (omega arith))
        ∙ behind (in_runs tail (r.x + r.len, y)) refl row);
  }

-- ---- tests that agree on each cell
module _ (f g : ℕ × ℕ → Bool) (same : (q : ℕ × ℕ) → g q ≡ f q) (y from end : ℕ) where
  pub IsNextRun-along : (o : Option Run) → IfSome o (IsNextRun f y from end) → IfSome o (IsNextRun g y from end)
  IsNextRun-along None h = tt
  IsNextRun-along (Some r) h = record {
    row = h.row;
    start = h.start;
    some = h.some;
    fits = h.fits;
    before = λ x le l. same (x, y) ∙ h.before x le l;
    cells = λ x le l. same (x, y) ∙ h.cells x le l;
    whole = λ l. same (r.x + r.len, y) ∙ h.whole l;
  }

  pub HasNone-along : (o : Option Run) → IfNone o (HasNone f y from end) → IfNone o (HasNone g y from end)
  HasNone-along None h = λ x le l. same (x, y) ∙ h x le l
  HasNone-along (Some r) h = tt
