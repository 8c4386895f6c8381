-- The cells of a difference are in row order.
use Rattle.std.proofs.Common.{◌≡◌, ◌⊎◌, inl, inr, ℕ, zero, suc, ◌*◌, ◌/◌, ◌%◌, ◌<◌, ◌≤◌, List, [], ◌∷◌, ◌++◌, Bool, true, false, cond, nat_eq, get_or, refl, ap}
use Rattle.std.proofs.Common.{append-nil, arith}
use Rattle.std.proofs.lemmas.Bool.Decides.{nat_tests}
use Rattle.std.proofs.lemmas.Nat.{le-div}
use Rattle.map_model.specs.declared.edit.CellEdit.{CellEdit}
use Rattle.std.specs.declared.cmp.Ordering.TheVariants.{Less}
use Rattle.region.specs.Cells.{cell_cmp}
use Rattle.region.proofs.Listed.{comes_before}
use Rattle.map_model.specs.CellEdits.{AreInRowOrder, cell}
use Rattle.map_model.specs.Lists.{Each}
use Rattle.map_model.proofs.Listings.{Each-append}
use Rattle.map_model.specs.Difference.{edit_at, change_at, difference}

-- ---- one more cell
-- the first cell comes before the second one
abbrev pub ComesBefore : CellEdit → CellEdit → Type 0
ComesBefore a b = cell_cmp (cell a) (cell b) ≡ Less

AreInRowOrder-append : (es : List CellEdit) (c : CellEdit) → AreInRowOrder es → Each (λ e. ComesBefore e c) es → AreInRowOrder (es ++ c ∷ [])
AreInRowOrder-append [] c h k = (tt, tt)
AreInRowOrder-append (e ∷ []) c h k = (k.0, (tt, tt))
AreInRowOrder-append (e ∷ (f ∷ es)) c h k = (h.0, AreInRowOrder-append (f ∷ es) c h.1 k.1)

-- ---- cells by their number
-- the cell has a number below this one
pub record IsAbove (width number : ℕ) (e : CellEdit) : Type 0 where
  pub at : ℕ
  pub above : at < number
  pub column : e.x ≡ at % width
  pub row : e.y ≡ at / width

IsAbove-suc : (width number : ℕ) (es : List CellEdit) → Each (IsAbove width number) es → Each (IsAbove width (suc number)) es
IsAbove-suc width number [] h = tt
IsAbove-suc width number (e ∷ es) h = (
  record { at = h.0.at; above = omega (arith, h.0.above); column = h.0.column; row = h.0.row },
  IsAbove-suc width number es
      h.1,
)

-- two numbers in one row are as far apart as their columns
same_row : (width p q : ℕ) → 0 < width → p < q → p / width ≡ q / width → p % width < q % width
same_row width p q some l e =
    let rows : p / width * width ≡ q / width * width = ap (λ n. n * width) e in
    omega (arith, rows)

by_place : (width p q : ℕ) → 0 < width → p < q → (p / width < q / width) ⊎ ((p / width ≡ q / width) × (p % width < q % width))
by_place width p q some l =
    let down : p / width ≤ q / width = le-div (p / width) q width some (omega arith) in
    by_test (nat_eq (p / width) (q / width)) refl down
  where
    by_test : (b : Bool) → nat_eq (p / width) (q / width) ≡ b → p / width ≤ q / width
        → (p / width < q / width) ⊎ ((p / width ≡ q / width) × (p % width < q % width))
    by_test true e d = let same : p / width ≡ q / width = grind (arith, nat_tests) in inr (same, same_row width p q some l same)
    by_test false e d = inl (grind (arith, nat_tests))

ComesBefore-above : (width number before after : ℕ) (e : CellEdit) → 0 < width → IsAbove width number e → ComesBefore e (edit_at width number before after)
ComesBefore-above width number before after e some h =
    let apart : (h.at / width < number / width) ⊎ ((h.at / width ≡ number / width) × (h.at % width < number % width)) =
    by_place width h.at number some h.above in
    comes_before (cell e) (cell (edit_at width number before after)) (rw (h.column, h.row) apart)

pub Each-ComesBefore : (width number before after : ℕ) (es : List CellEdit) → 0 < width → Each (IsAbove width number) es
    → Each (λ e. ComesBefore e (edit_at width number before after)) es
Each-ComesBefore width number before after [] some h = tt
Each-ComesBefore width number before after (e ∷ es) some h =
    (ComesBefore-above width number before after e some h.0, Each-ComesBefore width number before after es some h.1)

-- ---- differences
module _ (width : ℕ) (xs ys : List ℕ) (some : 0 < width) where
  pub above : (k : ℕ) → Each (IsAbove width k) (difference width xs ys k)
  above zero = tt
  above (suc k) =
      Each-append (IsAbove width (suc k)) (difference width xs ys k) (change_at width k (get_or xs k 0) (get_or ys k 0))
      (IsAbove-suc width k (difference width xs ys k) (above k))
      (by_test (nat_eq (get_or xs k 0) (get_or ys k 0)))
    where
      by_test : (b : Bool) → Each (IsAbove width (suc k)) (cond b [] (edit_at width k (get_or xs k 0) (get_or ys k 0) ∷ []))
      by_test true = tt
      by_test false = (record { at = k; above = omega arith; column = refl; row = refl }, tt)

  ordered : (k : ℕ) → AreInRowOrder (difference width xs ys k)
  ordered zero = tt
  ordered (suc k) = by_test (nat_eq (get_or xs k 0) (get_or ys k 0)) (ordered k)
    where
      by_test : (b : Bool) → AreInRowOrder (difference width xs ys k)
          → AreInRowOrder (difference width xs ys k ++ cond b [] (edit_at width k (get_or xs k 0) (get_or ys k 0) ∷ []))
      by_test true so_far = rw append-nil so_far
      by_test false so_far =
          AreInRowOrder-append (difference width xs ys k) (edit_at width k (get_or xs k 0) (get_or ys k 0)) so_far
          (Each-ComesBefore width k (get_or xs k 0) (get_or ys k 0) (difference width xs ys k) some (above k))

pub difference-AreInRowOrder : (width : ℕ) (xs ys : List ℕ) (k : ℕ) → 0 < width → AreInRowOrder (difference width xs ys k)
difference-AreInRowOrder width xs ys k some = ordered width xs ys some k
