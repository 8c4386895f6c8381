-- The changes of a layer, cell by cell, in the extent of an edit.
use Rattle.std.proofs.Common.{◌≡◌, ◌⊎◌, inl, inr, ℕ, zero, suc, ◌+◌, ◌-◌, ◌*◌, ◌/◌, ◌%◌, ◌<◌, ◌≤◌, List, [], ◌∷◌, ◌++◌, length, Bool, true, false, cond, ◌||◌}
use Rattle.std.proofs.Common.{nat_eq, get_or, Option, None, add-zero, add-suc, refl, sym, ap, ◌∙◌, arith}
use Rattle.std.specs.FinSet as set
use Rattle.std.proofs.lemmas.Bool.Decides.{nat_tests}
use Rattle.std.proofs.lemmas.Nat.{mul-add-lt, mod-mul-add, div-mul-add}
use Rattle.region.specs.Cells.{cell_cmp}
use Rattle.map_model.specs.declared.edit.CellEdit.{CellEdit}
use Rattle.edits.specs.declared.extent.Extent.{Extent}
use Rattle.edits.specs.Covering.{covered, covered_value, lets_change, where_selected}
use Rattle.map_model.specs.Difference.{change_at}
use Rattle.edits.specs.Laying.{IsExtent, changes_below, changed_to}
use Rattle.edits.proofs.Differences.{difference-skip, get_or-each_at}

-- ---- selections
pub lets_change-empty : (s : set.FinSet cell_cmp) → s ≡ set.empty → (q : ℕ × ℕ) → lets_change s q ≡ true
lets_change-empty s e q = ap (λ t. nat_eq (set.len t) 0 || set.contains t q) e
    ∙ ap (λ n. nat_eq n 0 || set.contains (set.empty {R = cell_cmp}) q) (set.len-empty cell_cmp)

pub lets_change-some : (s : set.FinSet cell_cmp) → (s ≡ set.empty → ⊥) → (q : ℕ × ℕ) → lets_change s q ≡ set.contains s q
lets_change-some s some q = by_test (nat_eq (set.len s) 0) refl
  where
    by_test : (b : Bool) → nat_eq (set.len s) 0 ≡ b → (b || set.contains s q) ≡ set.contains s q
    by_test true e = absurd (some (set.empty_of_len s (grind (arith, nat_tests))))
    by_test false e = refl

-- an element of the list is the same, whatever is read past its end
get_or-default : (xs : List ℕ) (k d e : ℕ) → k < length xs → get_or xs k d ≡ get_or xs k e
get_or-default [] k d e l = absurd (omega arith)
get_or-default (x ∷ xs) zero d e l = refl
get_or-default (x ∷ xs) (suc k) d e l = get_or-default xs k d e (omega arith)

-- ---- cells of a covered layer
pub get_or-covered : (w x y : ℕ) (over : ℕ → ℕ → Option ℕ) (vs : List ℕ) → x < w → y * w + x < length vs
    → get_or (covered w over vs) (y * w + x) 0 ≡ covered_value (over x y) (get_or vs (y * w + x) 0)
get_or-covered w x y over vs l m =
    get_or-each_at (λ number old. covered_value (over (number % w) (number / w)) old) vs (y * w + x) m
    ∙ ap (λ n. covered_value (over n ((y * w + x) / w)) (get_or vs (y * w + x) 0)) (mod-mul-add y w x l)
    ∙ ap (λ n. covered_value (over x n) (get_or vs (y * w + x) 0)) (div-mul-add y w x l)

in_layer : (w x y n size : ℕ) → size ≡ n * w → x < w → y < n → y * w + x < size
in_layer w x y n size e l m = let k = mul-add-lt y w x n m l in omega arith

module _ (over : ℕ → ℕ → Option ℕ) (r : Extent) (h : IsExtent over r) where
  pub cell-within : (x y : ℕ) → x < r.width → y < h.layer.height → y * r.width + x < length r.tiles.now
  cell-within x y a b = in_layer r.width x y h.layer.height (length r.tiles.now) h.layer.size a b

  -- one more cell
  pub changes-cell : (x y : ℕ) → x < r.width → y < h.layer.height
      → changes_below over r (suc (y * r.width + x)) ≡ changes_below over r (y * r.width + x)
      ++ changed_to x y (get_or r.tiles.now (y * r.width + x) 0) (where_selected r.selection.now over x y)
  changes-cell x y a b =
      let before = get_or r.tiles.now (y * r.width + x) 0 in
      let after = covered_value (where_selected r.selection.now over x y) before in
      ap (λ ds. changes_below over r (y * r.width + x) ++ ds) (
      ap (change_at r.width (y * r.width + x) before) (get_or-covered r.width x y (where_selected r.selection.now over) r.tiles.now a (cell-within x y a b))
      ∙ ap (λ (es : List CellEdit). cond (nat_eq before after) [] es)
      (λ i. record { x = mod-mul-add y r.width x a i; y = div-mul-add y r.width x a i; before = before; after = after } ∷ [])
      )

  -- columns over which nothing lies add nothing
  pub changes-columns : (y a n : ℕ) → y < h.layer.height → a + n ≤ r.width → ((x : ℕ) → a ≤ x → x < a + n → where_selected r.selection.now over x y ≡ None)
      → changes_below over r (y * r.width + (a + n)) ≡ changes_below over r (y * r.width + a)
  changes-columns y a n b le none =
      let all : y * r.width + a + n ≡ y * r.width + (a + n) = omega arith in
      ap (changes_below over r) (sym all)
      ∙ difference-skip r.width r.tiles.now (covered r.width (where_selected r.selection.now over) r.tiles.now) (y * r.width + a) n
      (λ i l.
      let at : y * r.width + a + i ≡ y * r.width + (a + i) = omega arith in
      let column : a + i < r.width = omega arith in
      rw at (get_or-covered r.width (a + i) y (where_selected r.selection.now over) r.tiles.now column (cell-within (a + i) y column b)
      ∙ ap (λ o. covered_value o (get_or r.tiles.now (y * r.width + (a + i)) 0)) (none (a + i) (omega arith) (omega arith))))

  changes-gap : (y a b : ℕ) → y < h.layer.height → a ≤ b → b ≤ r.width → ((x : ℕ) → a ≤ x → x < b → where_selected r.selection.now over x y ≡ None)
      → changes_below over r (y * r.width + b) ≡ changes_below over r (y * r.width + a)
  changes-gap y a b e le m none =
      let all : a + (b - a) ≡ b = omega arith in
      ap (λ n. changes_below over r (y * r.width + n)) (sym all) ∙ changes-columns y a (b - a) e (omega arith) (λ x k l. none x k (omega arith))

  nothing-over : (x y : ℕ) → over x y ≡ None → where_selected r.selection.now over x y ≡ None
  nothing-over x y e = by_test (lets_change r.selection.now (x, y))
    where
      by_test : (b : Bool) → cond b (over x y) None ≡ None
      by_test true = e
      by_test false = refl

  not_selected : (x y : ℕ) → lets_change r.selection.now (x, y) ≡ false → where_selected r.selection.now over x y ≡ None
  not_selected x y e = ap (λ b. cond b (over x y) None) e

  selected : (x y : ℕ) → lets_change r.selection.now (x, y) ≡ true → where_selected r.selection.now over x y ≡ over x y
  selected x y e = ap (λ b. cond b (over x y) None) e

  -- one more cell that may be changed
  pub changes-next : (x y before d : ℕ) (o : Option ℕ) (cells more : List CellEdit) → x < r.width → y < h.layer.height
      → lets_change r.selection.now (x, y) ≡ true
      → before ≡ get_or r.tiles.now (y * r.width + x) d → o ≡ over x y → cells ≡ changes_below over r (y * r.width + x)
      → more ≡ cells ++ changed_to x y before o
      → more ≡ changes_below over r (y * r.width + (x + 1))
  changes-next x y before d o cells more column row e was is so_far step =
      let at = y * r.width + x in
      let next : suc at ≡ y * r.width + (x + 1) = omega arith in
      step
      ∙ ap (λ es. es ++ changed_to x y before o) so_far
      ∙ ap (λ v. changes_below over r at ++ changed_to x y v o) (was ∙ get_or-default r.tiles.now at d 0 (cell-within x y column row))
      ∙ ap (λ p. changes_below over r at ++ changed_to x y (get_or r.tiles.now at 0) p) (is ∙ sym (selected x y e))
      ∙ sym (changes-cell x y column row)
      ∙ ap (changes_below over r) next

  -- columns that may not be changed add nothing
  pub changes-unselected : (y a b : ℕ) → y < h.layer.height → a ≤ b → b ≤ r.width → ((x : ℕ) → a ≤ x → x < b → lets_change r.selection.now (x, y) ≡ false)
      → changes_below over r (y * r.width + b) ≡ changes_below over r (y * r.width + a)
  changes-unselected y a b e le m none = changes-gap y a b e le m (λ x k l. not_selected x y (none x k l))

  -- nor do the columns before the first of the extent, and those behind the last
  pub changes-left : (y : ℕ) → y < h.layer.height → changes_below over r (y * r.width + r.columns.first) ≡ changes_below over r (y * r.width)
  changes-left y e =
      let none : y * r.width + 0 ≡ y * r.width = omega arith in
      changes-gap y 0 r.columns.first e (omega arith) (omega (arith, h.columns, h.columns_within))
      (λ x k l. nothing-over x y (h.other_columns x y (omega (arith, h.columns, h.columns_within)) (inl l)))
      ∙ ap (changes_below over r) none

  pub changes-right : (y : ℕ) → y < h.layer.height → changes_below over r (y * r.width + r.width) ≡ changes_below over r (y * r.width + r.columns.end)
  changes-right y e = changes-gap y r.columns.end r.width e h.columns_within (omega arith) (λ x k l. nothing-over x y (h.other_columns x y l (inr k)))

  -- nor do other rows
  other-row : (y : ℕ) → y < h.layer.height → (y < r.rows.first) ⊎ (r.rows.end ≤ y) → changes_below over r (suc y * r.width) ≡ changes_below over r (y * r.width)
  other-row y e other =
      let all : suc y * r.width ≡ y * r.width + r.width = omega arith in
      let none : y * r.width + 0 ≡ y * r.width = omega arith in
      ap (changes_below over r) all ∙ changes-gap y 0 r.width e (omega arith) (omega arith) (λ x k l. nothing-over x y (h.other_rows x y e other))
      ∙ ap (changes_below over r) none

  other-rows : (k n : ℕ) → k + n ≤ h.layer.height → ((y : ℕ) → k ≤ y → y < k + n → (y < r.rows.first) ⊎ (r.rows.end ≤ y))
      → changes_below over r ((k + n) * r.width) ≡ changes_below over r (k * r.width)
  other-rows k zero e other = rw add-zero refl
  other-rows k (suc n) e other =
      rw (add-suc k n) (other-row (k + n) (omega arith) (other (k + n) (omega arith) (omega arith))
      ∙ other-rows k n (omega arith) (λ y a b. other y a (omega arith)))

  pub changes-above : [] ≡ changes_below over r (r.rows.first * r.width)
  changes-above =
      let start : 0 ≡ 0 * r.width = omega arith in
      let first : 0 + r.rows.first ≡ r.rows.first = omega arith in
      ap (changes_below over r) start ∙ sym (other-rows 0 r.rows.first (omega (arith, h.rows, h.rows_within)) (λ y a b. inl (omega arith)))
      ∙ ap (λ n. changes_below over r (n * r.width)) first

  pub changes-all : changes_below over r (r.rows.end * r.width) ≡ changes_below over r (length r.tiles.now)
  changes-all =
      let all : r.rows.end + (h.layer.height - r.rows.end) ≡ h.layer.height = omega (arith, h.rows_within) in
      sym (other-rows r.rows.end (h.layer.height - r.rows.end) (omega arith) (λ y a b. inr a)) ∙ ap (λ n. changes_below over r (n * r.width)) all
      ∙ ap (changes_below over r) (sym h.layer.size)

  -- one cell
  pub changes-before_one : r.rows.first < h.layer.height → [] ≡ changes_below over r (r.rows.first * r.width + r.columns.first)
  changes-before_one row = changes-above ∙ sym (changes-left r.rows.first row)

  pub changes-of_one : r.columns.end ≡ r.columns.first + 1 → r.rows.end ≡ r.rows.first + 1
      → changes_below over r (r.rows.first * r.width + (r.columns.first + 1)) ≡ changes_below over r (length r.tiles.now)
  changes-of_one column row =
      let y = r.rows.first in
      let all : r.rows.end * r.width ≡ y * r.width + r.width = ap (λ n. n * r.width) row
      ∙ (let next : (y + 1) * r.width ≡ y * r.width + r.width = omega arith in next) in
      ap (λ n. changes_below over r (y * r.width + n)) (sym column) ∙ sym (changes-right y (omega (arith, row, h.rows_within)))
      ∙ ap (changes_below over r) (sym all) ∙ changes-all
