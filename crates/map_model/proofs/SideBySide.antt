-- Changed cells that stand side by side, and cells that all get one value.
use Rattle.std.proofs.Common.{◌≡◌, ◌⊎◌, inl, inr, ℕ, zero, suc, ◌+◌, ◌*◌, ◌-◌, ◌<◌, ◌≤◌, List, [], ◌∷◌, length, take, drop, get_or, refl, sym, ap, subst, ◌∙◌}
use Rattle.std.proofs.Common.{arith, add-one, length-set}
use Rattle.std.proofs.lemmas.Bool.Decides.{nat_tests}
use Rattle.std.specs.List.{slice_set}
use Rattle.std.specs.declared.cmp.Ordering.TheVariants.{Less}
use Rattle.region.specs.Cells.{cell_cmp}
use Rattle.map_model.specs.declared.edit.CellEdit.{CellEdit}
use Rattle.map_model.specs.declared.edit.Side.{Side}
use Rattle.map_model.specs.declared.edit.Side.TheVariants.{Before, After}
use Rattle.map_model.specs.Lists.{Each}
use Rattle.map_model.specs.Alike.{AreAlike, AreSideBySide, HasValuesOf, fill_values}
use Rattle.map_model.specs.CellEdits.{AreInRowOrder, HaveRange, IsBelow, cell, cell_number, put_values, side_value}
use Rattle.map_model.specs.WellFormed.{IsTileValue}

-- ---- cells in row order
-- the second cell stands so many columns or more behind the first one in its row, or in a later row
abbrev IsBehind : ℕ → CellEdit → CellEdit → Type 0
IsBehind n e f = (e.y < f.y) ⊎ ((e.y ≡ f.y) × (e.x + n ≤ f.x))

before-behind : (e f : CellEdit) → cell_cmp (cell e) (cell f) ≡ Less → IsBehind 1 e f
before-behind e f h = grind (arith, nat_tests)

behind_more : (n : ℕ) (e f g : CellEdit) → IsBehind 1 e f → IsBehind n f g → IsBehind (suc n) e g
behind_more n e f g (inl h) (inl k) = inl (omega arith)
behind_more n e f g (inl h) (inr k) = inl (omega (arith, k.0))
behind_more n e f g (inr h) (inl k) = inl (omega (arith, h.0))
behind_more n e f g (inr h) (inr k) = inr (h.0 ∙ k.0, omega (arith, h.1, k.1))

behind-same : (e : CellEdit) → IsBehind 0 e e
behind-same e = inr (refl, omega arith)

-- the cell at an index stands so many columns behind the first one, or in a later row
behind_at : (e : CellEdit) (es : List CellEdit) (k : ℕ) (d : CellEdit) → AreInRowOrder (e ∷ es) → k < length (e ∷ es) → IsBehind k e (get_or (e ∷ es) k d)
behind_at e es zero d h l = behind-same e
behind_at e [] (suc k) d h l = absurd (omega arith)
behind_at e (f ∷ fs) (suc k) d h l = behind_more k e f (get_or (f ∷ fs) k d) (before-behind e f h.0) (behind_at f fs k d h.1 (omega arith))

-- two cells that are as far apart as they are in the list have nothing but neighbours between them
next_column : (n : ℕ) (e f l : CellEdit) → IsBehind 1 e f → IsBehind n f l → l.y ≡ e.y → l.x ≡ e.x + suc n → (f.y ≡ e.y) × (f.x ≡ suc e.x)
next_column n e f l (inl h) (inl k) y x = absurd (omega arith)
next_column n e f l (inl h) (inr k) y x = absurd (omega (arith, k.0))
next_column n e f l (inr h) (inl k) y x = absurd (omega (arith, h.0))
next_column n e f l (inr h) (inr k) y x = (sym h.0, omega (arith, h.1, k.1))

pub side_by_side-to : (e : CellEdit) (es : List CellEdit) (k : ℕ) (d : CellEdit) → AreInRowOrder (e ∷ es) → k < length (e ∷ es)
    → (get_or (e ∷ es) k d).y ≡ e.y → (get_or (e ∷ es) k d).x ≡ e.x + k → AreSideBySide (take (suc k) (e ∷ es))
side_by_side-to e es zero d h l y x = (tt, tt)
side_by_side-to e [] (suc k) d h l y x = absurd (omega arith)
side_by_side-to e (f ∷ fs) (suc k) d h l y x =
    let next : (f.y ≡ e.y) × (f.x ≡ suc e.x) = next_column k e f (get_or (f ∷ fs) k d) (before-behind e f h.0) (behind_at f fs k d h.1 (omega arith)) y x in
    (next, side_by_side-to f fs k d h.1 (omega arith) (y ∙ sym next.0) (omega (arith, next.1, x)))

-- two cells of a list, one k cells to the right of the other in its row, have side by side what stands between them
pub row_to : (es : List CellEdit) (k : ℕ) (from to : CellEdit) → AreInRowOrder es → k < length es → from ≡ get_or es 0 from → to ≡ get_or es k to
    → to.y ≡ from.y → to.x ≡ from.x + k → AreSideBySide (take (k + 1) es)
row_to [] k from to h l f t y x = absurd (omega arith)
row_to (e ∷ es) k from to h l f t y x =
    let row : (get_or (e ∷ es) k to).y ≡ e.y = ap (λ (c : CellEdit). c.y) (sym t) ∙ y ∙ ap (λ (c : CellEdit). c.y) f in
    let column : (get_or (e ∷ es) k to).x ≡ e.x + k = ap (λ (c : CellEdit). c.x) (sym t) ∙ x ∙ ap (λ (c : CellEdit). c.x + k) f in
    rw add-one (side_by_side-to e es k to h l row column)

pub in_row_order-drop : (n : ℕ) (es : List CellEdit) → AreInRowOrder es → AreInRowOrder (drop n es)
in_row_order-drop zero es h = h
in_row_order-drop (suc n) [] h = tt
in_row_order-drop (suc n) (e ∷ es) h = in_row_order-drop n es h.1

pub Each-drop : (P : CellEdit → Type 0) (n : ℕ) (es : List CellEdit) → Each P es → Each P (drop n es)
Each-drop P zero es h = h
Each-drop P (suc n) [] h = tt
Each-drop P (suc n) (e ∷ es) h = Each-drop P n es h.1

-- ---- cells that get one value
pub fill_values-split : (width value n : ℕ) (es : List CellEdit) (vs : List ℕ)
    → fill_values width value (drop n es) (fill_values width value (take n es) vs) ≡ fill_values width value es vs
fill_values-split width value zero es vs = refl
fill_values-split width value (suc n) [] vs = refl
fill_values-split width value (suc n) (e ∷ es) vs = fill_values-split width value n es (slice_set vs (cell_number width e) value)

pub length-fill_values : (width value : ℕ) (es : List CellEdit) (vs : List ℕ) → length (fill_values width value es vs) ≡ length vs
length-fill_values width value [] vs = refl
length-fill_values width value (e ∷ es) vs = length-fill_values width value es (slice_set vs (cell_number width e) value)
    ∙ length-set vs (cell_number width e) value

same_side : (side : Side) (e f : CellEdit) → HasValuesOf e f → side_value side f ≡ side_value side e
same_side Before e f h = h.0
same_side After e f h = h.1

put-fill : (width : ℕ) (side : Side) (e : CellEdit) (es : List CellEdit) (vs : List ℕ) → Each (HasValuesOf e) es
    → put_values width side es vs ≡ fill_values width (side_value side e) es vs
put-fill width side e [] vs h = refl
put-fill width side e (f ∷ fs) vs h =
    put-fill width side e fs (slice_set vs (cell_number width f) (side_value side f)) h.1
    ∙ ap (λ v. fill_values width (side_value side e) fs (slice_set vs (cell_number width f) v)) (same_side side e f h.0)

-- alike cells get the first one's value
pub alike-fill : (width : ℕ) (side : Side) (first : CellEdit) (es : List CellEdit) (vs : List ℕ) → AreAlike es → 1 ≤ length es → first ≡ get_or es 0 first
    → fill_values width (side_value side first) es vs ≡ put_values width side es vs
alike-fill width side first [] vs h l f = absurd (omega arith)
alike-fill width side first (e ∷ es) vs h l f =
    ap (λ (c : CellEdit). fill_values width (side_value side c) (e ∷ es) vs) f
    ∙ sym (put-fill width side e es (slice_set vs (cell_number width e) (side_value side e)) h)

each-range : (side : Side) (e : CellEdit) (es : List CellEdit) → IsTileValue (side_value side e) → Each (HasValuesOf e) es → HaveRange side es
each-range side e [] range h = tt
each-range side e (f ∷ fs) range h = (subst IsTileValue (sym (same_side side e f h.0)) range, each-range side e fs range h.1)

pub alike-range : (side : Side) (first : CellEdit) (es : List CellEdit) → AreAlike es → 1 ≤ length es → first ≡ get_or es 0 first
    → IsTileValue (side_value side first) → HaveRange side es
alike-range side first [] h l f range = absurd (omega arith)
alike-range side first (e ∷ es) h l f range =
    let own : IsTileValue (side_value side e) = subst (λ (c : CellEdit). IsTileValue (side_value side c)) f range in
    (own, each-range side e es own h)

-- ---- a row
-- the values with so many set from a number on
abbrev pub set_from : ℕ → ℕ → ℕ → List ℕ → List ℕ
set_from value at zero vs = vs
set_from value at (suc n) vs = set_from value (suc at) n (slice_set vs at value)

pub set_from-step : (value at end : ℕ) (vs : List ℕ) → at < end
    → set_from value at (end - at) vs ≡ set_from value (at + 1) (end - (at + 1)) (slice_set vs at value)
set_from-step value at end vs l =
    let left : end - at ≡ suc (end - (at + 1)) = omega arith in
    ap (λ n. set_from value at n vs) left ∙ ap (λ k. set_from value k (end - (at + 1)) (slice_set vs at value)) (sym (add-one at))

pub set_from-end : (value at end : ℕ) (vs : List ℕ) → end ≤ at → set_from value at (end - at) vs ≡ vs
set_from-end value at end vs l =
    let none : end - at ≡ 0 = omega arith in
    ap (λ n. set_from value at n vs) none

next_number : (width : ℕ) (e f : CellEdit) → f.y ≡ e.y → f.x ≡ suc e.x → cell_number width f ≡ suc (cell_number width e)
next_number width e f y x = let rows : f.y * width ≡ e.y * width = ap (λ n. n * width) y in omega (arith, rows, x)

row-fill : (width value : ℕ) (e : CellEdit) (es : List CellEdit) (vs : List ℕ) → AreSideBySide (e ∷ es)
    → set_from value (cell_number width e) (length (e ∷ es)) vs ≡ fill_values width value (e ∷ es) vs
row-fill width value e [] vs h = refl
row-fill width value e (f ∷ fs) vs h =
    let at : cell_number width f ≡ suc (cell_number width e) = next_number width e f h.0.0 h.0.1 in
    ap (λ k. set_from value k (length (f ∷ fs)) (slice_set vs (cell_number width e) value)) (sym at)
    ∙ row-fill width value f fs (slice_set vs (cell_number width e) value) h.1

row-inside : (width count : ℕ) (e : CellEdit) (es : List CellEdit) → AreSideBySide (e ∷ es) → Each (IsBelow width count) (e ∷ es)
    → cell_number width e + length (e ∷ es) ≤ count
row-inside width count e [] h i = omega (arith, i.0)
row-inside width count e (f ∷ fs) h i =
    let at : cell_number width f ≡ suc (cell_number width e) = next_number width e f h.0.0 h.0.1 in
    let later : cell_number width f + length (f ∷ fs) ≤ count = row-inside width count f fs h.1 i.1 in
    omega (arith, at, later)

-- a row that is set from its first cell on is filled with the value
pub row-set : (width value : ℕ) (first : CellEdit) (es : List CellEdit) (vs : List ℕ) → AreSideBySide es → 1 ≤ length es → first ≡ get_or es 0 first
    → set_from value (cell_number width first) (length es) vs ≡ fill_values width value es vs
row-set width value first [] vs h l f = absurd (omega arith)
row-set width value first (e ∷ es) vs h l f =
    ap (λ (c : CellEdit). set_from value (cell_number width c) (length (e ∷ es)) vs) f ∙ row-fill width value e es vs h

pub row-below : (width count : ℕ) (first : CellEdit) (es : List CellEdit) → AreSideBySide es → Each (IsBelow width count) es → 1 ≤ length es
    → first ≡ get_or es 0 first
    → cell_number width first + length es ≤ count
row-below width count first [] h i l f = absurd (omega arith)
row-below width count first (e ∷ es) h i l f =
    let at : cell_number width first ≡ cell_number width e = ap (cell_number width) f in
    omega (arith, at, row-inside width count e es h i)
