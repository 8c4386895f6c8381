-- Lists of changed cells.
use Rattle.std.proofs.Common.{◌≡◌, ℕ, zero, suc, List, [], ◌∷◌, length, refl, ◌∙◌, length-set}
use Rattle.std.specs.List.{slice_set}
use Rattle.map_model.specs.declared.edit.CellEdit.{CellEdit}
use Rattle.map_model.specs.declared.edit.Side.{Side}
use Rattle.map_model.specs.Lists.{Each}
use Rattle.map_model.specs.CellEdits.{side_value, cell_number, with_value, put_values, HaveRange}
use Rattle.map_model.specs.WellFormed.{IsTileValue}
use Rattle.map_model.proofs.Keeps.{KeepsTiles}

pub length-put_values : (width : ℕ) (side : Side) (es : List CellEdit) (vs : List ℕ) → length (put_values width side es vs) ≡ length vs
length-put_values width side [] vs = refl
length-put_values width side (e ∷ es) vs = length-put_values width side es (slice_set vs (cell_number width e) (side_value side e))
    ∙ length-set vs (cell_number width e) (side_value side e)

-- ---- the range of values
Each-slice_set : (P : ℕ → Type 0) (vs : List ℕ) (k v : ℕ) → P v → Each P vs → Each P (slice_set vs k v)
Each-slice_set P [] zero v p h = tt
Each-slice_set P [] (suc k) v p h = tt
Each-slice_set P (w ∷ vs) zero v p h = (p, h.1)
Each-slice_set P (w ∷ vs) (suc k) v p h = (h.0, Each-slice_set P vs k v p h.1)

pub with_value-keeps : (at value : ℕ) → IsTileValue value → KeepsTiles (with_value at value)
with_value-keeps at value range = record { count = λ vs. length-set vs at value; range = λ vs h. Each-slice_set IsTileValue vs at value range h }

put_values-range : (width : ℕ) (side : Side) (es : List CellEdit) (vs : List ℕ) → HaveRange side es → Each IsTileValue vs
    → Each IsTileValue (put_values width side es vs)
put_values-range width side [] vs r h = h
put_values-range width side (e ∷ es) vs r h =
    put_values-range width side es (slice_set vs (cell_number width e) (side_value side e)) r.1
    (Each-slice_set IsTileValue vs (cell_number width e) (side_value side e) r.0 h)

pub put_values-keeps : (width : ℕ) (side : Side) (es : List CellEdit) → HaveRange side es → KeepsTiles (put_values width side es)
put_values-keeps width side es r = record { count = length-put_values width side es; range = λ vs h. put_values-range width side es vs r h }
