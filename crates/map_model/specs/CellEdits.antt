-- Lists of changed cells of one layer.
use Rattle.std.specs.Prelude.{ℕ, ◌+◌, ◌*◌, ◌<◌, List, map, slice_set}
use Rattle.std.specs.List.{fold}
use Rattle.region.specs.Cells.{IsInRowOrder}
use Rattle.map_model.specs.declared.edit.CellEdit.{CellEdit}
use Rattle.map_model.specs.declared.edit.Side.{Side}
use Rattle.map_model.specs.declared.edit.Side.TheVariants.{Before, After}
use Rattle.map_model.specs.Lists.{Each}
use Rattle.map_model.specs.WellFormed.{IsTileValue}

-- the value of a changed cell on a side
abbrev pub side_value : Side → CellEdit → ℕ
side_value Before e = e.before
side_value After e = e.after

-- the number of a changed cell in a layer of this width, row by row
abbrev pub cell_number : ℕ → CellEdit → ℕ
cell_number width e = e.y * width + e.x

-- the cell lies in a layer of this width with so many values
abbrev pub IsBelow : ℕ → ℕ → CellEdit → Type 0
IsBelow width count e = cell_number width e < count

abbrev pub with_value : ℕ → ℕ → List ℕ → List ℕ
with_value at value values = slice_set values at value

-- the values of a layer with the cells of a list set, in order, to their values on a side
abbrev pub put_values : ℕ → Side → List CellEdit → List ℕ → List ℕ
put_values width side es values = fold (λ vs e. with_value (cell_number width e) (side_value side e) vs) values es

-- the cell that changes
abbrev pub cell : CellEdit → ℕ × ℕ
cell e = (e.x, e.y)

-- the cells are in row order, and none stands twice
abbrev pub AreInRowOrder : List CellEdit → Type 0
AreInRowOrder es = IsInRowOrder (map cell es)

-- the value of each cell of the list, on a side, is a tile value
abbrev pub HaveRange : Side → List CellEdit → Type 0
HaveRange side es = Each (λ e. IsTileValue (side_value side e)) es
