-- Cells of a row side by side.
use Rattle.std.specs.Prelude.{◌≡◌, ℕ, ◌+◌, ◌*◌, zero, suc, List, [], ◌∷◌, ◌++◌}
use Rattle.map_model.specs.declared.edit.CellEdit.{CellEdit}
use Rattle.edits.specs.declared.filled.RowStart.{RowStart}

-- the number is that of the row's first cell in a layer of this width
abbrev pub IsRowStart : ℕ → RowStart → Type 0
IsRowStart width row = row.number ≡ row.y * width

-- the changes of so many cells of a row, from a column on, all of which have one value before and one after
abbrev pub stretch_edits : ℕ → ℕ → ℕ → ℕ → ℕ → List CellEdit
stretch_edits y first before after zero = []
stretch_edits y first before after (suc n) = stretch_edits y first before after n ++ record { x = first + n; y = y; before = before; after = after } ∷ []
