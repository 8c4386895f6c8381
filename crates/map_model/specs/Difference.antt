-- The difference of two documents in a layer.
use Rattle.std.specs.Prelude.{ℕ, ◌*◌, ◌/◌, ◌%◌, List, [], ◌∷◌, ◌++◌, zero, suc, nat_eq, slice_index, if◌then◌else◌}
use Rattle.map_model.specs.declared.edit.CellEdit.{CellEdit}
use Rattle.map_model.specs.declared.parts.MapParts.{MapParts}
use Rattle.map_model.specs.Lookups.{tiles_in}

-- the change of the cell with a number in a layer of this width
abbrev pub edit_at : ℕ → ℕ → ℕ → ℕ → CellEdit
edit_at width number before after = record { x = number % width; y = number / width; before = before; after = after }

-- the change of the cell with a number, where its value changes
abbrev pub change_at : ℕ → ℕ → ℕ → ℕ → List CellEdit
change_at width number before after = if nat_eq before after then [] else edit_at width number before after ∷ []

-- the difference of two layers in so many cells, from the first: in row order the cells whose values differ,
-- with the value before and the value after
abbrev pub difference : ℕ → List ℕ → List ℕ → ℕ → List CellEdit
difference width before after zero = []
difference width before after (suc number) = difference width before after number
    ++ change_at width number (slice_index before number) (slice_index after number)

-- the difference of two maps of one size in the tile layer with the id
abbrev pub difference_in : ℕ → MapParts → MapParts → List CellEdit
difference_in id m n = difference m.width (tiles_in m id) (tiles_in n id) (m.width * m.height)
