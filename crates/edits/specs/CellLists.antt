-- The cells of a list.
use Rattle.std.specs.Prelude.{List, [], ◌∷◌}
use Rattle.map_model.specs.declared.edit.CellEdit.{CellEdit}
use Rattle.map_model.specs.Alike.{AreAlike}
use Rattle.edits.specs.declared.change.CellList.{CellList}
use Rattle.edits.specs.declared.change.CellList.TheVariants.{One, Many}
use Rattle.edits.specs.declared.change.KeptCells.{KeptCells}
use Rattle.edits.specs.declared.change.KeptCells.TheVariants as kept

abbrev pub cells_in : CellList → List CellEdit
cells_in (One cell) = cell ∷ []
cells_in (Many cells) = cells.items

abbrev pub kept_cells : KeptCells → List CellEdit
kept_cells (kept.One cell) = cell ∷ []
kept_cells (kept.Many cells) = cells.items
kept_cells (kept.Alike cells) = cells.items

-- what is kept as alike is so
abbrev pub IsSoundlyKept : KeptCells → Type 0
IsSoundlyKept (kept.One cell) = Unit {0}
IsSoundlyKept (kept.Many cells) = Unit {0}
IsSoundlyKept (kept.Alike cells) = AreAlike cells.items
