-- Edits of the cells of a tile layer.
use Rattle.std.specs.Prelude.{◌≡◌, ℕ, Option, Result, Ok}
use Rattle.map_model.specs.declared.parts.MapParts.{MapParts}
use Rattle.map_model.specs.CellEdits.{AreInRowOrder}
use Rattle.map_model.specs.Document.{DocumentParts, with_map}
use Rattle.map_model.specs.Lookups.{HasTiles}
use Rattle.map_model.specs.WellFormed.{IsWellFormed}
use Rattle.refusals.specs.declared.edit_fault.EditFault.{EditFault}
use Rattle.edits.specs.declared.change.CellChange.{CellChange}
use Rattle.edits.specs.Covering.{covered_map}
use Rattle.map_model.specs.Difference.{difference_in}

-- a change holds exactly the cells that differ between two maps in a tile layer: in row order, each once, with the
-- values before and after, which are unequal
pub record IsCellChange (id : ℕ) (m n : MapParts) (change : CellChange) : Type 0 where
  pub layer : change.layer ≡ id
  pub cells : change.cells ≡ difference_in id m n
  pub ordered : AreInRowOrder change.cells

-- the edit of a well-formed document is not refused: it puts values over the cells of a tile layer, and the change is that of the map and
-- the one after the edit
pub record IsPainted (d : DocumentParts) (id : ℕ) (after : Result DocumentParts EditFault) (change : CellChange) : Type 0 where
  pub well_formed : IsWellFormed d.map
  pub tiles : HasTiles d.map id
  pub over : ℕ → ℕ → Option ℕ
  pub accepted : after ≡ Ok (with_map (covered_map id over) d)
  pub exact : IsCellChange id d.map (covered_map id over d.map) change
