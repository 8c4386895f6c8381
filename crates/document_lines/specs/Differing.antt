-- What may differ between two documents: what is not told is the same in both.
use Rattle.std.specs.Prelude.{◌≡◌, ◌≢◌, ℕ, true, false, IsTrue, ⊤}
use Rattle.map_model.specs.declared.parts.MapParts.{MapParts}
use Rattle.map_model.specs.Document.{DocumentParts}
use Rattle.map_model.specs.Lookups.{cell_of}
use Rattle.map_model.specs.WellFormed.{layer_ids}
use Rattle.map_json.specs.Outlines.{outline_of}
use Rattle.edits.specs.Blocks.{in_area}
use Rattle.command_api.specs.Law.{Change}
use Rattle.document_lines.specs.declared.differences.Cells.{Cells}
use Rattle.document_lines.specs.declared.differences.Cells.TheVariants as some_cells
use Rattle.document_lines.specs.declared.differences.Differences.{Differences}

-- the cell at this column and row of the layer with the id is one of these
abbrev pub IsOneOf : Cells → ℕ → ℕ → ℕ → Type 0
IsOneOf some_cells.None id x y = ⊥
IsOneOf (some_cells.Within layer area) id x y = (id ≡ layer) × IsTrue (in_area area x y)
IsOneOf some_cells.All id x y = ⊤

-- these cells are among those: and where they are all cells, those are all too
pub record AreWithin (cells others : Cells) : Type 0 where
  pub one : (id x y : ℕ) → IsOneOf cells id x y → IsOneOf others id x y
  pub all : cells ≡ some_cells.All → others ≡ some_cells.All

-- two maps have one size, and the same layers in the same order
pub record HaveSameLayers (m n : MapParts) : Type 0 where
  pub width : n.width ≡ m.width
  pub height : n.height ≡ m.height
  pub ids : layer_ids n.layers ≡ layer_ids m.layers

-- What is not told is the same in both documents: their outline, where the outline is not told; their selection, where that is
-- not told; their size and their layers, where not all cells are told; and each cell that is none of the told ones.
pub record DifferWithin (told : Differences) (d e : DocumentParts) : Type 0 where
  pub outline : told.outline ≡ false → outline_of e.map ≡ outline_of d.map
  pub selection : told.selection ≡ false → e.selection ≡ d.selection
  pub layers : told.cells ≢ some_cells.All → HaveSameLayers d.map e.map
  pub cells : (id x y : ℕ) → (IsOneOf told.cells id x y → ⊥) → cell_of e.map id x y ≡ cell_of d.map id x y

-- what is told covers a change: the documents on its two sides differ within it, be it made or turned back
pub record Covers (told : Differences) (c : Change) : Type 0 where
  pub redo : (d : DocumentParts) → c.fits_redo d → DifferWithin told d (c.redone d)
  pub undo : (d : DocumentParts) → c.fits_undo d → DifferWithin told d (c.undone d)

-- ---- what is told of most edits
-- nothing
abbrev pub no_differences : Differences
no_differences = record { outline = false; selection = false; cells = some_cells.None }

-- the selection alone
abbrev pub selection_differs : Differences
selection_differs = record { outline = false; selection = true; cells = some_cells.None }

-- the outline alone
abbrev pub outline_differs : Differences
outline_differs = record { outline = true; selection = false; cells = some_cells.None }

-- the outline and all cells
abbrev pub layers_differ : Differences
layers_differ = record { outline = true; selection = false; cells = some_cells.All }

-- all
abbrev pub all_differs : Differences
all_differs = record { outline = true; selection = true; cells = some_cells.All }

-- cells alone
abbrev pub cells_differ : Cells → Differences
cells_differ cells = record { outline = false; selection = false; cells = cells }
