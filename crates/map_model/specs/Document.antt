-- Documents, and changes of their map and of their selection.
use Rattle.std.specs.Prelude.{◌≡◌, ℕ, ◌<◌, List, true, refl}
use Rattle.std.specs.Coded.{Coded, code_by, coded×}
use Rattle.std.specs.FinSet as set
use Rattle.region.specs.Cells.{cell_cmp, cell_code}
use Rattle.map_model.specs.declared.edit.CellEdit.{CellEdit}
use Rattle.map_model.specs.declared.edit.Side.{Side}
use Rattle.map_model.specs.declared.parts.MapParts.{MapParts}
use Rattle.map_model.specs.contracts.parts.MapParts as parts
use Rattle.map_model.specs.Lookups.{with_edits}
use Rattle.map_model.specs.WellFormed.{IsWellFormed}

-- a document, as contracts see it: a map, and the set of the selected cells
pub record DocumentParts : Type 0 where
  pub map : MapParts
  pub selection : set.FinSet cell_cmp

abbrev pub document_code : Coded DocumentParts
document_code = code_by (MapParts × set.FinSet cell_cmp) (coded× parts.the_row.coded (set.code cell_code))
    (λ d. (d.map, d.selection)) (λ p. record { map = p.0; selection = p.1 }) (λ _. refl)

-- the cells lie in a map of so many columns and rows
abbrev pub LiesIn : ℕ → ℕ → set.FinSet cell_cmp → Type 0
LiesIn width height cells = (q : ℕ × ℕ) → set.contains cells q ≡ true → (q.0 < width) × (q.1 < height)

-- the selection is a set of cells of the map
abbrev pub IsSelectionOf : MapParts → set.FinSet cell_cmp → Type 0
IsSelectionOf m selection = LiesIn m.width m.height selection

-- a document is well formed: its map is, and its selection is one of that map
pub record IsDocument (d : DocumentParts) : Type 0 where
  pub map : IsWellFormed d.map
  pub selection : IsSelectionOf d.map d.selection

-- the document of a map, with no cell selected
abbrev pub document_of : MapParts → DocumentParts
document_of m = record { map = m; selection = set.empty }

-- the document with another selection
abbrev pub with_selection : set.FinSet cell_cmp → DocumentParts → DocumentParts
with_selection selection d = record d { selection = selection }

-- the document with f of its map
abbrev pub with_map : (MapParts → MapParts) → DocumentParts → DocumentParts
with_map f d = record d { map = f d.map }

-- the document with the cells of a layer set to their values on a side
abbrev pub painted : ℕ → List CellEdit → Side → DocumentParts → DocumentParts
painted layer cells side = with_map (λ m. with_edits m layer cells side)
