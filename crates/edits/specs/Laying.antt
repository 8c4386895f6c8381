-- The extent of an edit in a tile layer.
use Rattle.std.specs.Prelude.{◌≡◌, ◌⊎◌, ℕ, ◌*◌, ◌<◌, ◌≤◌, List, [], ◌∷◌, nat_eq, Option, None, true, false, length, if◌then◌else◌}
use Rattle.std.specs.FinSet as set
use Rattle.region.specs.Cells.{cell_cmp}
use Rattle.map_model.specs.declared.edit.CellEdit.{CellEdit}
use Rattle.map_model.specs.declared.limits.TheConstants.{MAX_SIDE, MAX_CELLS}
use Rattle.edits.specs.declared.extent.Extent.{Extent}
use Rattle.edits.specs.declared.span.Span.{Span}
use Rattle.edits.specs.Covering.{covered, covered_value, lets_change, where_selected}
use Rattle.map_model.specs.Difference.{difference}

-- a tile layer of this width, with as many values as a map may have cells
pub record IsLayerOf (width : ℕ) (tiles : List ℕ) : Type 0 where
  pub height : ℕ
  pub wide : 1 ≤ width
  pub narrow : width ≤ MAX_SIDE
  pub low : height ≤ MAX_SIDE
  pub size : length tiles ≡ height * width
  pub few : length tiles ≤ MAX_CELLS

-- the columns and rows are those of the layer that an edit may put something over
pub record IsExtent (over : ℕ → ℕ → Option ℕ) (r : Extent) : Type 0 where
  pub layer : IsLayerOf r.width r.tiles.now
  pub columns : r.columns.first ≤ r.columns.end
  pub columns_within : r.columns.end ≤ r.width
  pub rows : r.rows.first ≤ r.rows.end
  pub rows_within : r.rows.end ≤ layer.height
  pub other_columns : (x y : ℕ) → x < r.width → (x < r.columns.first) ⊎ (r.columns.end ≤ x) → over x y ≡ None
  pub other_rows : (x y : ℕ) → y < layer.height → (y < r.rows.first) ⊎ (r.rows.end ≤ y) → over x y ≡ None

-- the columns are the next of a row that may be changed, from a column on and before an end
pub record AreNextColumns (selection : set.FinSet cell_cmp) (y from end : ℕ) (s : Span) : Type 0 where
  pub start : from ≤ s.first
  pub some : s.first < s.end
  pub fits : s.end ≤ end
  pub before : (x : ℕ) → from ≤ x → x < s.first → lets_change selection (x, y) ≡ false
  pub columns : (x : ℕ) → s.first ≤ x → x < s.end → lets_change selection (x, y) ≡ true

-- the changes in so many cells of the layer, from the first
abbrev pub changes_below : (ℕ → ℕ → Option ℕ) → Extent → ℕ → List CellEdit
changes_below over r number = difference r.width r.tiles.now (covered r.width (where_selected r.selection.now over) r.tiles.now) number

-- the change of a cell that something, or nothing, lies over
abbrev pub changed_to : ℕ → ℕ → ℕ → Option ℕ → List CellEdit
changed_to x y before over = if nat_eq before (covered_value over before) then [] else record
    { x = x; y = y; before = before; after = covered_value over before } ∷ []
