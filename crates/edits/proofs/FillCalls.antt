-- What the call of a fill hands on.
use Rattle.std.proofs.Common.{◌≡◌, ℕ, ◌<◌, List, length, Bool, true, false, cond, ◌&&◌, nat_lt, Some, None, Ok, ℤ, pos, negsuc, mul_comm, refl, ap, ◌∙◌, arith}
use Rattle.std.specs.FinSet as set
use Rattle.std.proofs.lemmas.Bool.Decides.{nat_tests}
use Rattle.region.specs.Cells.{cell_cmp}
use Rattle.map_model.specs.declared.parts.MapParts.{MapParts}
use Rattle.map_model.specs.Document.{DocumentParts}
use Rattle.map_model.specs.Lookups.{layer_of}
use Rattle.edits.specs.declared.change.CellChange.{CellChange}
use Rattle.edits.specs.Covering.{covered}
use Rattle.map_model.specs.Difference.{difference}
use Rattle.edits.specs.Filling.{after_fill, fill_over, map_cell}
use Rattle.edits.specs.Flooding.{HasCell}
use Rattle.edits.specs.Painting.{IsPainted}
use Rattle.edits.specs.Refusals.{is_known, tiles_or_fault}
use Rattle.edits.proofs.Calls.{IsPainted-changes, IsTheLayer, length-layer}

-- a cell of the map lies in its columns and rows
pub map_cell-within : (m : MapParts) (x y : ℤ) (cell : ℕ × ℕ) → Some cell ≡ map_cell m x y → (cell.0 < m.width) × (cell.1 < m.height)
map_cell-within m (pos x) (pos y) cell e = by_test (nat_lt x m.width && nat_lt y m.height) refl e
  where
    inside : (nat_lt x m.width && nat_lt y m.height) ≡ true → (x < m.width) × (y < m.height)
    inside t = (grind (arith, nat_tests), grind (arith, nat_tests))

    by_test : (b : Bool) → (nat_lt x m.width && nat_lt y m.height) ≡ b → Some cell ≡ cond b (Some (x, y)) None → (cell.0 < m.width) × (cell.1 < m.height)
    by_test true t is = let same : cell ≡ (x, y) = cc in rw same (inside t)
    by_test false t is = cc
map_cell-within m (pos x) (negsuc y) cell e = cc
map_cell-within m (negsuc x) y cell e = cc

pub HasCell-map : (m : MapParts) (id : ℕ) (tiles : List ℕ) (x y : ℕ) → IsTheLayer m id tiles → x < m.width → y < m.height → HasCell m.width tiles x y
HasCell-map m id tiles x y layer column row = record {
  height = m.height;
  size = length-layer m id tiles layer ∙ mul_comm m.width m.height;
  narrow = layer.well_formed.size.width_limit;
  low = layer.well_formed.size.height_limit;
  column = column;
  row = row;
}

-- ---- the change
pub fill-IsPainted : (d : DocumentParts) (id : ℕ) (x y : ℤ) (value : ℕ) (start : ℕ × ℕ) (tiles : List ℕ) (width : ℕ) (selection : set.FinSet cell_cmp)
    (change : CellChange) → Some start ≡ map_cell d.map x y
    → tiles_or_fault (layer_of d.map id) ≡ Ok tiles → is_known d.map value ≡ true → IsTheLayer d.map id tiles → width ≡ d.map.width → selection ≡ d.selection
    → change.layer ≡ id
    → change.cells ≡ difference width tiles (covered width (fill_over width tiles selection start value) tiles) (length tiles)
    → IsPainted d id (after_fill d id x y value) change
fill-IsPainted d id x y value start tiles width selection change found there known layer wide chosen is cells =
    IsPainted-changes d id (fill_over d.map.width tiles d.selection start value) (after_fill d id x y value) tiles change
    (rw (there, ← found, known) refl) layer is
    (cells
    ∙ ap (λ w. difference w tiles (covered w (fill_over w tiles selection start value) tiles) (length tiles)) wide
    ∙ ap (λ s. difference d.map.width tiles (covered d.map.width (fill_over d.map.width tiles s start value) tiles) (length tiles)) chosen)
