-- What a fill does, and why one is refused.
use Rattle.std.specs.Prelude.{◌≡◌, ◌↔◌, ℕ, ◌+◌, ◌*◌, ℤ, pos, negsuc, List, Bool, true, ◌&&◌, nat_lt, Option, Some, None, Result, Ok, length, slice_index}
use Rattle.std.specs.Prelude.{if◌then◌else◌}
use Rattle.std.specs.FinSet as set
use Rattle.std.specs.Option.{ok_or}
use Rattle.region.specs.Cells.{cell_cmp}
use Rattle.map_model.specs.declared.parts.MapParts.{MapParts}
use Rattle.map_model.specs.Document.{DocumentParts, with_map}
use Rattle.map_model.specs.Lookups.{layer_of, tiles_in, HasTiles}
use Rattle.map_model.specs.WellFormed.{IsWellFormed}
use Rattle.refusals.specs.declared.edit_fault.EditFault.{EditFault}
use Rattle.refusals.specs.declared.edit_fault.EditFault.TheVariants.{OutsideTheMap, UnknownTile}
use Rattle.map_model.specs.Refusing.{◌>>=◌, ◌>>◌, check}
use Rattle.edits.specs.Covering.{covered_map}
use Rattle.edits.specs.Joining.{AreJoined, is_free_cell, is_reached}
use Rattle.edits.specs.Refusals.{tiles_or_fault, is_known}

-- ---- the cells that a fill takes
-- the cells that are free to a fill from a cell: those of its whole value
abbrev pub free_from : ℕ → List ℕ → set.FinSet cell_cmp → ℕ × ℕ → ℕ × ℕ → Bool
free_from width tiles selection start = is_free_cell width tiles selection (slice_index tiles (start.1 * width + start.0))

-- whether a cell is joined to the start
abbrev pub is_joined : ℕ → List ℕ → set.FinSet cell_cmp → ℕ × ℕ → ℕ × ℕ → Bool
is_joined width tiles selection start = is_reached (free_from width tiles selection start) start (length tiles)

-- a fill puts its value over each cell that is joined to the start
abbrev pub fill_over : ℕ → List ℕ → set.FinSet cell_cmp → ℕ × ℕ → ℕ → ℕ → ℕ → Option ℕ
fill_over width tiles selection start value x y = if is_joined width tiles selection start (x, y) then Some value else None

-- ---- a fill of a document
-- the cell of a map at a column and a row; none left of the map or above it, nor behind its last column or row
abbrev pub map_cell : MapParts → ℤ → ℤ → Option (ℕ × ℕ)
map_cell m (pos x) (pos y) = if nat_lt x m.width && nat_lt y m.height then Some (x, y) else None
map_cell m (pos x) (negsuc y) = None
map_cell m (negsuc x) y = None

-- the document after a fill, or its refusal: of its layer, its start or its value
abbrev pub after_fill : DocumentParts → ℕ → ℤ → ℤ → ℕ → Result DocumentParts EditFault
after_fill d id x y value = do
  tiles ← tiles_or_fault (layer_of d.map id)
  start ← ok_or (map_cell d.map x y) OutsideTheMap
  check (is_known d.map value) UnknownTile
  Ok (with_map (covered_map id (fill_over d.map.width tiles d.selection start value)) d)

-- ---- a law
-- in a tile layer of a well-formed map, as many steps as it has cells lead from a start to a cell exactly where a list of free cells does
abbrev pub ReachedIsJoined : Type 0
ReachedIsJoined =
    (m : MapParts) (id : ℕ) (selection : set.FinSet cell_cmp) (start q : ℕ × ℕ) → IsWellFormed m → HasTiles m id
    → let free = free_from m.width (tiles_in m id) selection start in
    (is_joined m.width (tiles_in m id) selection start q ≡ true) ↔ AreJoined free start q
