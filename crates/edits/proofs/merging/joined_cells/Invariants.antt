use Rattle.std.proofs.Common.{◌≡◌, ◌+◌, ◌≤◌, ◌++◌, length, drop}
use Rattle.map_model.specs.CellEdits.{AreInRowOrder}
use Rattle.edits.specs.Merging.{joined}
use Rattle.edits.proofs.merging.joined_cells.Given as goal

-- what is done, and the join of what is left, is the whole join; and there is room for what is left
abbrev pub invariant-loop-cell : goal.invariant-loop-cell
invariant-loop-cell l = record {
  done : l.cells.items ++ joined l.rest (drop l.cell-index l.newer) ≡ joined l.older l.newer;
  ordered : AreInRowOrder l.rest;
  len : l.cells.len + length l.rest ≤ length l.older + l.cell-index;
  room : length l.older + length l.newer ≤ l.cells.cap;
}
