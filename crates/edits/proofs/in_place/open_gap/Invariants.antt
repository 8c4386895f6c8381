use Rattle.std.proofs.Common.{◌≡◌, ◌+◌, ◌++◌, take}
use Rattle.edits.proofs.in_place.open_gap.Given as goal

abbrev pub invariant-loop-cell : goal.invariant-loop-cell
invariant-loop-cell l =
    (l.cells.items ≡ l.fn.cells.items ++ take l.cell-index l.any)
    × (l.cells.len ≡ l.fn.cells.len + l.cell-index)
    × (l.cells.cap ≡ l.fn.cells.cap)
