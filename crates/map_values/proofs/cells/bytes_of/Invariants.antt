use Rattle.std.proofs.Common.{◌≡◌, take}
use Rattle.map_values.specs.Cells.{bytes_of}
use Rattle.map_values.proofs.cells.bytes_of.Given as goal

abbrev pub invariant-loop-cell : goal.invariant-loop-cell
invariant-loop-cell l = l.bytes.items ≡ bytes_of (take l.cell-index l.cells)
