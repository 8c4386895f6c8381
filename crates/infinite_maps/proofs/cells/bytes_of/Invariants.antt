use Rattle.std.proofs.Common.{◌≡◌, ◌++◌, drop}
use Rattle.infinite_maps.specs.Cells.{bytes_of}
use Rattle.infinite_maps.proofs.cells.bytes_of.Given as goal

abbrev pub invariant-loop-cell : goal.invariant-loop-cell
invariant-loop-cell l = l.bytes.items ++ bytes_of (drop l.cell-index l.cells) ≡ bytes_of l.cells
