use Rattle.std.proofs.Common.{take}
use Rattle.map_model.specs.Lists.{Each}
use Rattle.document_lines.proofs.ToldAreas.{IsBetween}
use Rattle.document_lines.proofs.differences.columns_of.Given as goal

abbrev pub invariant-loop-cell : goal.invariant-loop-cell
invariant-loop-cell l = Each (IsBetween l.left l.right) (take l.cell-index l.cells)
