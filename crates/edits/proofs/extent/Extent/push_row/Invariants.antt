use Rattle.std.proofs.Common.{◌≡◌, ◌+◌, ◌-◌, ◌*◌, ◌≤◌}
use Rattle.edits.specs.CellLists.{cells_in}
use Rattle.edits.specs.Laying.{changes_below}
use Rattle.edits.proofs.extent.Extent.push_row.Given as goal

abbrev pub invariant-loop-columns : goal.invariant-loop-columns
invariant-loop-columns g l = (l.from ≤ l.self.columns.end) × (cells_in l.cells ≡ changes_below (g.C.Cover.over l.cover) l.self (l.y * l.self.width + l.from))

abbrev pub decreases-loop-columns : goal.decreases-loop-columns
decreases-loop-columns g l = l.self.columns.end - l.from
