use Rattle.std.proofs.Common.{◌≡◌, ◌+◌, ◌*◌}
use Rattle.edits.specs.CellLists.{cells_in}
use Rattle.edits.specs.Laying.{changes_below}
use Rattle.edits.proofs.extent.Extent.push_columns.Given as goal

abbrev pub invariant-loop-x : goal.invariant-loop-x
invariant-loop-x g l = cells_in l.cells ≡ changes_below (g.C.Cover.over l.cover) l.self (l.y * l.self.width + l.x)
