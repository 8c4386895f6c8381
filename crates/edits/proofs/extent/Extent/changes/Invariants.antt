use Rattle.std.proofs.Common.{◌≡◌, ◌*◌}
use Rattle.edits.specs.CellLists.{cells_in}
use Rattle.edits.specs.Laying.{changes_below}
use Rattle.edits.proofs.extent.Extent.changes.Given as goal

abbrev pub invariant-loop-y : goal.invariant-loop-y
invariant-loop-y g l = cells_in l.cells ≡ changes_below (g.C.Cover.over l.cover) l.self (l.y * l.self.width)
