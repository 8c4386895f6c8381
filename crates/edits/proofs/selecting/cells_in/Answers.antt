use Rattle.std.proofs.Common.{rules}
use Rattle.edits.proofs.Areas.{cells_in-rectangle}
use Rattle.edits.proofs.selecting.cells_in.Goals as goal

pub returns : goal.returns
returns c = cells_in-rectangle c.args.map.now c.args.area c.new-columns.result c.new-rows.result c.rect.result (search rules) (search rules) c.rect.ensures
