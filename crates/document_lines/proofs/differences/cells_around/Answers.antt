use Rattle.std.proofs.Common.{sym}
use Rattle.document_lines.proofs.ToldAreas.{holds-rows}
use Rattle.document_lines.proofs.differences.cells_around.Goals as goal

pub returns : goal.returns
returns c =
    holds-rows c.args.layer c.area_of.result c.in-Some.first.now c.in-Some-last.last.now c.args.cells.now (sym c.in-Some.ensures.value)
    (sym c.in-Some-last.ensures.value) c.requires c.area_of.ensures
