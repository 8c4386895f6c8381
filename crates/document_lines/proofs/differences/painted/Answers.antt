use Rattle.document_lines.proofs.PaintCovers.{AreTold, paint-covers}
use Rattle.document_lines.proofs.differences.painted.Goals as goal
use Rattle.std.proofs.Common.{subst}

pub returns : goal.returns
returns c =
    let told = c.cells_around.result in
    let cells = c.change.result.now in
    paint-covers c.args.paint.now told cells c.change.ensures.redo c.change.ensures.undo
    (subst (λ layer. AreTold told layer cells) c.layer.ensures c.cells_around.ensures)
