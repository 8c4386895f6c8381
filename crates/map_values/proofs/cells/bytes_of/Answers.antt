use Rattle.std.proofs.Common.{sym, ◌∙◌}
use Rattle.map_values.proofs.Words.{one_more_bytes}
use Rattle.map_values.proofs.cells.bytes_of.Goals as goal

pub loop-cell-preserved : goal.loop-cell-preserved
loop-cell-preserved c =
    let i = c.loop-cell.cell-index in
    c.in_ok-extend_from_slice.ensures.items
    ∙ (rw (c.loop-cell.invariant, c.to_le_bytes.ensures, c.cell.view_is)
    (sym (one_more_bytes c.args.cells.now i c.cell-item.result c.cell-item.result c.loop-cell-test.true c.cell-item.is)))
