use Rattle.edits.specs.Blocks.{block_of}
use Rattle.edits.proofs.RowStretches.{on_ok, row-pushed}
use Rattle.edits.proofs.laying.push_row.Goals as goal

pub returns : goal.returns
returns c =
    on_ok c.resize-2.result c.resize-2.new.self.items _ _ _ c.resize-2.ensures.items (λ e.
    row-pushed (block_of c.args.block.now) c.args.width c.args.y c.args.columns.first c.row_stretch.result.now c.args.cells.now.items c.resize.new.self.items
    c.extend_from_slice.new.self.items c.resize-2.new.self.items c.len-start.result c.args.cells.now.len c.extend_from_slice.new.self.len
    c.row_stretch.ensures c.len-start.ensures c.args.cells.now.ok.0 c.in_ok-resize.ensures.items c.in_ok-extend_from_slice.ensures.items
    c.extend_from_slice.new.self.ok.0 e)
