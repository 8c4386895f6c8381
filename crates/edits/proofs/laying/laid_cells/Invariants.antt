use Rattle.std.proofs.Common.{◌≡◌}
use Rattle.edits.specs.Blocks.{block_of}
use Rattle.edits.specs.Resizing.{table, value_at}
use Rattle.edits.proofs.laying.laid_cells.Given as goal

abbrev pub invariant-loop-y : goal.invariant-loop-y
invariant-loop-y l = l.cells.items ≡ table (value_at (block_of l.block)) l.width l.y
