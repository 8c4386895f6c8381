use Rattle.std.proofs.Common.{◌≡◌, ◌++◌, drop}
use Rattle.serde_json.specs.View.{items_view}
use Rattle.infinite_maps.specs.Cells.{wholes, bytes_of}
use Rattle.tiled_maps.proofs.formats.bytes_of.Given as goal

abbrev pub invariant-loop-cell : goal.invariant-loop-cell
invariant-loop-cell l =
    l.bytes.items ++ bytes_of (wholes (items_view (drop l.cell-index l.cell-items))) ≡ bytes_of (wholes (items_view l.cell-items))
