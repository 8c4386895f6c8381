use Rattle.std.proofs.Common.{◌≡◌, drop}
use Rattle.serde_json.specs.View.{items_view}
use Rattle.tiled_maps.specs.Formats.{are_cells}
use Rattle.tiled_maps.proofs.formats.are_cells.Given as goal

abbrev pub invariant-loop-value : goal.invariant-loop-value
invariant-loop-value l = are_cells (items_view (drop l.value-index l.value-items)) ≡ are_cells (items_view l.value-items)
