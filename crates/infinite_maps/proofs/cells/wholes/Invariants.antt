use Rattle.std.proofs.Common.{◌≡◌, ◌++◌, drop}
use Rattle.serde_json.specs.View.{items_view}
use Rattle.infinite_maps.specs.Cells.{wholes}
use Rattle.infinite_maps.proofs.cells.wholes.Given as goal

abbrev pub invariant-loop-value : goal.invariant-loop-value
invariant-loop-value l = l.found.items ++ wholes (items_view (drop l.value-index l.value-items)) ≡ wholes (items_view l.value-items)
