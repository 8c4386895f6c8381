use Rattle.std.proofs.Common.{◌≡◌, ◌++◌, option_map, drop}
use Rattle.serde_json.specs.View.{items_view}
use Rattle.map_values.specs.Cells.{cells_of}
use Rattle.map_values.proofs.cells.cells.Given as goal

abbrev pub invariant-loop-at : goal.invariant-loop-at
invariant-loop-at g l = option_map (λ cs. l.found.items ++ cs) (cells_of (items_view (drop l.at l.value-items))) ≡ cells_of (items_view l.value-items)
