use Rattle.std.proofs.Common.{◌≡◌, ◌≤◌, ◌+◌, ◌-◌, ◌*◌, ◌^◌, min, drop}
use Rattle.serde_json.specs.View.{items_view}
use Rattle.tiled_maps.specs.Packed.{sum_in, all_cells}
use Rattle.tiled_maps.specs.Formats.{is_counted}
use Rattle.tiled_maps.proofs.packed_layers.+all_cells.Given as goal

abbrev pub decreases-all_cells : goal.decreases-all_cells
decreases-all_cells l = 4 * l.tiers

abbrev pub decreases-cells_at : goal.decreases-cells_at
decreases-cells_at l = 4 * l.tiers + 1

abbrev pub decreases-cells_in : goal.decreases-cells_in
decreases-cells_in l = 4 * l.tiers + 2

abbrev pub decreases-cells_below : goal.decreases-cells_below
decreases-cells_below l = 4 * l.tiers + 3

abbrev pub invariant-cells_in-loop-layer : goal.invariant-cells_in-loop-layer
invariant-cells_in-loop-layer l =
    (min (l.sum + sum_in (λ own. all_cells (is_counted l.counted) l.tiers l.cells own) (items_view (drop l.layer-index l.layer-items))) (2 ^ 64 - 1)
    ≡ min (sum_in (λ own. all_cells (is_counted l.counted) l.tiers l.cells own) (items_view l.layer-items)) (2 ^ 64 - 1))
    × (l.sum ≤ 2 ^ 64 - 1)
