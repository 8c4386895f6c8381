use Rattle.std.proofs.Common.{◌≡◌, ◌≤◌, ◌+◌, ◌-◌, ◌^◌, min, drop}
use Rattle.serde_json.specs.View.{items_view}
use Rattle.tiled_maps.specs.Packed.{cells_of, sum_in}
use Rattle.tiled_maps.proofs.packed_layers.sum_of_chunks.Given as goal

abbrev pub invariant-loop-chunk : goal.invariant-loop-chunk
invariant-loop-chunk l =
    (min (l.sum + sum_in (λ own. cells_of own) (items_view (drop l.chunk-index l.chunk-items))) (2 ^ 64 - 1)
    ≡ min (sum_in (λ own. cells_of own) (items_view l.chunk-items)) (2 ^ 64 - 1))
    × (l.sum ≤ 2 ^ 64 - 1)
