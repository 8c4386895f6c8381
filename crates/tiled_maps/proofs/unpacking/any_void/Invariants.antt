use Rattle.std.proofs.Common.{◌≡◌, drop}
use Rattle.serde_json.specs.View.{items_view}
use Rattle.tiled_maps.specs.Packed.{any_void}
use Rattle.tiled_maps.proofs.unpacking.any_void.Given as goal

abbrev pub invariant-loop-chunk : goal.invariant-loop-chunk
invariant-loop-chunk l = any_void (items_view (drop l.chunk-index l.chunk-items)) ≡ any_void (items_view l.chunk-items)
