use Rattle.std.proofs.Common.{◌≡◌, drop}
use Rattle.serde_json.specs.View.{items_view}
use Rattle.tiled_maps.specs.Formats.{have_arrays}
use Rattle.tiled_maps.proofs.formats.have_arrays.Given as goal

abbrev pub invariant-loop-chunk : goal.invariant-loop-chunk
invariant-loop-chunk l = have_arrays (items_view (drop l.chunk-index l.chunk-items)) ≡ have_arrays (items_view l.chunk-items)
