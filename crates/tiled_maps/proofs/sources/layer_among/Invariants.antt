use Rattle.std.proofs.Common.{◌≡◌, drop}
use Rattle.serde_json.specs.View.{items_view}
use Rattle.tiled_maps.specs.Sources.{layer_among}
use Rattle.tiled_maps.proofs.sources.layer_among.Given as goal

abbrev pub invariant-loop-layer : goal.invariant-loop-layer
invariant-loop-layer l = layer_among l.id (items_view (drop l.layer-index l.layer-items)) ≡ layer_among l.id (items_view l.layer-items)
