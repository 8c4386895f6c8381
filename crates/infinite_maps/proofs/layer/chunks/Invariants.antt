use Rattle.std.proofs.Common.{◌≡◌, map, take}
use Rattle.serde_json.specs.View.{view}
use Rattle.infinite_maps.specs.Layers.{chunk}
use Rattle.infinite_maps.proofs.layer.chunks.Given as goal

abbrev pub invariant-loop-rectangle : goal.invariant-loop-rectangle
invariant-loop-rectangle l = map view l.all.items ≡ map (chunk l.plane l.text l.cells) (take l.rectangle-index l.rectangles)
