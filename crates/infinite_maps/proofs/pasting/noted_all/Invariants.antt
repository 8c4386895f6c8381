use Rattle.std.proofs.Common.{◌≡◌, map, take}
use Rattle.serde_json.specs.View.{view}
use Rattle.infinite_maps.specs.Pasted.{noted}
use Rattle.infinite_maps.proofs.pasting.noted_all.Given as goal

abbrev pub invariant-loop-rectangle : goal.invariant-loop-rectangle
invariant-loop-rectangle l = map view l.chunks.items ≡ map noted (take l.rectangle-index l.rectangles)
