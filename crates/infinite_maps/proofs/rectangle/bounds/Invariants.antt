use Rattle.std.proofs.Common.{◌≡◌, drop, None, fold}
use Rattle.infinite_maps.specs.Rectangles.{around}
use Rattle.infinite_maps.proofs.rectangle.bounds.Given as goal

abbrev pub invariant-loop-rectangle : goal.invariant-loop-rectangle
invariant-loop-rectangle l = fold around l.found (drop l.rectangle-index l.rectangles) ≡ fold around None l.rectangles
