use Rattle.std.proofs.Common.{◌≡◌, drop, replicate, false}
use Rattle.infinite_maps.specs.Coverage.{are_apart}
use Rattle.infinite_maps.proofs.cover.are_apart.Given as goal

abbrev pub invariant-loop-rectangle : goal.invariant-loop-rectangle
invariant-loop-rectangle l =
    are_apart l.columns l.cover.items (drop l.rectangle-index l.rectangles) ≡ are_apart l.columns (replicate l.size false) l.rectangles
