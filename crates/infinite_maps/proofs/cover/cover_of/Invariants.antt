use Rattle.std.proofs.Common.{◌≡◌, drop, fold, replicate, false}
use Rattle.infinite_maps.specs.Coverage.{with_covered}
use Rattle.infinite_maps.proofs.cover.cover_of.Given as goal

abbrev pub invariant-loop-rectangle : goal.invariant-loop-rectangle
invariant-loop-rectangle l =
    fold (with_covered l.columns) l.cover.items (drop l.rectangle-index l.rectangles) ≡ fold (with_covered l.columns) (replicate l.size false) l.rectangles
