use Rattle.std.proofs.Common.{◌≡◌, ◌/◌, ◌%◌, max, map}
use Rattle.std.specs.List.{range_with_len}
use Rattle.infinite_maps.specs.Wide.{wide, wide_cell}
use Rattle.infinite_maps.proofs.plane.Plane.widened.Given as goal

abbrev pub invariant-loop-k : goal.invariant-loop-k
invariant-loop-k l = l.found.items
    ≡ map (λ k. wide_cell l.self l.cells (k % max (wide l.self).columns 1) (k / max (wide l.self).columns 1)) (range_with_len 0 l.k)
