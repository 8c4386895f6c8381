use Rattle.std.proofs.Common.{◌≡◌, map, get_or}
use Rattle.std.specs.List.{range_with_len}
use Rattle.infinite_maps.specs.Rectangles.{place}
use Rattle.infinite_maps.proofs.cells.cut.Given as goal

abbrev pub invariant-loop-k : goal.invariant-loop-k
invariant-loop-k l = l.found.items ≡ map (λ k. get_or l.cells (place l.columns l.rectangle k) 0) (range_with_len 0 l.k)
