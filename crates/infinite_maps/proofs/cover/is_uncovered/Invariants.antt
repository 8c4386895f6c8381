use Rattle.std.proofs.Common.{◌≡◌, true}
use Rattle.std.specs.Prelude.{slice_index_or}
use Rattle.infinite_maps.specs.Rectangles.{place}
use Rattle.infinite_maps.specs.Coverage.{any_below}
use Rattle.infinite_maps.proofs.cover.is_uncovered.Given as goal

abbrev pub invariant-loop-k : goal.invariant-loop-k
invariant-loop-k l = l.found ≡ any_below (λ k. slice_index_or l.cover (place l.columns l.rectangle k) true) l.k
