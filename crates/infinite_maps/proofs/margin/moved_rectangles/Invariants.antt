use Rattle.std.proofs.Common.{◌≡◌, take, map}
use Rattle.serde_json.specs.View.{view}
use Rattle.infinite_maps.specs.Margins.{rectangle_moved}
use Rattle.infinite_maps.proofs.margin.moved_rectangles.Given as goal

abbrev pub invariant-loop-value : goal.invariant-loop-value
invariant-loop-value l = map view l.moved.items ≡ map (λ v. rectangle_moved l.margin (view v)) (take l.value-index l.value-items)
