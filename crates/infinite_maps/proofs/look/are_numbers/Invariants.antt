use Rattle.std.proofs.Common.{◌≡◌, drop}
use Rattle.serde_json.specs.View.{items_view}
use Rattle.infinite_maps.specs.Sound.{are_numbers}
use Rattle.infinite_maps.proofs.look.are_numbers.Given as goal

abbrev pub invariant-loop-value : goal.invariant-loop-value
invariant-loop-value l = are_numbers (items_view (drop l.value-index l.value-items)) ≡ are_numbers (items_view l.value-items)
