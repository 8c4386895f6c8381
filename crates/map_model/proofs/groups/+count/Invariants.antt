use Rattle.std.proofs.Common.{◌≡◌, ◌+◌, ◌*◌, length}
use Rattle.map_model.specs.Groups.{drawn}
use Rattle.map_model.specs.Keeping.{layer_tier}
use Rattle.map_model.proofs.groups.+count.Given as goal

abbrev pub decreases-count_in : goal.decreases-count_in
decreases-count_in a = 2 * a.groups + 1

abbrev pub decreases-count_under : goal.decreases-count_under
decreases-count_under a = 2 * a.groups

abbrev pub invariant-count_in-loop-layer : goal.invariant-count_in-loop-layer
invariant-count_in-loop-layer l = l.count + length (drawn l.groups layer_tier l.layer-iterator) ≡ length (drawn l.groups layer_tier l.fn.layers)
