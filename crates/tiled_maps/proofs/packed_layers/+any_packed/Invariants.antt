use Rattle.std.proofs.Common.{◌≡◌, ◌+◌, ◌*◌, drop}
use Rattle.serde_json.specs.View.{items_view}
use Rattle.tiled_maps.specs.Packed.{any_in, any_packed}
use Rattle.tiled_maps.proofs.packed_layers.+any_packed.Given as goal

abbrev pub decreases-any_packed : goal.decreases-any_packed
decreases-any_packed l = 4 * l.tiers

abbrev pub decreases-any_at : goal.decreases-any_at
decreases-any_at l = 4 * l.tiers + 1

abbrev pub decreases-any_in : goal.decreases-any_in
decreases-any_in l = 4 * l.tiers + 2

abbrev pub decreases-any_below : goal.decreases-any_below
decreases-any_below l = 4 * l.tiers + 3

abbrev pub invariant-any_in-loop-layer : goal.invariant-any_in-loop-layer
invariant-any_in-loop-layer l =
    any_in (λ own. any_packed l.tiers own) (items_view (drop l.layer-index l.layer-items)) ≡ any_in (λ own. any_packed l.tiers own) (items_view l.layer-items)
