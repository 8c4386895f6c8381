use Rattle.std.proofs.Common.{◌≡◌, ◌+◌, ◌*◌, drop}
use Rattle.serde_json.specs.View.{items_view}
use Rattle.tiled_maps.specs.Formats.{first_in, first_tiles}
use Rattle.tiled_maps.proofs.formats.+first.Given as goal

abbrev pub decreases-first_tiles : goal.decreases-first_tiles
decreases-first_tiles l = 3 * l.tiers

abbrev pub decreases-first_at : goal.decreases-first_at
decreases-first_at l = 3 * l.tiers + 1

abbrev pub decreases-first_in : goal.decreases-first_in
decreases-first_in l = 3 * l.tiers + 2

abbrev pub invariant-first_in-loop-layer : goal.invariant-first_in-loop-layer
invariant-first_in-loop-layer l =
    first_in (λ own. first_tiles l.tiers own) (items_view (drop l.layer-index l.layer-items))
    ≡ first_in (λ own. first_tiles l.tiers own) (items_view l.layer-items)
