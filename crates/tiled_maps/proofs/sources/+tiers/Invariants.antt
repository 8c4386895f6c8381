use Rattle.std.proofs.Common.{◌≡◌, ◌+◌, ◌*◌, length, option_map}
use Rattle.std.specs.Vec.Iter.{into_iter_items, into_iter_len}
use Rattle.serde_json.specs.View.{members_view}
use Rattle.tiled_maps.specs.Alike.{layer_as}
use Rattle.tiled_maps.proofs.SourceWalks.{IsMade}
use Rattle.tiled_maps.proofs.sources.+tiers.Given as goal

abbrev pub decreases-put_likeness : goal.decreases-put_likeness
decreases-put_likeness l = 5 * l.tiers

abbrev pub decreases-layer_as : goal.decreases-layer_as
decreases-layer_as l = 5 * l.tiers + 1

abbrev pub decreases-items_like : goal.decreases-items_like
decreases-items_like l = 5 * l.tiers + 2

abbrev pub decreases-array_like : goal.decreases-array_like
decreases-array_like l = 5 * l.tiers + 3

abbrev pub decreases-put_layers : goal.decreases-put_layers
decreases-put_layers l = 5 * l.tiers + 4

abbrev pub invariant-items_like-loop-item : goal.invariant-items_like-loop-item
invariant-items_like-loop-item l =
    let first = option_map (λ m. members_view m.now.entries) l.first in
    let olds = option_map (λ m. members_view m.now.entries) l.olds in
    IsMade (layer_as l.tiers first olds) l.fn.items.items l.all.items (into_iter_items l.item-iterator)
    × (into_iter_len l.item-iterator ≡ length (into_iter_items l.item-iterator))
