use Rattle.std.proofs.Common.{◌≡◌, ◌+◌, ◌*◌, length}
use Rattle.std.specs.Vec.Iter.{into_iter_items, into_iter_len}
use Rattle.tiled_maps.specs.Packing.{ItemPacked}
use Rattle.tiled_maps.proofs.PackedWalks.{AreMade}
use Rattle.tiled_maps.proofs.packing.+packing.Given as goal

abbrev pub decreases-pack_tiers : goal.decreases-pack_tiers
decreases-pack_tiers l = 5 * l.tiers

abbrev pub decreases-item_packed : goal.decreases-item_packed
decreases-item_packed l = 5 * l.tiers + 1

abbrev pub decreases-items_packed : goal.decreases-items_packed
decreases-items_packed l = 5 * l.tiers + 2

abbrev pub decreases-layers_packed : goal.decreases-layers_packed
decreases-layers_packed l = 5 * l.tiers + 3

abbrev pub decreases-pack_below : goal.decreases-pack_below
decreases-pack_below l = 5 * l.tiers + 4

abbrev pub invariant-items_packed-loop-item : goal.invariant-items_packed-loop-item
invariant-items_packed-loop-item l =
    AreMade (ItemPacked l.tiers) l.fn.items.items l.all.items (into_iter_items l.item-iterator)
    × (into_iter_len l.item-iterator ≡ length (into_iter_items l.item-iterator))
