use Rattle.std.proofs.Common.{◌≡◌, ◌+◌, ◌*◌, length}
use Rattle.std.specs.Vec.Iter.{into_iter_items, into_iter_len}
use Rattle.tiled_maps.specs.Packed.{item_unpacked}
use Rattle.tiled_maps.proofs.SourceWalks.{IsMade}
use Rattle.tiled_maps.proofs.unpacking.+unpacking.Given as goal

abbrev pub decreases-unpack_tiers : goal.decreases-unpack_tiers
decreases-unpack_tiers l = 5 * l.tiers

abbrev pub decreases-item_unpacked : goal.decreases-item_unpacked
decreases-item_unpacked l = 5 * l.tiers + 1

abbrev pub decreases-items_unpacked : goal.decreases-items_unpacked
decreases-items_unpacked l = 5 * l.tiers + 2

abbrev pub decreases-layers_below : goal.decreases-layers_below
decreases-layers_below l = 5 * l.tiers + 3

abbrev pub decreases-unpack_below : goal.decreases-unpack_below
decreases-unpack_below l = 5 * l.tiers + 4

abbrev pub invariant-items_unpacked-loop-item : goal.invariant-items_unpacked-loop-item
invariant-items_unpacked-loop-item l =
    IsMade (item_unpacked l.tiers l.cells) l.fn.items.items l.all.items (into_iter_items l.item-iterator)
    × (into_iter_len l.item-iterator ≡ length (into_iter_items l.item-iterator))
