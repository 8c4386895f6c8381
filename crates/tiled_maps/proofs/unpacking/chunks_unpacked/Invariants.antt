use Rattle.std.proofs.Common.{◌≡◌, length}
use Rattle.std.specs.Vec.Iter.{into_iter_items, into_iter_len}
use Rattle.tiled_maps.specs.Packed.{chunk_unpacked}
use Rattle.tiled_maps.proofs.SourceWalks.{IsMade}
use Rattle.tiled_maps.proofs.unpacking.chunks_unpacked.Given as goal

abbrev pub invariant-loop-item : goal.invariant-loop-item
invariant-loop-item l =
    IsMade chunk_unpacked l.fn.items.items l.all.items (into_iter_items l.item-iterator)
    × (into_iter_len l.item-iterator ≡ length (into_iter_items l.item-iterator))
