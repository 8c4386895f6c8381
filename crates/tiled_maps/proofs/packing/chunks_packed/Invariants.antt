use Rattle.std.proofs.Common.{◌≡◌, length}
use Rattle.std.specs.Vec.Iter.{into_iter_items, into_iter_len}
use Rattle.tiled_maps.specs.Packing.{ObjectRelated, OwnPacked}
use Rattle.tiled_maps.proofs.PackedWalks.{AreMade}
use Rattle.tiled_maps.proofs.packing.chunks_packed.Given as goal

abbrev pub invariant-loop-chunk : goal.invariant-loop-chunk
invariant-loop-chunk l =
    AreMade (ObjectRelated (OwnPacked l.frame)) l.fn.chunks.items l.all.items (into_iter_items l.chunk-iterator)
    × (into_iter_len l.chunk-iterator ≡ length (into_iter_items l.chunk-iterator))
