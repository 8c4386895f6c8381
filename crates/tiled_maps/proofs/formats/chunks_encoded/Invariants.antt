use Rattle.std.proofs.Common.{◌≡◌, length}
use Rattle.std.specs.Vec.Iter.{into_iter_items, into_iter_len}
use Rattle.tiled_maps.specs.Sources.{object_with}
use Rattle.tiled_maps.specs.Formats.{own_encoded}
use Rattle.tiled_maps.proofs.SourceWalks.{IsMade}
use Rattle.tiled_maps.proofs.formats.chunks_encoded.Given as goal

abbrev pub invariant-loop-chunk : goal.invariant-loop-chunk
invariant-loop-chunk l =
    IsMade (object_with own_encoded) l.fn.chunks.items l.all.items (into_iter_items l.chunk-iterator)
    × (into_iter_len l.chunk-iterator ≡ length (into_iter_items l.chunk-iterator))
