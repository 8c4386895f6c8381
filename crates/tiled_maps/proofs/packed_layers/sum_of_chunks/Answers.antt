use Rattle.std.proofs.Common.{rules}
use Rattle.tiled_maps.specs.Packed.{cells_of}
use Rattle.tiled_maps.proofs.PackedWalks.{sum_at_end}
use Rattle.tiled_maps.proofs.packed_layers.sum_of_chunks.Goals as goal

pub returns : goal.returns
returns c =
    let l = c.loop-chunk in
    sum_at_end (λ own. cells_of own) _ _ l.chunk-index l.sum c.deref-chunk-items.ensures.value (search rules) l.invariant.0 l.invariant.1
