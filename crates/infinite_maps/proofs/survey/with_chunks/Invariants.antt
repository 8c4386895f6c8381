use Rattle.std.proofs.Common.{◌≡◌, drop}
use Rattle.serde_json.specs.View.{items_view}
use Rattle.infinite_maps.specs.Sound.{are_placed}
use Rattle.infinite_maps.specs.Survey.{with_chunks}
use Rattle.infinite_maps.proofs.survey.with_chunks.Given as goal

abbrev pub invariant-loop-chunk : goal.invariant-loop-chunk
invariant-loop-chunk l =
    (with_chunks l.found (items_view (drop l.chunk-index l.chunk-items)) ≡ with_chunks l.fn.around (items_view l.chunk-items))
    × (are_placed (items_view (drop l.chunk-index l.chunk-items)) ≡ are_placed (items_view l.chunk-items))
