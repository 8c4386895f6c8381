use Rattle.std.proofs.Common.{◌≡◌, ◌++◌, drop, true, replicate}
use Rattle.serde_json.specs.View.{items_view}
use Rattle.infinite_maps.specs.Wide.{size}
use Rattle.infinite_maps.specs.Sound.{are_sound}
use Rattle.infinite_maps.specs.Pasted.{all_pasted, rectangles_of}
use Rattle.infinite_maps.proofs.pasting.pasted.Given as goal
use Rattle.std.proofs.Common.{false}

abbrev pub invariant-loop-chunk : goal.invariant-loop-chunk
invariant-loop-chunk l =
    (all_pasted l.plane l.cells.items (items_view (drop l.chunk-index l.chunk-items))
    ≡ all_pasted l.plane (replicate (size l.plane) 0) (items_view l.chunk-items))
    × (l.rectangles.items ++ rectangles_of l.plane (items_view (drop l.chunk-index l.chunk-items)) ≡ rectangles_of l.plane (items_view l.chunk-items))
    × (are_sound false l.text (items_view l.chunk-items) ≡ true → are_sound false l.text (items_view (drop l.chunk-index l.chunk-items)) ≡ true)
