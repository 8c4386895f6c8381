use Rattle.std.proofs.Common.{◌≡◌, ◌+◌, length}
use Rattle.std.specs.Vec.Iter.{into_iter_items}
use Rattle.serde_json.specs.View.{items_view}
use Rattle.map_json.specs.Elements.{each}
use Rattle.map_json.proofs.Loops.{with_prefix}
use Rattle.map_json.proofs.elements.each.Given as goal

abbrev pub invariant-loop-value : goal.invariant-loop-value
invariant-loop-value g l =
    (goal.iterator-loop-value g).can_next l.value-iterator × (goal.iterator-loop-value g).is_finite l.value-iterator
    × (length (g.L.ElementList.listed l.found) + length (into_iter_items l.value-iterator) ≡ length l.fn.values.items)
    × (with_prefix (g.L.ElementList.listed l.found) (each (g.E.Element.reads l.size) (items_view (into_iter_items l.value-iterator)))
    ≡ each (g.E.Element.reads l.size) (items_view l.fn.values.items))
