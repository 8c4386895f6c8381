use Rattle.std.proofs.Common.{◌≡◌, ◌+◌, ◌*◌, ◌≤◌, length}
use Rattle.std.specs.Vec.Iter.{into_iter_items}
use Rattle.serde_json.specs.View.{items_view}
use Rattle.map_model.specs.declared.limits.TheConstants.{MAX_LAYERS}
use Rattle.map_json.specs.Elements.{each_counted}
use Rattle.map_json.specs.Reading.{layer_by, layers_at}
use Rattle.map_json.proofs.Loops.{counted_prefix}
use Rattle.map_json.proofs.layer.+layers.Given as goal

abbrev pub decreases-layers_in : goal.decreases-layers_in
decreases-layers_in g l = 4 * l.groups

abbrev pub decreases-body : goal.decreases-body
decreases-body g l = 4 * l.groups + 1

abbrev pub decreases-layer : goal.decreases-layer
decreases-layer g l = 4 * l.groups + 2

abbrev pub decreases-each_layer : goal.decreases-each_layer
decreases-each_layer g l = 4 * l.groups + 3

abbrev pub invariant-each_layer-loop-value : goal.invariant-each_layer-loop-value
invariant-each_layer-loop-value g l =
    let read = layer_by l.no_data (layers_at l.no_data l.groups l.size.width l.size.height) l.size.width l.size.height in
    (goal.iterator-each_layer-loop-value g).can_next l.value-iterator × (goal.iterator-each_layer-loop-value g).is_finite l.value-iterator
    × (length l.found + length (into_iter_items l.value-iterator) ≡ length l.fn.values.items)
    × (counted_prefix l.found (each_counted read l.count (items_view (into_iter_items l.value-iterator)))
    ≡ each_counted read l.initial.count (items_view l.fn.values.items))
    × (l.count ≤ MAX_LAYERS)
