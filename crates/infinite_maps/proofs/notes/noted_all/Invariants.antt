use Rattle.std.proofs.Common.{◌≡◌, ◌++◌, drop}
use Rattle.serde_json.specs.View.{items_view}
use Rattle.infinite_maps.specs.Notes.{noted_all}
use Rattle.infinite_maps.proofs.notes.noted_all.Given as goal

abbrev pub invariant-loop-value : goal.invariant-loop-value
invariant-loop-value l = l.found.items ++ noted_all l.plane (items_view (drop l.value-index l.value-items))
    ≡ noted_all l.plane (items_view l.value-items)
