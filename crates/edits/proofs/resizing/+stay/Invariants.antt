use Rattle.std.proofs.Common.{◌≡◌}
use Rattle.std.specs.List.{list_all}
use Rattle.map_model.specs.Groups.{drawn}
use Rattle.map_model.specs.Keeping.{layer_tier}
use Rattle.edits.specs.Resizing.{drawn_stays}
use Rattle.edits.proofs.resizing.+stay.Given as goal

abbrev pub invariant-layers_stay-loop-layer : goal.invariant-layers_stay-loop-layer
invariant-layers_stay-loop-layer l =
    list_all (drawn_stays l.shift.right l.shift.down) (drawn l.groups layer_tier l.layer-iterator)
    ≡ list_all (drawn_stays l.shift.right l.shift.down) (drawn l.groups layer_tier l.fn.layers)
