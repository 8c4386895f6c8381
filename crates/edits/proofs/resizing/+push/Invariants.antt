use Rattle.std.proofs.Common.{◌≡◌, ◌+◌, ◌++◌, ◌*◌, map}
use Rattle.std.specs.List.{flat_map}
use Rattle.map_model.specs.Canvas.{lists_of, AreCells}
use Rattle.map_model.specs.Groups.{drawn}
use Rattle.map_model.specs.Keeping.{layer_tier}
use Rattle.map_model.specs.Lists.{Each}
use Rattle.edits.specs.Resizing.{resized_values}
use Rattle.edits.proofs.resizing.+push.Given as goal

abbrev pub decreases-push_layers : goal.decreases-push_layers
decreases-push_layers a = 2 * a.groups + 1

abbrev pub decreases-push_layer : goal.decreases-push_layer
decreases-push_layer a = 2 * a.groups

abbrev pub invariant-push_layers-loop-layer : goal.invariant-push_layers-loop-layer
invariant-push_layers-loop-layer l = record {
  lists : l.lists.items ++ map (resized_values l.parts l.to.width l.to.height l.to.dx l.to.dy) (flat_map lists_of (drawn l.groups layer_tier l.layer-iterator))
      ≡ l.fn.lists.items ++ map (resized_values l.parts l.to.width l.to.height l.to.dx l.to.dy) (flat_map lists_of (drawn l.groups layer_tier l.fn.layers));
  cells : Each (AreCells (l.parts.width * l.parts.height)) (flat_map lists_of (drawn l.groups layer_tier l.layer-iterator));
}
