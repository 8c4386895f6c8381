use Rattle.std.proofs.Common.{rules, List, ap}
use Rattle.std.specs.List.{remove}
use Rattle.map_model.specs.declared.limits.TheConstants.{MAX_GROUPS}
use Rattle.map_model.specs.declared.parts.Layer.{Layer}
use Rattle.map_model.specs.Groups.{layer_with_layers}
use Rattle.map_model.proofs.TreeChanges.{changed_by}
use Rattle.map_model.proofs.layers.take_layer_in.Goals as goal

pub returns-in-Some-clause-parts : goal.returns-in-Some-clause-parts
returns-in-Some-clause-parts c =
    let e = c.change_layer.ensures in
    let m = c.args.parts.now in
    rw c.in-Some.is (ap (λ (ls : List Layer). record m { layers = ls })
    (changed_by c.in-Some.group MAX_GROUPS (layer_with_layers (λ ls. remove ls c.args.place.at)) m.layers c.change_layer.new.layers e.layer e.left e.found e.is
    (search rules)))
