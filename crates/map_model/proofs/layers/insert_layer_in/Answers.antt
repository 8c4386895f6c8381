use Rattle.std.proofs.Common.{rules}
use Rattle.std.specs.List.{insert}
use Rattle.map_model.specs.declared.limits.TheConstants.{MAX_GROUPS}
use Rattle.map_model.specs.declared.parts.Layer.{Layer}
use Rattle.map_model.specs.Groups.{layer_with_layers}
use Rattle.map_model.proofs.TreeChanges.{changed_map, changed_with}
use Rattle.map_model.proofs.layers.insert_layer_in.Goals as goal

pub returns-in-Some : goal.returns-in-Some
returns-in-Some c =
    let e = c.change_layer.ensures in
    let m = c.args.parts.now in
    let f = λ (l : Layer). layer_with_layers (λ ls. insert ls c.args.place.at l) in
    rw c.in-Some.is (changed_map c.in-Some.group f c.args.layer m c.change_layer.new.layers
    (changed_with c.in-Some.group MAX_GROUPS f c.args.layer m.layers c.change_layer.new.layers e.layer e.left e.found e.is (search rules)))
