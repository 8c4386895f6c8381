use Rattle.std.proofs.Common.{rules, ap, List}
use Rattle.map_model.specs.declared.limits.TheConstants.{MAX_GROUPS}
use Rattle.map_model.specs.declared.parts.Layer.{Layer}
use Rattle.map_model.specs.Lists.{change_at}
use Rattle.map_model.specs.Properties.{layer_with_properties, object_with_properties, property_with_setting}
use Rattle.map_model.proofs.ChangedObjects.{object_by}
use Rattle.map_model.proofs.TreeChanges.{changed_by}
use Rattle.map_model.proofs.properties.replace_in.Goals as goal

pub returns-in-Layer-clause-parts : goal.returns-in-Layer-clause-parts
returns-in-Layer-clause-parts c =
    let e = c.change_layer.ensures in
    let m = c.args.parts.now in
    rw c.in-Layer.is (ap (λ (ls : List Layer). record m { layers = ls })
    (changed_by c.in-Layer.id MAX_GROUPS (layer_with_properties (change_at c.args.at (property_with_setting c.args.setting))) m.layers c.change_layer.new.layers
    e.layer e.left e.found e.is (search rules)))

pub returns-in-Object-clause-parts : goal.returns-in-Object-clause-parts
returns-in-Object-clause-parts c =
    let e = c.change_object.ensures in
    let m = c.args.parts.now in
    let place = c.in-Object.place in
    rw c.in-Object.is (ap (λ (ls : List Layer). record m { layers = ls })
    (object_by place (object_with_properties (change_at c.args.at (property_with_setting c.args.setting))) m.layers c.change_object.new.layers e.object e.left
    e.found e.is (search rules)))
