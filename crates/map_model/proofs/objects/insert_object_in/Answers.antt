use Rattle.std.proofs.Common.{rules}
use Rattle.std.specs.List.{insert}
use Rattle.map_model.specs.declared.limits.TheConstants.{MAX_GROUPS}
use Rattle.map_model.specs.declared.parts.Object.{Object}
use Rattle.map_model.specs.Objects.{layer_with_objects}
use Rattle.map_model.proofs.TreeChanges.{changed_with}
use Rattle.map_model.proofs.objects.insert_object_in.Goals as goal

pub returns : goal.returns
returns c =
    let e = c.change_layer.ensures in
    changed_with c.args.place.layer MAX_GROUPS (λ (o : Object). layer_with_objects (λ os. insert os c.args.place.at o)) c.args.object c.args.layers.now
    c.change_layer.new.layers e.layer e.left e.found e.is (search rules)
