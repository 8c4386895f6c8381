use Rattle.std.proofs.Common.{rules}
use Rattle.map_model.specs.declared.limits.TheConstants.{MAX_GROUPS}
use Rattle.std.specs.List.{remove}
use Rattle.map_model.specs.Objects.{layer_with_objects}
use Rattle.map_model.proofs.TreeChanges.{changed_by}
use Rattle.map_model.proofs.objects.take_object_in.Goals as goal

pub returns-clause-layers : goal.returns-clause-layers
returns-clause-layers c =
    let e = c.change_layer.ensures in
    changed_by c.args.place.layer MAX_GROUPS (layer_with_objects (λ os. remove os c.args.place.at)) c.args.layers.now c.change_layer.new.layers e.layer e.left
    e.found e.is (search rules)
