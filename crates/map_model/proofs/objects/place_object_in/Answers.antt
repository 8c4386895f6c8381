use Rattle.std.proofs.Common.{rules}
use Rattle.map_model.specs.Objects.{object_with_placing}
use Rattle.map_model.proofs.ChangedObjects.{object_by}
use Rattle.map_model.proofs.objects.place_object_in.Goals as goal

pub returns-clause-layers : goal.returns-clause-layers
returns-clause-layers c =
    let e = c.change_object.ensures in
    object_by c.args.place (object_with_placing c.args.placing) c.args.layers.now c.change_object.new.layers e.object e.left e.found e.is (search rules)
