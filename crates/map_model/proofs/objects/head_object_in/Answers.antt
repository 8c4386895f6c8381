use Rattle.std.proofs.Common.{rules}
use Rattle.map_model.specs.Heads.{object_with_head}
use Rattle.map_model.proofs.ChangedObjects.{object_by}
use Rattle.map_model.proofs.objects.head_object_in.Goals as goal

pub returns-clause-layers : goal.returns-clause-layers
returns-clause-layers c =
    let e = c.change_object.ensures in
    object_by c.args.place (object_with_head c.args.head) c.args.layers.now c.change_object.new.layers e.object e.left e.found e.is (search rules)
