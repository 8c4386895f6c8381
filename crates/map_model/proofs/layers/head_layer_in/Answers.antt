use Rattle.std.proofs.Common.{rules}
use Rattle.map_model.specs.declared.limits.TheConstants.{MAX_GROUPS}
use Rattle.map_model.specs.Heads.{layer_with_head}
use Rattle.map_model.proofs.TreeChanges.{changed_by}
use Rattle.map_model.proofs.layers.head_layer_in.Goals as goal

pub returns-clause-layers : goal.returns-clause-layers
returns-clause-layers c =
    let e = c.change_layer.ensures in
    changed_by c.args.id MAX_GROUPS (layer_with_head c.args.head) c.args.layers.now c.change_layer.new.layers e.layer e.left e.found e.is (search rules)

pub returns-clause-given : goal.returns-clause-given
returns-clause-given c = rw c.change_layer.ensures.found (search rules)
