use Rattle.std.proofs.Common.{rules}
use Rattle.map_model.specs.declared.limits.TheConstants.{MAX_GROUPS}
use Rattle.map_model.specs.CellEdits.{put_values}
use Rattle.map_model.specs.Lookups.{layer_with_tiles}
use Rattle.map_model.proofs.TreeChanges.{changed_by}
use Rattle.map_model.proofs.layers.put_alike_in.Goals as goal

pub returns-clause-layers : goal.returns-clause-layers
returns-clause-layers c =
    let e = c.change_layer.ensures in
    changed_by c.args.id MAX_GROUPS (layer_with_tiles (put_values c.args.width c.args.side c.args.edits.now)) c.args.layers.now c.change_layer.new.layers
    e.layer e.left e.found e.is (search rules)
