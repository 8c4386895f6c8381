use Rattle.std.proofs.Common.{rules}
use Rattle.map_model.specs.declared.limits.TheConstants.{MAX_GROUPS}
use Rattle.map_model.specs.CellEdits.{with_value}
use Rattle.map_model.specs.Lookups.{layer_with_tiles}
use Rattle.map_model.proofs.TreeChanges.{changed_by}
use Rattle.map_model.proofs.layers.set_in.Goals as goal

pub returns : goal.returns
returns c =
    let e = c.change_layer.ensures in
    let met = e.call.met in
    let shows = e.call.shows in
    let leaves = e.call.leaves in
    changed_by c.args.id MAX_GROUPS (layer_with_tiles (with_value c.args.at c.args.value)) c.args.layers.now c.change_layer.new.layers e.layer e.left e.found
    e.is (search rules)
