use Rattle.std.proofs.Common.{◌≡◌, drop}
use Rattle.map_model.specs.declared.limits.TheConstants.{MAX_NEXT_ID}
use Rattle.map_model.specs.Lists.{Each}
use Rattle.map_model.specs.WellFormed.{IsId}
use Rattle.edits.specs.LayerEdits.{next_above_all}
use Rattle.layer_commands.proofs.add.above.Given as goal

abbrev pub invariant-loop-id : goal.invariant-loop-id
invariant-loop-id l =
    (next_above_all (drop l.id-index l.ids) l.above ≡ next_above_all l.fn.ids l.fn.next) × Each (IsId MAX_NEXT_ID) (drop l.id-index l.ids)
