use Rattle.std.proofs.Common.{◌≡◌, length}
use Rattle.map_model.specs.Lists.{Each}
use Rattle.map_model.specs.Alike.{fill_values}
use Rattle.map_model.specs.CellEdits.{IsBelow}
use Rattle.map_model.proofs.alike.put_each.Given as goal

abbrev pub invariant-loop-rest : goal.invariant-loop-rest
invariant-loop-rest l = record {
  values : fill_values l.width l.value l.rest l.values ≡ fill_values l.width l.value l.edits l.initial.values;
  inside : Each (IsBelow l.width (length l.values)) l.rest;
}

abbrev pub decreases-loop-rest : goal.decreases-loop-rest
decreases-loop-rest l = length l.rest
