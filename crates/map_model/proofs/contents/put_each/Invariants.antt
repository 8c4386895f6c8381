use Rattle.std.proofs.Common.{◌≡◌, length}
use Rattle.map_model.specs.Lists.{Each}
use Rattle.map_model.specs.CellEdits.{put_values, HaveRange, IsBelow}
use Rattle.map_model.proofs.contents.put_each.Given as goal

abbrev pub invariant-loop-rest : goal.invariant-loop-rest
invariant-loop-rest l = record {
  values : put_values l.width l.side l.rest l.values ≡ put_values l.width l.side l.edits l.initial.values;
  range : HaveRange l.side l.rest → HaveRange l.side l.edits;
  inside : Each (IsBelow l.width (length l.values)) l.rest;
}

abbrev pub decreases-loop-rest : goal.decreases-loop-rest
decreases-loop-rest l = length l.rest
