use Rattle.std.proofs.Common.{◌+◌, ◌-◌, ◌*◌, ◌<◌, length, take}
use Rattle.map_model.specs.Alike.{AreSideBySide}
use Rattle.map_model.proofs.alike.row_length.Given as goal

abbrev pub invariant-loop-step : goal.invariant-loop-step
invariant-loop-step l = record {
  within : l.last < length l.edits;
  row : AreSideBySide (take (l.last + 1) l.edits);
}

abbrev pub decreases-loop-step : goal.decreases-loop-step
decreases-loop-step l = 2 * (length l.edits - l.last) + l.step
