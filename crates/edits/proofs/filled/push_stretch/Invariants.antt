use Rattle.std.proofs.Common.{◌≡◌, ◌+◌, ◌-◌, ◌≤◌, ◌++◌}
use Rattle.std.specs.Prelude.{vec_len, vec_capacity}
use Rattle.edits.specs.Stretches.{stretch_edits}
use Rattle.edits.proofs.filled.push_stretch.Given as goal

abbrev pub invariant-loop-x : goal.invariant-loop-x
invariant-loop-x l = record {
  cells : l.cells.items ≡ l.fn.cells.items ++ stretch_edits l.stretch.y l.stretch.first l.before l.after (l.x - l.stretch.first);
  room : vec_len l.cells + (l.stretch.end - l.x) ≤ vec_capacity l.cells;
}
