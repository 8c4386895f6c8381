use Rattle.std.proofs.Common.{◌≡◌, ◌*◌}
use Rattle.edits.specs.Flooding.{changes_below}
use Rattle.edits.proofs.filled.changes_of.Given as goal

abbrev pub invariant-loop-word : goal.invariant-loop-word
invariant-loop-word l = l.cells.items ≡ changes_below l.ground l.spread l.value (64 * l.word)
