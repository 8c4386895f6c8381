use Rattle.std.proofs.Common.{◌-◌}
use Rattle.edits.specs.Merging.{AreNumbersAround}
use Rattle.edits.proofs.merging.number_between.Given as goal

abbrev pub invariant-loop-low : goal.invariant-loop-low
invariant-loop-low l = AreNumbersAround l.older l.newer l.low l.high

abbrev pub decreases-loop-low : goal.decreases-loop-low
decreases-loop-low l = l.high - l.low
