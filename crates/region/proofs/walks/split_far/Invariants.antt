use Rattle.std.proofs.Common.{length, ◌-◌, ◌≤◌, ◌<◌}
use Rattle.region.proofs.walks.split_far.Given as goal

abbrev pub invariant-loop-window : goal.invariant-loop-window
invariant-loop-window l = record { within : l.window ≤ length l.runs; some : 0 < length l.runs → 0 < l.window }

abbrev pub decreases-loop-window : goal.decreases-loop-window
decreases-loop-window l = length l.runs - l.window
