use Rattle.std.proofs.Common.{length, ◌-◌}
use Rattle.map_layout.proofs.learn.Signs.see_array.Given as goal

abbrev pub decreases-loop-at : goal.decreases-loop-at
decreases-loop-at l = length l.array - l.at
