use Rattle.std.proofs.Common.{length, ◌-◌}
use Rattle.map_layout.proofs.parts.part_at.Given as goal

abbrev pub decreases-loop-at : goal.decreases-loop-at
decreases-loop-at l = length l.text - l.at
