use Rattle.std.proofs.Common.{arith}
use Rattle.std.proofs.lemmas.Grind.{common_steps}
use Rattle.edits.proofs.Resized.{scaled-IsShift}
use Rattle.edits.proofs.resizing.shift_of.Goals as goal

pub overflow_mul-result : goal.overflow_mul-result
overflow_mul-result c = grind (arith, common_steps)

pub overflow_mul-result-2 : goal.overflow_mul-result-2
overflow_mul-result-2 c = grind (arith, common_steps)

pub returns-clause-right : goal.returns-clause-right
returns-clause-right c = grind (arith, common_steps)

pub returns-clause-down : goal.returns-clause-down
returns-clause-down c = grind (arith, common_steps)

pub returns-clause-fits : goal.returns-clause-fits
returns-clause-fits c = (
  rw (returns-clause-right c) (scaled-IsShift c.args.dx c.args.parts.now.tile_width c.requires.distance.0 c.requires.tile.width_limit),
  rw (returns-clause-down c) (scaled-IsShift c.args.dy c.args.parts.now.tile_height c.requires.distance.1 c.requires.tile.height_limit),
)
