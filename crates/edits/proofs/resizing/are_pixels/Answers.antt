use Rattle.std.proofs.Common.{arith}
use Rattle.std.proofs.lemmas.Grind.{common_steps}
use Rattle.edits.proofs.resizing.are_pixels.Goals as goal

pub overflow_add-moved : goal.overflow_add-moved
overflow_add-moved c = grind (arith, common_steps)

pub returns-then-from-moved : goal.returns-then-from-moved
returns-then-from-moved c = grind (arith, common_steps)

pub returns-else-from-moved : goal.returns-else-from-moved
returns-else-from-moved c = grind (arith, common_steps)
