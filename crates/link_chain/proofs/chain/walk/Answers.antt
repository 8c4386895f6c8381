use Rattle.std.proofs.Common.{arith}
use Rattle.std.proofs.lemmas.Grind.{common_steps}
use Rattle.link_chain.proofs.Cuts.{take-past, drop-past}
use Rattle.link_chain.proofs.chain.walk.Goals as goal

pub returns-else-at-here-clause-before : goal.returns-else-at-here-clause-before
returns-else-at-here-clause-before g c = grind (arith, common_steps, take-past)

pub returns-else-at-here-clause-after : goal.returns-else-at-here-clause-after
returns-else-at-here-clause-after g c = grind (arith, common_steps, drop-past)
