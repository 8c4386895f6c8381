use Rattle.std.proofs.Common.{rules}
use Rattle.map_values.specs.Scalars.{signed_at}
use Rattle.map_values.proofs.scalar.pixels.Goals as goal

pub returns-then-whole-from : goal.returns-then-whole-from
unfolding signed_at
returns-then-whole-from c = search rules
