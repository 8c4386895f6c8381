use Rattle.std.proofs.Common.{◌≡◌}
use Rattle.infinite_maps.specs.Coverage.{covered_to}
use Rattle.infinite_maps.proofs.cover.add.Given as goal

abbrev pub invariant-loop-k : goal.invariant-loop-k
invariant-loop-k l = l.cover ≡ covered_to l.columns l.rectangle l.k l.initial.cover
