use Rattle.std.proofs.Common.{◌≡◌}
use Rattle.infinite_maps.specs.Growth.{new_cells}
use Rattle.infinite_maps.proofs.growth.new_cells.Given as goal

abbrev pub invariant-loop-k : goal.invariant-loop-k
invariant-loop-k l = l.found.items ≡ new_cells l.columns l.cells l.cover l.rectangle l.k
