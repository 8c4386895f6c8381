use Rattle.std.proofs.Common.{◌≡◌}
use Rattle.infinite_maps.specs.Growth.{rows_pieces}
use Rattle.infinite_maps.proofs.growth.grown.Given as goal

abbrev pub invariant-loop-j : goal.invariant-loop-j
invariant-loop-j l = l.found.items ≡ rows_pieces l.plane l.cells l.cover l.j
