use Rattle.std.proofs.Common.{◌≡◌, ◌++◌}
use Rattle.infinite_maps.specs.Growth.{row_pieces}
use Rattle.infinite_maps.proofs.growth.add_row.Given as goal

abbrev pub invariant-loop-i : goal.invariant-loop-i
invariant-loop-i l = l.found.items ≡ l.initial.found.items ++ row_pieces l.plane l.cells l.cover l.j l.i
