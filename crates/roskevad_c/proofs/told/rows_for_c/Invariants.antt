use Rattle.std.proofs.Common.{◌≡◌, map, take}
use Rattle.roskevad_c.specs.Things.{row_of}
use Rattle.roskevad_c.proofs.told.rows_for_c.Given as goal

abbrev pub invariant-loop-row : goal.invariant-loop-row
invariant-loop-row l = l.made.items ≡ map row_of (take l.row-index l.rows)
