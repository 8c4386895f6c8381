use Rattle.std.proofs.Common.{◌≡◌, length}
use Rattle.std.specs.List.{list_any}
use Rattle.map_model.specs.Uses.{is_between}
use Rattle.map_model.proofs.tilesets.is_in_cells.Given as goal

abbrev pub invariant-loop-block : goal.invariant-loop-block
invariant-loop-block l = list_any (is_between l.low l.end) l.rest ≡ list_any (is_between l.low l.end) l.cells

abbrev pub decreases-loop-block : goal.decreases-loop-block
decreases-loop-block l = length l.rest
