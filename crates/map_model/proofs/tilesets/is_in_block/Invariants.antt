use Rattle.std.proofs.Common.{◌≡◌, ◌||◌, drop}
use Rattle.std.specs.List.{list_any}
use Rattle.map_model.specs.Uses.{is_between}
use Rattle.map_model.proofs.tilesets.is_in_block.Given as goal

abbrev pub invariant-loop-value : goal.invariant-loop-value
invariant-loop-value l = (l.found || list_any (is_between l.low l.end) (drop l.value-index l.block)) ≡ list_any (is_between l.low l.end) l.block
