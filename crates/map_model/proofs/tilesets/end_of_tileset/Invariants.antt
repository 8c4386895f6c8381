use Rattle.std.proofs.Common.{◌≡◌}
use Rattle.map_model.specs.Uses.{base_limit, end_of}
use Rattle.map_model.proofs.tilesets.end_of_tileset.Given as goal

abbrev pub invariant-loop-tileset : goal.invariant-loop-tileset
invariant-loop-tileset l = end_of l.first_id l.end l.tileset-iterator ≡ end_of l.first_id base_limit l.initial.tileset-iterator
