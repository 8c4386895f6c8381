use Rattle.std.proofs.Common.{◌≡◌, ◌++◌}
use Rattle.std.specs.List.{flat_map}
use Rattle.map_model.specs.WellFormed.{first_ids_of}
use Rattle.map_lists.proofs.first_ids.first_ids_of.Given as goal

abbrev pub invariant-loop-tileset : goal.invariant-loop-tileset
invariant-loop-tileset l = l.ids.items ++ flat_map first_ids_of l.tileset-iterator ≡ flat_map first_ids_of l.fn.map.tilesets
