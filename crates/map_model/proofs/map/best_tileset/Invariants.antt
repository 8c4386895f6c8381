use Rattle.std.proofs.Common.{◌≡◌, None}
use Rattle.std.specs.Option.{option_copied}
use Rattle.map_model.specs.Tilesets.{best_of}
use Rattle.map_model.proofs.map.best_tileset.Given as goal

abbrev pub invariant-loop-tileset : goal.invariant-loop-tileset
invariant-loop-tileset l =
    best_of l.base (option_copied l.best) l.tileset-iterator ≡ best_of l.base None l.initial.tileset-iterator
