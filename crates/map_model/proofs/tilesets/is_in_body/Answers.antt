use Rattle.std.proofs.Common.{rules}
use Rattle.map_model.proofs.TilesetChanges.{list_any-flat_map}
use Rattle.map_model.proofs.tilesets.is_in_body.Goals as goal

pub returns-in-Objects : goal.returns-in-Objects
returns-in-Objects c = search (rules, list_any-flat_map)
