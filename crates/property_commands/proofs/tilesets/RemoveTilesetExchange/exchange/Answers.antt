use Rattle.property_commands.specs.Names.{remove_tileset_names}
use Rattle.property_commands.proofs.tilesets.RemoveTilesetExchange.exchange.Goals as goal

pub returns : goal.returns
returns c = c.exchange_tileset.ensures remove_tileset_names
