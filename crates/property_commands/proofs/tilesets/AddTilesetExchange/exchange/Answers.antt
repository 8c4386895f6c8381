use Rattle.property_commands.specs.Names.{add_tileset_names}
use Rattle.property_commands.proofs.tilesets.AddTilesetExchange.exchange.Goals as goal

pub returns : goal.returns
returns c = c.exchange_tileset.ensures add_tileset_names
