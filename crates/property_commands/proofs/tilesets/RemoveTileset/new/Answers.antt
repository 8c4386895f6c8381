use Rattle.std.proofs.Common.{rules}
use Rattle.property_commands.proofs.TilesetsAdded.{remove_tileset_made}
use Rattle.property_commands.proofs.tilesets.RemoveTileset.new.Goals as goal

pub returns-clause-command : goal.returns-clause-command
returns-clause-command c = remove_tileset_made c.args.document.now c.args.first_id c.in-Some.at (search rules) (search rules) (search rules)
