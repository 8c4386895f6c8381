use Rattle.std.proofs.Common.{rules}
use Rattle.property_commands.proofs.TilesetsAdded.{add_tileset_made}
use Rattle.property_commands.proofs.tilesets.AddTileset.new.Goals as goal

pub returns-in-Ok-clause-command : goal.returns-in-Ok-clause-command
returns-in-Ok-clause-command c =
    let d = c.args.document.now in
    add_tileset_made d c.args.first_id c.args.source.now c.len-at.result c.in-Ok.tileset c.utf8.source
    (search rules) c.in-Ok.ensures (search rules) (search rules) (search rules) (search rules) (search rules)
