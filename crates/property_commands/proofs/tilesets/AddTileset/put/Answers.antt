use Rattle.std.proofs.Common.{rules}
use Rattle.property_commands.proofs.TilesetsAdded.{put_tileset_made}
use Rattle.property_commands.proofs.tilesets.AddTileset.put.Goals as goal

pub returns-in-Ok-clause-command : goal.returns-in-Ok-clause-command
returns-in-Ok-clause-command c =
    let d = c.args.document.now in
    put_tileset_made d c.args.tileset c.len-at.result c.in-Ok.tileset (search rules) c.in-Ok.ensures.ok (search rules) c.requires (search rules) (search rules)
