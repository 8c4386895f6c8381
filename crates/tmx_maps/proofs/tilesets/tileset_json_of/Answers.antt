use Rattle.serde_json.specs.View.{view}
use Rattle.xml_text.specs.Reading.{xml_of}
use Rattle.tmx_maps.proofs.TilesetDepths.{tileset-depth}
use Rattle.tmx_maps.proofs.tilesets.tileset_json_of.Goals as goal

pub returns-clause-tree : goal.returns-clause-tree
returns-clause-tree c =
    let d = view c.in_ok-tree.tree in
    let within = tileset-depth (xml_of c.args.bytes.now) d c.in_ok-tree.ensures.tree in
    (d, c.in_ok-tree.ensures.tree, (c.in_ok-text.ensures.utf8, c.in_ok-text.ensures.reads_back within))
