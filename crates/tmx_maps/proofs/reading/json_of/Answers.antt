use Rattle.serde_json.specs.View.{view}
use Rattle.xml_text.specs.Reading.{xml_of}
use Rattle.tmx_maps.proofs.Depths.{tree-depth}
use Rattle.tmx_maps.proofs.reading.json_of.Goals as goal

pub returns-clause-tree : goal.returns-clause-tree
returns-clause-tree c =
    let d = view c.in_ok-tree.tree in
    let within = tree-depth (xml_of c.args.bytes.now) d c.in_ok-tree.ensures.tree in
    (d, c.in_ok-tree.ensures.tree, (c.in_ok-text.ensures.utf8, c.in_ok-text.ensures.reads_back within))
