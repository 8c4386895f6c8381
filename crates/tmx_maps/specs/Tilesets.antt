-- The tree of a tileset in XML, which is a file of its own.
use Rattle.std.specs.Prelude.{◌≡◌, ℕ, List, Option, Some, option_and_then}
use Rattle.serde_json.specs.Data.{Data}
use Rattle.json_trees.specs.Texts.{IsTreeOf}
use Rattle.xml_text.specs.Reading.{xml_of}
use Rattle.tmx_tree.specs.TilesetFiles.{tsx_tree}

abbrev pub tsx_data : List ℕ → Option Data
tsx_data bytes = option_and_then tsx_tree (xml_of bytes)

-- the text of JSON has the tree of the tileset in XML
abbrev pub IsTilesetJsonOf : List ℕ → List ℕ → Type 0
IsTilesetJsonOf xml text = (d : Data) × (tsx_data xml ≡ Some d) × IsTreeOf text d
