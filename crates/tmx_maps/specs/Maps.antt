-- The tree of a map in XML.
use Rattle.std.specs.Prelude.{ℕ, List, Option, option_and_then}
use Rattle.serde_json.specs.Data.{Data}
use Rattle.xml_text.specs.Reading.{xml_of}
use Rattle.tmx_tree.specs.Maps.{tmx_tree}

abbrev pub tmx_data : List ℕ → Option Data
tmx_data bytes = option_and_then tmx_tree (xml_of bytes)
