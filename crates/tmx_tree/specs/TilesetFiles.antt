-- A tileset in XML, a file of its own, as the tree that Tiled's JSON has of it.
use Rattle.std.specs.Prelude.{codes, Option, Result, Err, if◌then◌else◌}
use Rattle.std.specs.Result.{result_ok}
use Rattle.serde_json.specs.Data.{Data, object}
use Rattle.xml_text.specs.Xml.{Xml}
use Rattle.tmx_tree.specs.declared.fault.Refusal.{Refusal}
use Rattle.tmx_tree.specs.declared.fault.Refusal.TheVariants.{NotATileset}
use Rattle.tmx_tree.specs.Answers.{◌>>=◌}
use Rattle.tmx_tree.specs.Elements.{is_named}
use Rattle.tmx_tree.specs.Tilesets.{file_members}
use Rattle.tmx_tree.specs.Maps.{within}

-- the tree, or why there is none
abbrev pub tileset_tree_of : Xml → Result Data Refusal
tileset_tree_of x = if is_named (codes "tileset") x then (file_members x >>= λ ms. within (object ms)) else Err NotATileset

abbrev pub tsx_tree : Xml → Option Data
tsx_tree x = result_ok (tileset_tree_of x)
