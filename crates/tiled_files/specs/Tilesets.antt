-- The text of JSON that the file of a tileset has.
use Rattle.std.specs.Prelude.{◌≡◌, ℕ, List, Bool, true, false, Result, Ok, Err, Option, Some, None, Vec}
use Rattle.std.specs.Global.{Global}
use Rattle.serde_json.specs.Data.{Members, object}
use Rattle.json_trees.specs.Texts.{IsTreeOf}
use Rattle.tiled_files.specs.declared.fault.FileFault.{FileFault}
use Rattle.tiled_files.specs.declared.fault.FileFault.TheVariants.{Aside, Xml}
use Rattle.tiled_maps.specs.declared.fault.Fault.TheVariants as aside
use Rattle.tmx_maps.specs.declared.fault.Fault.TheVariants as xml
use Rattle.tmx_maps.specs.Tilesets.{tsx_data, IsTilesetJsonOf}
use Rattle.tiled_files.specs.Kinds.{is_xml}

-- of JSON: the bytes themselves, if they are an object
abbrev pub HasTilesetJson : List ℕ → Result (Option (Vec ℕ Global)) FileFault → Type 0
HasTilesetJson bytes (Ok None) = (ms : Members) × IsTreeOf bytes (object ms)
HasTilesetJson bytes (Ok (Some text)) = ⊥
HasTilesetJson bytes (Err (Aside fault)) = (fault ≡ aside.Memory → ⊥) → (ms : Members) → IsTreeOf bytes (object ms) → ⊥
HasTilesetJson bytes (Err (Xml fault)) = ⊥

-- of XML: a text with the tree of the tileset
abbrev pub HasTilesetXml : List ℕ → Result (Option (Vec ℕ Global)) FileFault → Type 0
HasTilesetXml bytes (Ok None) = ⊥
HasTilesetXml bytes (Ok (Some text)) = IsTilesetJsonOf bytes text.items
HasTilesetXml bytes (Err (Aside fault)) = ⊥
HasTilesetXml bytes (Err (Xml fault)) = (fault ≡ xml.Memory → ⊥) → tsx_data bytes ≡ None

abbrev pub HasTilesetBy : Bool → List ℕ → Result (Option (Vec ℕ Global)) FileFault → Type 0
HasTilesetBy false bytes made = HasTilesetJson bytes made
HasTilesetBy true bytes made = HasTilesetXml bytes made

-- what `tileset_text` answers for the bytes of a file, as they are JSON or XML
abbrev pub HasTileset : List ℕ → Result (Option (Vec ℕ Global)) FileFault → Type 0
HasTileset bytes made = HasTilesetBy (is_xml bytes) bytes made
