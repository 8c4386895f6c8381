-- What is opened of the bytes of a file.
use Rattle.std.specs.Prelude.{◌≡◌, ℕ, List, Bool, true, false, Result, Ok, Err, Option, Some, None, Vec}
use Rattle.std.specs.Global.{Global}
use Rattle.tiled_files.specs.declared.fault.FileFault.{FileFault}
use Rattle.tiled_files.specs.declared.fault.FileFault.TheVariants.{Aside, Xml}
use Rattle.tiled_maps.specs.Texts.{SetsAside, text_or}
use Rattle.tmx_maps.specs.Maps.{tmx_data}
use Rattle.tmx_maps.specs.Texts.{IsJsonOf}
use Rattle.tmx_maps.specs.declared.fault.Fault.TheVariants.{Memory}
use Rattle.tiled_files.specs.Kinds.{is_xml}

-- what `json_in` answers: JSON for XML that is a map, and nothing for what is no XML
abbrev pub HasJson : List ℕ → Result (Option (Vec ℕ Global)) FileFault → Type 0
HasJson bytes (Ok None) = is_xml bytes ≡ false
HasJson bytes (Ok (Some json)) = (is_xml bytes ≡ true) × IsJsonOf bytes json.items
HasJson bytes (Err (Aside fault)) = ⊥
HasJson bytes (Err (Xml fault)) = (is_xml bytes ≡ true) × ((fault ≡ Memory → ⊥) → tmx_data bytes ≡ None)

-- of JSON: what is set aside of it
abbrev pub OpensJson : List ℕ → Result (Option (Vec ℕ Global)) FileFault → Type 0
OpensJson bytes (Ok own) = SetsAside bytes (Ok own)
OpensJson bytes (Err (Aside fault)) = SetsAside bytes (Err fault)
OpensJson bytes (Err (Xml fault)) = ⊥

-- of XML: what is set aside of the JSON that says the same, or this JSON itself
abbrev pub OpensXml : List ℕ → Result (Option (Vec ℕ Global)) FileFault → Type 0
OpensXml bytes (Ok None) = ⊥
OpensXml bytes (Ok (Some text)) = (json : List ℕ) × (own : Option (Vec ℕ Global))
    × IsJsonOf bytes json × SetsAside json (Ok own) × (text.items ≡ text_or json own)
OpensXml bytes (Err (Aside fault)) = (json : List ℕ) × IsJsonOf bytes json × SetsAside json (Err fault)
OpensXml bytes (Err (Xml fault)) = (fault ≡ Memory → ⊥) → tmx_data bytes ≡ None

abbrev pub OpensBy : Bool → List ℕ → Result (Option (Vec ℕ Global)) FileFault → Type 0
OpensBy false bytes opened = OpensJson bytes opened
OpensBy true bytes opened = OpensXml bytes opened

-- what `opened` answers for the bytes of a file, as they are JSON or XML
abbrev pub Opens : List ℕ → Result (Option (Vec ℕ Global)) FileFault → Type 0
Opens bytes opened = OpensBy (is_xml bytes) bytes opened
