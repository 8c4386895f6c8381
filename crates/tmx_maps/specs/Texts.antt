-- What is answered for texts.
use Rattle.std.specs.Prelude.{◌≡◌, ℕ, List, Some}
use Rattle.serde_json.specs.Data.{Data}
use Rattle.json_trees.specs.Texts.{IsTreeOf}
use Rattle.tmx_maps.specs.Maps.{tmx_data}
use Rattle.tmx_maps.specs.SameMap.{IsSameMap}

-- the text of JSON has the tree of the map in XML
abbrev pub IsJsonOf : List ℕ → List ℕ → Type 0
IsJsonOf xml text = (d : Data) × (tmx_data xml ≡ Some d) × IsTreeOf text d

-- the text is read as a map
abbrev pub IsTold : Data → List ℕ → Type 0
IsTold d text = (e : Data) × (tmx_data text ≡ Some e) × IsSameMap d e

-- where the source is that map, the text is the source
abbrev pub IsToldAs : Data → List ℕ → List ℕ → Type 0
IsToldAs d source text = (e : Data) → tmx_data source ≡ Some e → IsSameMap d e → text ≡ source
