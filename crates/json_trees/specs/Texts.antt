-- Texts of trees.
use Rattle.std.specs.Prelude.{◌≡◌, IsUtf8, ℕ, List, Some}
use Rattle.serde_json.specs.Data.{Data}
use Rattle.serde_json.specs.Read.{read}

-- the bytes are UTF-8, and a JSON text of this tree
abbrev pub IsTreeOf : List ℕ → Data → Type 0
IsTreeOf bytes d = IsUtf8 bytes × (read bytes ≡ Some d)
