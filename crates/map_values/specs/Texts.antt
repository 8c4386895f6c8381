-- A text that grows by a value, which is read again; and the text of numbers.
use Rattle.std.specs.Prelude.{◌≡◌, IsUtf8, ℕ, List, ◌∷◌, ◌++◌, Some, decimal}
use Rattle.std.specs.List.{flat_map}
use Rattle.json.specs.Tree.{HasNumbers}
use Rattle.serde_json.specs.Data.{Data}
use Rattle.serde_json.specs.Read.{of_json}
use Rattle.serde_json.specs.Written.{compact_text, outline}

-- the value's text is UTF-8, and its JSON reads as the value
pub record Returns (d : Data) : Type 0 where
  pub utf8 : IsUtf8 (compact_text d)
  pub numbers : HasNumbers (outline d)
  pub reads : of_json (outline d) ≡ Some d

-- the new text is the old one and the value's, which reads as the value
abbrev pub Appends : Data → List ℕ → List ℕ → Type 0
Appends d old new = (new ≡ old ++ compact_text d) × Returns d

-- numbers, each behind a comma
abbrev pub numbers_text : List ℕ → List ℕ
numbers_text ns = flat_map (λ n. 44 ∷ decimal n) ns
