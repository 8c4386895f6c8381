-- The cells of a layer, as an array or in base64: how they are read, and the bytes that are written.
use Rattle.std.specs.Prelude.{ℕ, ◌*◌, ◌^◌, ◌++◌, ◌||◌, ◌&&◌, ◌==◌, List, [], ◌∷◌, length, filter, nat_lt, not, Bool, if◌then◌else◌, Option, Some, None}
use Rattle.std.specs.Prelude.{option_map, option_and_then, Result, Ok, Err}
use Rattle.std.specs.List.{list_all}
use Rattle.std.specs.Int.{w32, from_le_bytes, to_le_bytes}
use Rattle.std.specs.Result.{result_ok}
use Rattle.std.specs.Option.{ok_or}
use Rattle.base64.specs.Engines.{standard}
use Rattle.base64.specs.GeneralPurpose.{decode_of}
use Rattle.serde_json.specs.Data.{Data, Items, no_items, item}
use Rattle.serde_json.specs.Find.{as_number, as_u64, as_str, as_array}
use Rattle.map_model.specs.Refusing.{◌>>=◌}
use Rattle.refusals.specs.declared.map_refusal.MapRefusal.{MapRefusal}
use Rattle.refusals.specs.declared.map_refusal.MapRefusal.TheVariants.{MemberOfAnotherKind, BadData}

-- a whole number of 32 bits
unfoldable pub cell_of : Data → Option ℕ
cell_of d = option_and_then (λ n. option_and_then (λ k. if nat_lt k (2 ^ 32) then Some k else None) (as_u64 n)) (as_number d)

abbrev pub cells_of : Items → Option (List ℕ)
cells_of no_items = Some []
cells_of (item d ds) = option_and_then (λ c. option_map (λ cs. c ∷ cs) (cells_of ds)) (cell_of d)

unfoldable pub array_cells_at : ℕ → Data → Result (List ℕ) MapRefusal
array_cells_at count d = do
  ds ← ok_or (as_array d) MemberOfAnotherKind
  cells ← ok_or (cells_of ds) BadData
  if length cells == count then Ok cells else Err BadData

-- a space, a tab, CR or LF
abbrev pub is_blank : ℕ → Bool
is_blank b = b == 32 || b == 9 || b == 13 || b == 10

abbrev pub packed : List ℕ → List ℕ
packed text = filter (λ b. not (is_blank b)) text

-- four bytes a number, the least significant first
unfoldable pub words_of : List ℕ → List ℕ
words_of [] = []
words_of (a ∷ []) = []
words_of (a ∷ b ∷ []) = []
words_of (a ∷ b ∷ c ∷ []) = []
words_of (a ∷ b ∷ c ∷ d ∷ rest) = from_le_bytes w32 (a ∷ b ∷ c ∷ d ∷ []) ∷ words_of rest

-- what decoding gives is bytes, which the test says again
abbrev pub is_byte : ℕ → Bool
is_byte b = nat_lt b 256

unfoldable pub base64_cells_at : ℕ → Data → Result (List ℕ) MapRefusal
base64_cells_at count d = do
  text ← ok_or (as_str d) MemberOfAnotherKind
  bytes ← ok_or (result_ok (decode_of standard (packed text))) BadData
  if length bytes == 4 * count && list_all is_byte bytes then Ok (words_of bytes) else Err BadData

-- four bytes a value, the least significant first
abbrev pub bytes_of : List ℕ → List ℕ
bytes_of [] = []
bytes_of (n ∷ ns) = to_le_bytes w32 n ++ bytes_of ns
