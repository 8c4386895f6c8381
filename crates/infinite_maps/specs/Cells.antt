-- The cells of a layer or chunk, as an array of numbers or in base64, four bytes a cell, the least significant first.
use Rattle.std.specs.Prelude.{ℕ, ◌+◌, ◌*◌, ◌/◌, ◌%◌, List, [], ◌∷◌, map, slice_index, Bool, is_some, Option, Some, None, option_map, option_and_then, unwrap_or}
use Rattle.std.specs.Prelude.{if◌then◌else◌}
use Rattle.std.specs.List.{range_with_len}
use Rattle.std.specs.Result.{result_ok}
use Rattle.base64.specs.Engines.{standard}
use Rattle.base64.specs.GeneralPurpose.{decode_of, encode_of}
use Rattle.serde_json.specs.Data.{unsigned, Data, null, boolean, number, string, array, object, Items, no_items, item}
use Rattle.serde_json.specs.Find.{as_number, as_u64, as_str}
use Rattle.serde_json.specs.View.{items_of}
use Rattle.infinite_maps.specs.declared.rectangle.Rectangle.{Rectangle}
use Rattle.infinite_maps.specs.Rectangles.{area, place}

-- a whole number; 0 where there is none
abbrev pub whole : Data → ℕ
whole d = unwrap_or (option_and_then as_u64 (as_number d)) 0

abbrev pub wholes : Items → List ℕ
wholes no_items = []
wholes (item d ds) = whole d ∷ wholes ds

abbrev pub words_of : List ℕ → List ℕ
words_of [] = []
words_of (a ∷ []) = []
words_of (a ∷ b ∷ []) = []
words_of (a ∷ b ∷ c ∷ []) = []
words_of (a ∷ b ∷ c ∷ d ∷ rest) = (a + 256 * b + 65536 * c + 16777216 * d) ∷ words_of rest

abbrev pub bytes_of : List ℕ → List ℕ
bytes_of [] = []
bytes_of (n ∷ ns) = n % 256 ∷ n / 256 % 256 ∷ n / 65536 % 256 ∷ n / 16777216 % 256 ∷ bytes_of ns

abbrev pub is_text : Data → Bool
is_text d = is_some (as_str d)

-- the cells that data spell, if they do
abbrev pub cells_of : Data → Option (List ℕ)
cells_of null = None
cells_of (boolean b) = None
cells_of (number n) = None
cells_of (string s) = option_map words_of (result_ok (decode_of standard s))
cells_of (array ds) = Some (wholes ds)
cells_of (object ms) = None

-- cells as a text of base64, or as an array
unfoldable pub cells_data : Bool → List ℕ → Data
cells_data text cells = if text then string (encode_of standard (bytes_of cells)) else array (items_of (map (λ n. number (unsigned n)) cells))

-- the cells of a layer of so many columns in a rectangle, row by row
unfoldable pub cut : ℕ → List ℕ → Rectangle → List ℕ
cut columns cells r = map (λ k. slice_index cells (place columns r k)) (range_with_len 0 (area r))
