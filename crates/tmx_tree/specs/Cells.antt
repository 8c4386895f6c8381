-- The cells of a layer or a chunk: as an array of numbers, or as a text in base64.
use Rattle.std.specs.Prelude.{ℕ, ◌-◌, ◌*◌, ◌%◌, ◌^◌, ◌==◌, ◌||◌, ℤ, pos, List, [], ◌∷◌, ◌++◌, length, replicate, Bool, nat_le, codes, Option, Some, None}
use Rattle.std.specs.Prelude.{option_and_then, unwrap_or, Result, Ok, Err}
use Rattle.std.specs.Prelude.{if◌then◌else◌}
use Rattle.std.specs.Str.{bytes_eq, trim}
use Rattle.serde_json.specs.Data.{unsigned, Data, number, string, array}
use Rattle.serde_json.specs.View.{items_of}
use Rattle.xml_text.specs.Xml.{Xml, Children, no_children, child}
use Rattle.tmx_tree.specs.declared.cells.TheConstants.{MOST_CELLS}
use Rattle.tmx_tree.specs.declared.cells.Form.{Form}
use Rattle.tmx_tree.specs.declared.cells.Form.TheVariants.{Elements, Csv, Base64}
use Rattle.tmx_tree.specs.declared.fault.Refusal.{Refusal}
use Rattle.tmx_tree.specs.declared.fault.Refusal.TheVariants.{Encoding, Cells}
use Rattle.tmx_tree.specs.Answers.{◌>>=◌}
use Rattle.tmx_tree.specs.Numbers.{is_digit, with_digit, unsigned_of, whole_of}
use Rattle.tmx_tree.specs.Elements.{Attributes, attribute, attributes_of, is_named, text_in}
use Rattle.tmx_tree.specs.Texts.{is_one_of}
use Rattle.tmx_tree.specs.Properties.{is_blank}

-- ---- the format
abbrev pub packings : List (List ℕ)
packings = [] ∷ codes "zlib" ∷ codes "gzip" ∷ codes "zstd" ∷ []

abbrev pub form_of : List ℕ → List ℕ → Result Form Refusal
form_of encoding packing =
    if bytes_eq encoding [] then Ok Elements
    else (if bytes_eq encoding (codes "csv") then Ok Csv
    else (if bytes_eq encoding (codes "base64") then (if is_one_of packings packing then Ok Base64 else Err Encoding)
    else Err Encoding))

-- ---- numbers between commas; blanks may stand anywhere, and nothing is 0
abbrev pub cell : ℕ → Data
cell n = number (unsigned n)

abbrev pub is_space : ℕ → Bool
is_space c = c == 32 || (c == 9 || (c == 10 || c == 13))

-- the cells that a text spells behind those found, where a number has begun
abbrev pub csv_from : List Data → ℕ → List ℕ → Option (List Data)
csv_from found n [] = Some (found ++ cell n ∷ [])
csv_from found n (c ∷ cs) =
    if is_space c then csv_from found n cs
    else (if c == 44 then csv_from (found ++ cell n ∷ []) 0 cs
    else (if is_digit c then csv_from found (with_digit n c % 2 ^ 32) cs else None))

-- what stands behind those found, if the text is fine
abbrev pub if_fine : Bool → List Data → Option (List Data)
if_fine fine ds = if fine then Some ds else None

abbrev pub csv_cells : List ℕ → Option (List Data)
csv_cells s = if is_blank s then Some [] else csv_from [] 0 s

-- just so many
abbrev pub counted : ℕ → Option (List Data) → Result (List Data) Refusal
counted n None = Err Cells
counted n (Some ds) = if length ds == n then Ok ds else Err Cells

-- ---- elements, each with its tile; 0 where there is none, and behind the last one
abbrev pub element_cell : Xml → Data
element_cell x = cell (unwrap_or (option_and_then unsigned_of (attribute (codes "gid") (attributes_of x))) 0)

abbrev pub with_tile : Xml → List Data → List Data
with_tile x found = if is_named (codes "tile") x then found ++ element_cell x ∷ [] else found

abbrev pub with_tiles : Children → List Data → List Data
with_tiles no_children found = found
with_tiles (child x xs) found = with_tiles xs (with_tile x found)

abbrev pub padded : ℕ → List Data → Result (List Data) Refusal
padded n ds = if nat_le (length ds) n then Ok (ds ++ replicate (n - length ds) (cell 0)) else Err Cells

-- ---- all of them
abbrev pub side : List ℕ → Attributes → ℕ
side k attrs = unwrap_or (option_and_then unsigned_of (attribute k attrs)) 0

abbrev pub whole_at : List ℕ → Attributes → ℤ
whole_at k attrs = unwrap_or (option_and_then whole_of (attribute k attrs)) (pos 0)

-- width times height, as far as a layer may have cells
abbrev pub cell_count : Attributes → Result ℕ Refusal
cell_count attrs =
    if nat_le (side (codes "width") attrs * side (codes "height") attrs) MOST_CELLS then Ok (side (codes "width") attrs * side (codes "height") attrs)
    else Err Cells

abbrev pub array_of : List Data → Data
array_of ds = array (items_of ds)

-- the cells that stand in an element
abbrev pub cells_in : Form → ℕ → Children → Result Data Refusal
cells_in Elements n kids = padded n (with_tiles kids []) >>= λ ds. Ok (array_of ds)
cells_in Csv n kids = counted n (csv_cells (text_in kids)) >>= λ ds. Ok (array_of ds)
cells_in Base64 n kids = Ok (string (trim (text_in kids)))
