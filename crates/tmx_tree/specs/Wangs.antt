-- Wang sets of a tileset: how tiles fit each other at corners and edges.
use Rattle.std.specs.Prelude.{ℕ, ◌==◌, ◌||◌, ◌&&◌, List, [], ◌∷◌, ◌++◌, length, Bool, false, codes, Option, Some, None, is_some, Result, Ok, Err}
use Rattle.std.specs.Prelude.{if◌then◌else◌}
use Rattle.serde_json.specs.Data.{Data, string, object, Members, no_members, put}
use Rattle.xml_text.specs.Xml.{Xml, Children, no_children, child}
use Rattle.tmx_tree.specs.declared.fault.Refusal.{Refusal}
use Rattle.tmx_tree.specs.declared.fault.Refusal.TheVariants.{WangId}
use Rattle.tmx_tree.specs.Answers.{◌>>=◌}
use Rattle.tmx_tree.specs.Rows.{with_rows}
use Rattle.tmx_tree.specs.Tables.{wang_set_rows, wang_color_rows, wang_tile_rows}
use Rattle.tmx_tree.specs.Elements.{Attributes, attributes_of, kids_of, is_named, first_named}
use Rattle.tmx_tree.specs.Texts.{one_of}
use Rattle.tmx_tree.specs.Properties.{text_at, own_properties}
use Rattle.tmx_tree.specs.Cells.{csv_cells, array_of}

-- ---- its colors
unfoldable pub with_color_of : Xml → List Data → Result (List Data) Refusal
with_color_of x found = do
  rows ← with_rows wang_color_rows (attributes_of x) no_members
  ms ← own_properties (kids_of x) rows
  Ok (found ++ object ms ∷ [])

abbrev pub with_color : Xml → List Data → Result (List Data) Refusal
with_color x found = if is_named (codes "wangcolor") x then with_color_of x found else Ok found

abbrev pub with_colors : Children → List Data → Result (List Data) Refusal
with_colors no_children found = Ok found
with_colors (child x xs) found = with_color x found >>= λ more. with_colors xs more

-- ---- its tiles: the number of a color, or 0, at each of eight corners and edges
unfoldable pub eight : Option (List Data) → Result Data Refusal
eight None = Err WangId
eight (Some ds) = if length ds == 8 then Ok (array_of ds) else Err WangId

unfoldable pub with_wang_tile_of : Xml → List Data → Result (List Data) Refusal
with_wang_tile_of x found = do
  ms ← with_rows wang_tile_rows (attributes_of x) no_members
  ids ← eight (csv_cells (text_at (codes "wangid") (attributes_of x)))
  Ok (found ++ object (put (codes "wangid") ids ms) ∷ [])

abbrev pub with_wang_tile : Xml → List Data → Result (List Data) Refusal
with_wang_tile x found = if is_named (codes "wangtile") x then with_wang_tile_of x found else Ok found

abbrev pub with_wang_tiles : Children → List Data → Result (List Data) Refusal
with_wang_tiles no_children found = Ok found
with_wang_tiles (child x xs) found = with_wang_tile x found >>= λ more. with_wang_tiles xs more

-- ---- a set
-- before Tiled 1.5 corners and edges had colors of their own
abbrev pub has_old_colors : Children → Bool
has_old_colors kids = is_some (first_named (codes "wangcornercolor") kids) || is_some (first_named (codes "wangedgecolor") kids)

abbrev pub wang_type : Attributes → List ℕ
wang_type attrs = one_of (codes "corner" ∷ codes "edge" ∷ []) (codes "mixed") (text_at (codes "type") attrs)

abbrev pub with_lists : List Data → List Data → Members → Members
with_lists colors tiles ms = put (codes "colors") (array_of colors) (put (codes "wangtiles") (array_of tiles) ms)

unfoldable pub wang_set : Xml → Result Data Refusal
wang_set x = do
  rows ← with_rows wang_set_rows (attributes_of x) no_members
  colors ← with_colors (kids_of x) []
  tiles ← with_wang_tiles (kids_of x) []
  ms ← own_properties (kids_of x) (with_lists colors tiles (put (codes "type") (string (wang_type (attributes_of x))) rows))
  Ok (object ms)

-- an old one is left out
abbrev pub with_new_set : Xml → List Data → Result (List Data) Refusal
with_new_set x found = if has_old_colors (kids_of x) then Ok found else (wang_set x >>= λ d. Ok (found ++ d ∷ []))

abbrev pub with_wang_set : Xml → List Data → Result (List Data) Refusal
with_wang_set x found = if is_named (codes "wangset") x then with_new_set x found else Ok found

abbrev pub with_wang_sets : Children → List Data → Result (List Data) Refusal
with_wang_sets no_children found = Ok found
with_wang_sets (child x xs) found = with_wang_set x found >>= λ more. with_wang_sets xs more

abbrev pub is_old_set : Xml → Bool
is_old_set x = is_named (codes "wangset") x && has_old_colors (kids_of x)

abbrev pub has_old_set : Children → Bool
has_old_set no_children = false
has_old_set (child x xs) = is_old_set x || has_old_set xs

abbrev pub has_old_sets : Option Xml → Bool
has_old_sets None = false
has_old_sets (Some x) = has_old_set (kids_of x)

-- those of a tileset, if it has any
unfoldable pub wang_sets : Option Xml → Result (List Data) Refusal
wang_sets None = Ok []
wang_sets (Some x) = with_wang_sets (kids_of x) []
