-- Tilesets: those of a map, which are files of their own or in the map itself; and such a file.
use Rattle.std.specs.Prelude.{ℕ, ◌&&◌, ◌||◌, not, ℤ, pos, List, [], ◌∷◌, ◌++◌, Bool, true, false, codes, Option, Some, None, option_and_then}
use Rattle.std.specs.Prelude.{Result, Ok, Err, is_some}
use Rattle.std.specs.Prelude.{if◌then◌else◌}
use Rattle.std.specs.Ordering.{int_eq}
use Rattle.std.specs.Str.{bytes_eq}
use Rattle.serde_json.specs.Data.{unsigned, Data, number, string, object, Members, no_members, member, put}
use Rattle.json_members.specs.Members.{put_some}
use Rattle.xml_text.specs.Xml.{Xml, Children, no_children, child}
use Rattle.tmx_tree.specs.declared.fault.Refusal.{Refusal}
use Rattle.tmx_tree.specs.declared.fault.Refusal.TheVariants.{OldTileset}
use Rattle.tmx_tree.specs.Answers.{◌>>=◌}
use Rattle.tmx_tree.specs.Rows.{whole_data, is_whole_data, with_rows}
use Rattle.tmx_tree.specs.Tables.{tileset_rows, embedded_rows, file_rows, turning_rows, tile_rows, frame_rows}
use Rattle.tmx_tree.specs.Cells.{side, whole_at}
use Rattle.tmx_tree.specs.Elements.{Attributes, attributes_of, kids_of, is_named, first_named}
use Rattle.tmx_tree.specs.Texts.{one_of}
use Rattle.tmx_tree.specs.Properties.{text_at, unless_none, own_properties}
use Rattle.tmx_tree.specs.Objects.{said_id, text_unless}
use Rattle.tmx_tree.specs.Layers.{transparent, object_layer}
use Rattle.tmx_tree.specs.Wangs.{has_old_sets, wang_sets}
use Rattle.tmx_tree.specs.Counts.{has_counts, with_counts}

-- ---- a file of its own: the id of its first tile, and the file
abbrev pub external : Attributes → Data
external attrs =
    object (put (codes "firstgid") (number (unsigned (side (codes "firstgid") attrs))) (put (codes "source") (string (text_at (codes "source") attrs)) no_members))

-- ---- its picture, or that of a tile
abbrev pub unless_zero : ℤ → Option Data
unless_zero z = if is_whole_data (pos 0) (Some z) then None else Some (whole_data z)

abbrev pub picture : Attributes → Members → Members
picture attrs ms =
    put (codes "image") (string (text_at (codes "source") attrs))
    (put_some (codes "transparentcolor") (transparent (text_at (codes "trans") attrs))
    (put_some (codes "imagewidth") (unless_zero (whole_at (codes "width") attrs))
    (put_some (codes "imageheight") (unless_zero (whole_at (codes "height") attrs)) ms)))

abbrev pub with_picture : Option Xml → Members → Members
with_picture None ms = ms
with_picture (Some x) ms = picture (attributes_of x) ms

-- ---- where its tiles are drawn
abbrev pub point : ℤ → ℤ → Data
point x y = object (put (codes "x") (whole_data x) (put (codes "y") (whole_data y) no_members))

abbrev pub are_zero : ℤ → ℤ → Bool
are_zero x y = is_whole_data (pos 0) (Some x) && is_whole_data (pos 0) (Some y)

abbrev pub offset_of : Attributes → Option Data
offset_of attrs =
    if are_zero (whole_at (codes "x") attrs) (whole_at (codes "y") attrs) then None
    else Some (point (whole_at (codes "x") attrs) (whole_at (codes "y") attrs))

abbrev pub offset_in : Xml → Option Data
offset_in x = option_and_then (λ o. offset_of (attributes_of o)) (first_named (codes "tileoffset") (kids_of x))

abbrev pub grid_orientation : Attributes → List ℕ
grid_orientation attrs = one_of (codes "isometric" ∷ []) (codes "orthogonal") (text_at (codes "orientation") attrs)

-- a grid of tiles as wide and high as those of the tileset, which need not be said
abbrev pub is_own_grid : Attributes → Attributes → Bool
is_own_grid attrs grid =
    bytes_eq (grid_orientation grid) (codes "orthogonal")
    && (int_eq (whole_at (codes "width") grid) (whole_at (codes "tilewidth") attrs)
    && int_eq (whole_at (codes "height") grid) (whole_at (codes "tileheight") attrs))

abbrev pub grid_data : Attributes → Data
grid_data grid =
    object (put (codes "orientation") (string (grid_orientation grid))
    (put (codes "width") (whole_data (whole_at (codes "width") grid)) (put (codes "height") (whole_data (whole_at (codes "height") grid)) no_members)))

abbrev pub grid_of : Attributes → Attributes → Option Data
grid_of attrs grid = if is_own_grid attrs grid then None else Some (grid_data grid)

abbrev pub grid_in : Xml → Option Data
grid_in x = option_and_then (λ g. grid_of (attributes_of x) (attributes_of g)) (first_named (codes "grid") (kids_of x))

-- ---- how they may be turned
abbrev pub is_set : List ℕ → Attributes → Bool
is_set k attrs = not (is_whole_data (pos 0) (Some (whole_at k attrs)))

abbrev pub is_turning : Attributes → Bool
is_turning attrs =
    is_set (codes "hflip") attrs || (is_set (codes "vflip") attrs || (is_set (codes "rotate") attrs || is_set (codes "preferuntransformed") attrs))

abbrev pub turning : Attributes → Result (Option Data) Refusal
turning attrs = if is_turning attrs then (with_rows turning_rows attrs no_members >>= λ ms. Ok (Some (object ms))) else Ok None

abbrev pub turning_in : Option Xml → Result (Option Data) Refusal
turning_in None = Ok None
turning_in (Some x) = turning (attributes_of x)

-- ---- a tile
abbrev pub with_frame : Xml → List Data → Result (List Data) Refusal
with_frame x found =
    if is_named (codes "frame") x then (with_rows frame_rows (attributes_of x) no_members >>= λ ms. Ok (found ++ object ms ∷ [])) else Ok found

abbrev pub with_frames : Children → List Data → Result (List Data) Refusal
with_frames no_children found = Ok found
with_frames (child x xs) found = with_frame x found >>= λ more. with_frames xs more

unfoldable pub animation : Option Xml → Result (List Data) Refusal
animation None = Ok []
animation (Some x) = with_frames (kids_of x) []

unfoldable pub collision : Option Xml → Members → Result Members Refusal
collision None ms = Ok ms
collision (Some x) ms =
    object_layer (attributes_of x) (kids_of x) (said_id (attributes_of x)) 1 >>= λ layer. Ok (put (codes "objectgroup") layer.0 ms)

abbrev pub with_frames_in : Xml → Members → Result Members Refusal
with_frames_in x ms = animation (first_named (codes "animation") (kids_of x)) >>= λ frames. Ok (put_some (codes "animation") (unless_none frames) ms)

abbrev pub with_solid : Xml → Members → Result Members Refusal
with_solid x ms = collision (first_named (codes "objectgroup") (kids_of x)) (with_picture (first_named (codes "image") (kids_of x)) ms)

unfoldable pub tile_members : Xml → Result Members Refusal
tile_members x = do
  rows ← with_rows tile_rows (attributes_of x) no_members
  moving ← with_frames_in x rows
  solid ← with_solid x moving
  own_properties (kids_of x) solid

abbrev pub is_alone : Members → Bool
is_alone no_members = false
is_alone (member k d no_members) = true
is_alone (member k d (member l e ms)) = false

-- a tile with nothing but its id is left out
abbrev pub with_tile_entry : Members → List Data → List Data
with_tile_entry ms found = if is_alone ms then found else found ++ object ms ∷ []

abbrev pub with_tile : Xml → List Data → Result (List Data) Refusal
with_tile x found = if is_named (codes "tile") x then (tile_members x >>= λ ms. Ok (with_tile_entry ms found)) else Ok found

abbrev pub with_tiles : Children → List Data → Result (List Data) Refusal
with_tiles no_children found = Ok found
with_tiles (child x xs) found = with_tile x found >>= λ more. with_tiles xs more

-- ---- all but its attributes
abbrev pub with_places : Xml → Members → Members
with_places x ms = put_some (codes "tileoffset") (offset_in x) (put_some (codes "grid") (grid_in x) ms)

abbrev pub alignment : Xml → Option Data
alignment x = text_unless ([] ∷ codes "unspecified" ∷ []) (text_at (codes "objectalignment") (attributes_of x))

abbrev pub with_drawing : Xml → Members → Members
with_drawing x ms =
    put_some (codes "objectalignment") (alignment x) (with_places x (with_picture (first_named (codes "image") (kids_of x)) ms))

-- its tiles and its wang sets
unfoldable pub with_lists : Children → Members → Result Members Refusal
with_lists kids ms = do
  tiles ← with_tiles kids []
  sets ← wang_sets (first_named (codes "wangsets") kids)
  Ok (put_some (codes "wangsets") (unless_none sets) (put_some (codes "tiles") (unless_none tiles) ms))

unfoldable pub with_parts : Xml → Members → Result Members Refusal
with_parts x ms = do
  turned ← turning_in (first_named (codes "transformations") (kids_of x))
  full ← with_lists (kids_of x) (put_some (codes "transformations") turned (with_drawing x ms))
  own_properties (kids_of x) full

-- its attributes, and how many tiles it has, where that is known
unfoldable pub with_attributes : Xml → Members → Result Members Refusal
with_attributes x ms = with_rows tileset_rows (attributes_of x) ms >>= λ rows. Ok (with_counts x rows)

unfoldable pub with_whole : Xml → Members → Result Members Refusal
with_whole x ms = with_attributes x ms >>= λ rows. with_parts x rows

-- ---- a file
abbrev pub tileset_type : Members
tileset_type = member (codes "type") (string (codes "tileset")) no_members

unfoldable pub file_members : Xml → Result Members Refusal
file_members x = with_rows file_rows (attributes_of x) tileset_type >>= λ ms. with_whole x ms

-- ---- in the map itself
-- terrains and wang sets of before Tiled 1.5 are not read; the number of tiles is needed
abbrev pub is_old : Xml → Bool
is_old x =
    is_some (first_named (codes "terraintypes") (kids_of x))
    || (has_old_sets (first_named (codes "wangsets") (kids_of x)) || not (has_counts x))

unfoldable pub embedded : Xml → Result Data Refusal
embedded x = do
  first ← with_rows embedded_rows (attributes_of x) no_members
  ms ← with_whole x first
  Ok (object ms)

abbrev pub tileset_of : Xml → Result Data Refusal
tileset_of x =
    if bytes_eq (text_at (codes "source") (attributes_of x)) [] then (if is_old x then Err OldTileset else embedded x)
    else Ok (external (attributes_of x))

abbrev pub with_tileset : Xml → List Data → Result (List Data) Refusal
with_tileset x found = if is_named (codes "tileset") x then (tileset_of x >>= λ d. Ok (found ++ d ∷ [])) else Ok found

abbrev pub with_tilesets : Children → List Data → Result (List Data) Refusal
with_tilesets no_children found = Ok found
with_tilesets (child x xs) found = with_tileset x found >>= λ more. with_tilesets xs more
