-- A tile layer of a finite map as one of an infinite map.
use Rattle.std.specs.Prelude.{ℕ, ◌==◌, List, [], ◌∷◌, ◌++◌, map, length, codes, ℤ, pos, Bool, false, replicate, Option, Some, None, option_and_then, unwrap_or}
use Rattle.std.specs.Prelude.{if◌then◌else◌}
use Rattle.std.specs.Int.{w64, int_wrapping_add}
use Rattle.serde_json.specs.Data.{unsigned, Data, number, array, object, Items, no_items, Members, no_members, put}
use Rattle.serde_json.specs.Find.{get, get_member, as_array, of_integer}
use Rattle.serde_json.specs.View.{items_of}
use Rattle.json_members.specs.Members.{without, put_some}
use Rattle.infinite_maps.specs.declared.rectangle.Rectangle.{Rectangle}
use Rattle.infinite_maps.specs.declared.plane.Plane.{Plane}
use Rattle.infinite_maps.specs.Rectangles.{width, height, bounds}
use Rattle.infinite_maps.specs.Cells.{is_text, cells_of, cells_data, cut}
use Rattle.infinite_maps.specs.Coverage.{cover_of, are_apart}
use Rattle.infinite_maps.specs.Growth.{grown}
use Rattle.infinite_maps.specs.Wide.{before_x, before_y, size, wide, widened}
use Rattle.infinite_maps.specs.Notes.{mark, noted_all}

abbrev pub if_so_many : ℕ → Option (List ℕ) → Option (List ℕ)
if_so_many n None = None
if_so_many n (Some cells) = if length cells == n then Some cells else None

-- the cells of a layer, where it has one for each cell of the map
abbrev pub layer_cells : Plane → Option Data → Option (List ℕ)
layer_cells p d = if_so_many (size p) (option_and_then cells_of d)

-- the rectangles of the chunks that the layer had, where none overlaps another
abbrev pub chunk_items : Option Data → Items
chunk_items note = unwrap_or (option_and_then as_array (option_and_then (get (codes "chunks")) note)) no_items

abbrev pub if_apart : Plane → List Rectangle → List Rectangle
if_apart p rs = if are_apart p.columns (replicate (size p) false) rs then rs else []

-- counted from the corner of the wide map, as all that follow
abbrev pub old_rectangles : Plane → Option Data → List Rectangle
old_rectangles p note = if_apart (wide p) (noted_all p (chunk_items note))

-- a place on the plane
abbrev pub place_at : ℤ → ℕ → Data
place_at z n = number (of_integer (int_wrapping_add w64 z (pos n)))

abbrev pub whole_number : ℕ → Data
whole_number n = number (unsigned n)

-- the place and size of a chunk
abbrev pub with_place : Plane → Rectangle → Members → Members
with_place p r ms =
    put (codes "height") (whole_number (height r)) (
    put (codes "width") (whole_number (width r)) (
    put (codes "x") (place_at p.x r.left) (
    put (codes "y") (place_at p.y r.top) ms)))

-- a chunk with the cells that the layer has there
unfoldable pub chunk : Plane → Bool → List ℕ → Rectangle → Data
chunk p text cells r = object (
    put (codes "data") (cells_data text (cut p.columns cells r)) (
    put (codes "height") (whole_number (height r)) (
    put (codes "width") (whole_number (width r)) (
    put (codes "x") (place_at p.x r.left) (
    put (codes "y") (place_at p.y r.top) no_members)))))

abbrev pub chunks : Plane → Bool → List ℕ → List Rectangle → Data
chunks p text cells rs = array (items_of (map (chunk p text cells) rs))

-- the size and place of the layer as they were
abbrev pub with_old_bounds : Data → Members → Members
with_old_bounds note ms =
    put_some (codes "height") (get (codes "height") note) (
    put_some (codes "startx") (get (codes "startx") note) (
    put_some (codes "starty") (get (codes "starty") note) (
    put_some (codes "width") (get (codes "width") note) ms)))

-- those of the smallest rectangle around all chunks
abbrev pub with_bounds : Plane → Rectangle → Members → Members
with_bounds p b ms =
    put (codes "height") (whole_number (height b)) (
    put (codes "startx") (place_at p.x b.left) (
    put (codes "starty") (place_at p.y b.top) (
    put (codes "width") (whole_number (width b)) ms)))

-- no cell, at the corner of the map, counted from that of the wide map
abbrev pub no_cell : Plane → Rectangle
no_cell p = record { left = before_x p; top = before_y p; right = before_x p; bottom = before_y p }

-- A layer that had chunks, and gets no new ones, keeps its bounds. One without chunks has those of no cell.
abbrev pub with_right_bounds : Plane → Rectangle → Option Data → List Rectangle → List Rectangle → Members → Members
with_right_bounds p none None rs news ms = with_bounds p (unwrap_or (bounds rs) none) ms
with_right_bounds p none (Some note) rs [] ms = with_old_bounds note ms
with_right_bounds p none (Some note) rs (n ∷ ns) ms = with_bounds p (unwrap_or (bounds rs) none) ms

abbrev pub rest_of : Members → Members
rest_of ms = without (codes "data") (without (codes "height") (without (codes "width") (without mark ms)))

abbrev pub with_chunks : Plane → Rectangle → Option Data → Bool → List ℕ → List Rectangle → List Rectangle → Members → Members
with_chunks p none note text cells olds news ms = put (codes "chunks") (chunks p text cells (olds ++ news))
    (with_right_bounds p none note (olds ++ news) news (rest_of ms))

-- the rectangles of new chunks, beside those of old ones
abbrev pub new_rectangles : Plane → List ℕ → List Rectangle → List Rectangle
new_rectangles p cells olds = grown p cells (cover_of p.columns (size p) olds)

-- the layer of a wide map, its cells in chunks
abbrev pub tiles_on : Plane → Rectangle → Option Data → Bool → List ℕ → List Rectangle → Members → Members
tiles_on p none note text cells olds ms = with_chunks p none note text cells olds (new_rectangles p cells olds) ms

-- the layer, its cells in chunks
abbrev pub tiles : Plane → Option Data → Bool → List ℕ → Members → Members
tiles p note text cells ms = tiles_on (wide p) (no_cell p) note text (widened p cells) (old_rectangles p note) ms

-- a layer without a cell for each cell of the map stays as it is
abbrev pub is_text_at : Option Data → Bool
is_text_at None = false
is_text_at (Some d) = is_text d

abbrev pub layer_by : Plane → Option (List ℕ) → Members → Members
layer_by p None ms = ms
layer_by p (Some cells) ms = tiles p (get_member mark ms) (is_text_at (get_member (codes "data") ms)) cells ms

unfoldable pub layer_of : Plane → Members → Members
layer_of p ms = layer_by p (layer_cells p (get_member (codes "data") ms)) ms
