-- Where a layer of an infinite map has cells: Tiled tells it by blocks of 16 by 16, whatever size chunks have.
use Rattle.std.specs.Prelude.{ℕ, ◌==◌, ◌||◌, ℤ, pos, Bool, codes, Option, Some, None, option_and_then, if◌then◌else◌}
use Rattle.std.specs.Ordering.{int_eq}
use Rattle.std.specs.Int.{w64, int_min, int_max, int_rem_euclid, int_wrapping_add, int_wrapping_sub}
use Rattle.serde_json.specs.Data.{Data, Items, no_items, item, Members, put}
use Rattle.serde_json.specs.Find.{as_array, as_number, as_integer}
use Rattle.tmx_tree.specs.declared.bounds.Stretch.{Stretch}
use Rattle.tmx_tree.specs.Elements.{Attributes}
use Rattle.tmx_tree.specs.Rows.{whole_data, is_whole_data}
use Rattle.tmx_tree.specs.Cells.{side, whole_at}

-- ---- a stretch of cells, its last column and row among them
abbrev pub stretch : ℤ → ℤ → ℤ → ℤ → Stretch
stretch left top right bottom = record { left = left; top = top; right = right; bottom = bottom }

-- the least one around both: it begins where the first of them does, and ends where the last does
abbrev pub begun_at : Stretch → Stretch → Stretch
begun_at a b = stretch (int_min a.left b.left) (int_min a.top b.top) a.right a.bottom

abbrev pub ended_at : Stretch → Stretch → Stretch
ended_at a b = stretch a.left a.top (int_max a.right b.right) (int_max a.bottom b.bottom)

abbrev pub joined : Stretch → Stretch → Stretch
joined a b = ended_at (begun_at a b) b

abbrev pub with_stretch : Stretch → Option Stretch → Option Stretch
with_stretch b None = Some b
with_stretch b (Some a) = Some (joined a b)

-- ---- the cells of a chunk
abbrev pub ahead : ℤ → ℤ
ahead z = int_wrapping_add w64 z (pos 1)

-- the last of so many columns or rows
abbrev pub last_of : ℤ → ℕ → ℤ
last_of z n = int_wrapping_sub w64 (int_wrapping_add w64 z (pos n)) (pos 1)

-- where a chunk is
abbrev pub chunk_stretch : Attributes → Stretch
chunk_stretch attrs =
    stretch (whole_at (codes "x") attrs) (whole_at (codes "y") attrs)
    (last_of (whole_at (codes "x") attrs) (side (codes "width") attrs)) (last_of (whole_at (codes "y") attrs) (side (codes "height") attrs))

abbrev pub is_empty_cell : Data → Bool
is_empty_cell d = is_whole_data (pos 0) (option_and_then as_integer (as_number d))

abbrev pub with_cell : ℤ → ℤ → Data → Option Stretch → Option Stretch
with_cell x y d around = if is_empty_cell d then around else with_stretch (stretch x y x y) around

-- the cell behind one, row by row
abbrev pub next_x : Stretch → ℤ → ℤ
next_x chunk x = if int_eq x chunk.right then chunk.left else ahead x

abbrev pub next_y : Stretch → ℤ → ℤ → ℤ
next_y chunk x y = if int_eq x chunk.right then ahead y else y

-- those cells of a chunk that are not empty, from this one on
abbrev pub with_cells : Stretch → ℤ → ℤ → Items → Option Stretch → Option Stretch
with_cells chunk x y no_items around = around
with_cells chunk x y (item d ds) around = with_cells chunk (next_x chunk x) (next_y chunk x y) ds (with_cell x y d around)

-- cells in base64 are not read: each counts as one that is not empty
abbrev pub has_no_cells : Attributes → Bool
has_no_cells attrs = side (codes "width") attrs == 0 || side (codes "height") attrs == 0

abbrev pub with_found : Attributes → Option Items → Option Stretch → Option Stretch
with_found attrs None around = if has_no_cells attrs then around else with_stretch (chunk_stretch attrs) around
with_found attrs (Some ds) around = with_cells (chunk_stretch attrs) (chunk_stretch attrs).left (chunk_stretch attrs).top ds around

abbrev pub with_chunk_cells : Attributes → Data → Option Stretch → Option Stretch
with_chunk_cells attrs cells around = with_found attrs (as_array cells) around

-- ---- the members that tell it
-- where the block begins that a place lies in
unfoldable pub block : ℤ → ℤ
block z = int_wrapping_sub w64 z (int_rem_euclid z (pos 16))

-- how long the blocks are from that of one place on up to that of another
unfoldable pub blocks : ℤ → ℤ → ℤ
blocks a b = int_wrapping_add w64 (int_wrapping_sub w64 (block b) (block a)) (pos 16)

abbrev pub put_bounds : ℤ → ℤ → ℤ → ℤ → Members → Members
put_bounds left top width height ms =
    put (codes "startx") (whole_data left) (put (codes "starty") (whole_data top)
    (put (codes "width") (whole_data width) (put (codes "height") (whole_data height) ms)))

abbrev pub with_bounds : Option Stretch → Members → Members
with_bounds None ms = put_bounds (pos 0) (pos 0) (pos 0) (pos 0) ms
with_bounds (Some a) ms = put_bounds (block a.left) (block a.top) (blocks a.left a.right) (blocks a.top a.bottom) ms
