-- A layer whose chunks are pasted into one array of cells.
use Rattle.std.specs.Prelude.{ℕ, zero, suc, ◌+◌, min, List, [], ◌∷◌, map, codes, ℤ, unsigned_abs, replicate, slice_index, slice_set, Option, Some, None}
use Rattle.std.specs.Prelude.{option_and_then, unwrap_or, if◌then◌else◌}
use Rattle.std.specs.Int.{w64, int_wrapping_sub}
use Rattle.serde_json.specs.Data.{Data, array, object, Items, no_items, item, Members, no_members, put}
use Rattle.serde_json.specs.Find.{get, get_member}
use Rattle.serde_json.specs.View.{items_of}
use Rattle.json_members.specs.Members.{without, put_some}
use Rattle.infinite_maps.specs.declared.rectangle.Rectangle.{Rectangle}
use Rattle.infinite_maps.specs.declared.plane.Plane.{Plane}
use Rattle.infinite_maps.specs.Rectangles.{width, height, area, place}
use Rattle.infinite_maps.specs.Cells.{cells_of, cells_data}
use Rattle.infinite_maps.specs.Wide.{size}
use Rattle.infinite_maps.specs.Notes.{mark, natural, integer}
use Rattle.infinite_maps.specs.Layers.{whole_number}
use Rattle.infinite_maps.specs.Overlaps.{chunks_in}
use Rattle.infinite_maps.specs.Sound.{is_base64, is_compressed}

-- how far a place lies from the corner
abbrev pub offset : ℤ → ℤ → ℕ
offset from z = min (unsigned_abs (int_wrapping_sub w64 z from)) 2147483647

abbrev pub side_of : Option Data → ℕ
side_of d = min (natural d) 2147483648

-- the part of the finite map that a chunk is
abbrev pub rectangle_of : Plane → Data → Rectangle
rectangle_of p chunk = record {
  left = offset p.x (integer (get (codes "x") chunk));
  top = offset p.y (integer (get (codes "y") chunk));
  right = offset p.x (integer (get (codes "x") chunk)) + side_of (get (codes "width") chunk);
  bottom = offset p.y (integer (get (codes "y") chunk)) + side_of (get (codes "height") chunk);
}

abbrev pub rectangles_of : Plane → Items → List Rectangle
rectangles_of p no_items = []
rectangles_of p (item c cs) = rectangle_of p c ∷ rectangles_of p cs

-- the cells with the first n of a rectangle pasted
abbrev pub pasted_to : ℕ → Rectangle → List ℕ → ℕ → List ℕ → List ℕ
pasted_to columns r own zero cells = cells
pasted_to columns r own (suc n) cells = slice_set (pasted_to columns r own n cells) (place columns r n) (slice_index own n)

unfoldable pub pasted : ℕ → Rectangle → List ℕ → List ℕ → List ℕ
pasted columns r own cells = pasted_to columns r own (area r) cells

abbrev pub chunk_cells : Data → List ℕ
chunk_cells chunk = unwrap_or (option_and_then cells_of (get (codes "data") chunk)) []

-- the cells of all chunks, pasted over these
abbrev pub all_pasted : Plane → List ℕ → Items → List ℕ
all_pasted p cells no_items = cells
all_pasted p cells (item c cs) = all_pasted p (pasted p.columns (rectangle_of p c) (chunk_cells c) cells) cs

-- a rectangle in a note: `[left, top, width, height]`
abbrev pub noted : Rectangle → Data
noted r = array (item (whole_number r.left) (item (whole_number r.top) (item (whole_number (width r)) (item (whole_number (height r)) no_items))))

-- the note of a layer that had these chunks
abbrev pub layer_note : Members → List Rectangle → Data
layer_note ms rs = object (
    put_some (codes "starty") (get_member (codes "starty") ms) (
    put_some (codes "startx") (get_member (codes "startx") ms) (
    put_some (codes "height") (get_member (codes "height") ms) (
    put_some (codes "width") (get_member (codes "width") ms) (
    put (codes "chunks") (array (items_of (map noted rs))) no_members)))))

-- a layer that has the plane's size, these data and this note
abbrev pub with_data : Plane → Data → Data → Members → Members
with_data p cells note ms =
    put (codes "height") (whole_number p.rows) (
    put (codes "width") (whole_number p.columns) (
    put mark note (
    put (codes "data") cells (
    without (codes "starty") (without (codes "startx") ms)))))

-- the layer of the members ms, whose members but the chunks are `all`
abbrev pub pasted_layer : Plane → Members → Items → Members → Members
pasted_layer p ms chunks all = with_data p (cells_data (is_base64 ms) (all_pasted p (replicate (size p) 0) chunks)) (layer_note ms (rectangles_of p chunks)) all

-- compressed chunks stay as they are
abbrev pub layer_with : Plane → Members → Members → Option Data → Members
layer_with p ms all None = all
layer_with p ms all (Some d) = if is_compressed ms then put (codes "chunks") d all else pasted_layer p ms (chunks_in (Some d)) all
