-- Where chunks lie, and which overlap.
use Rattle.std.specs.Prelude.{codes, int_lt, Bool, false, not, ◌&&◌, ◌||◌, Option, option_and_then, unwrap_or}
use Rattle.std.specs.Int.{w64, int_wrapping_add}
use Rattle.serde_json.specs.Data.{Data, Items, no_items, item, Members}
use Rattle.serde_json.specs.Find.{get, get_member, as_array}
use Rattle.infinite_maps.specs.declared.survey.Extent.{Extent}
use Rattle.infinite_maps.specs.Notes.{integer}
use Rattle.infinite_maps.specs.Sound.{is_compressed, some_layer}

-- where a chunk lies
abbrev pub extent_of : Data → Extent
extent_of chunk = record {
  left = integer (get (codes "x") chunk);
  top = integer (get (codes "y") chunk);
  right = int_wrapping_add w64 (integer (get (codes "x") chunk)) (integer (get (codes "width") chunk));
  bottom = int_wrapping_add w64 (integer (get (codes "y") chunk)) (integer (get (codes "height") chunk));
}

-- two rectangles have a column, a row and a cell in common
abbrev pub meets_across : Extent → Extent → Bool
meets_across a b = int_lt a.left b.right && int_lt b.left a.right

abbrev pub meets_down : Extent → Extent → Bool
meets_down a b = int_lt a.top b.bottom && int_lt b.top a.bottom

abbrev pub meets : Extent → Extent → Bool
meets a b = meets_across a b && meets_down a b

-- two chunks share a cell
abbrev pub do_overlap : Data → Data → Bool
do_overlap c d = meets (extent_of c) (extent_of d)

-- a chunk shares a cell with one of these
abbrev pub overlaps_one : Data → Items → Bool
overlaps_one c no_items = false
overlaps_one c (item d ds) = do_overlap c d || overlaps_one c ds

-- two of the chunks share a cell
abbrev pub have_overlap : Items → Bool
have_overlap no_items = false
have_overlap (item c cs) = overlaps_one c cs || have_overlap cs

-- the chunks of a layer
abbrev pub chunks_in : Option Data → Items
chunks_in d = unwrap_or (option_and_then as_array d) no_items

-- two chunks of a layer share a cell, and its data are not compressed
abbrev pub is_overlapping : Members → Bool
is_overlapping ms = not (is_compressed ms) && have_overlap (chunks_in (get_member (codes "chunks") ms))

-- two chunks of a layer, or of the map, share a cell
abbrev pub has_overlap : Data → Bool
has_overlap d = some_layer is_overlapping d
