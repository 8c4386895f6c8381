-- Where the chunks of a map lie, and where its finite map does.
use Rattle.std.specs.Prelude.{ℕ, ◌+◌, ◌-◌, ◌*◌, ◌/◌, ◌%◌, ◌==◌, ◌^◌, min, max, List, codes, ℤ, pos, int_lt, unsigned_abs, Bool, true, false, not, ◌&&◌}
use Rattle.std.specs.Prelude.{nat_lt, nat_le}
use Rattle.std.specs.Prelude.{Option, Some, None, option_and_then, if◌then◌else◌}
use Rattle.std.specs.Int.{w64, int_wrapping_sub, int_wrapping_mul, int_min, int_max}
use Rattle.std.specs.Str.{bytes_eq}
use Rattle.serde_json.specs.Data.{Data, null, boolean, number, string, array, object, Items, no_items, item, Members, no_members, member}
use Rattle.serde_json.specs.Find.{get, get_member, as_str}
use Rattle.infinite_maps.specs.declared.plane.Plane.{Plane}
use Rattle.infinite_maps.specs.declared.survey.Extent.{Extent}
use Rattle.infinite_maps.specs.declared.survey.Survey.{Survey}
use Rattle.infinite_maps.specs.Notes.{natural, integer}
use Rattle.infinite_maps.specs.Overlaps.{extent_of, chunks_in}
use Rattle.infinite_maps.specs.Sound.{is_named}

-- the smallest rectangle around both: it begins where the first of them does, and ends where the last does
abbrev pub begun_at : Extent → Extent → Extent
begun_at a b = record { left = int_min a.left b.left; top = int_min a.top b.top; right = a.right; bottom = a.bottom }

abbrev pub ended_at : Extent → Extent → Extent
ended_at a b = record { left = a.left; top = a.top; right = int_max a.right b.right; bottom = int_max a.bottom b.bottom }

abbrev pub joined : Extent → Extent → Extent
joined a b = ended_at (begun_at a b) b

abbrev pub with_extent : Option Extent → Extent → Option Extent
with_extent None e = Some e
with_extent (Some a) e = Some (joined a e)

-- the smallest rectangle around these chunks too
abbrev pub with_chunks : Option Extent → Items → Option Extent
with_chunks around no_items = around
with_chunks around (item c cs) = with_chunks (with_extent around (extent_of c)) cs

-- one layer more, if it has chunks, and the smallest rectangle around them too
abbrev pub with_own : Survey → Option Data → Survey
with_own s None = s
with_own s (Some d) = record { around = with_chunks s.around (chunks_in (Some d)); layers = min (s.layers + 1) (2 ^ 64 - 1) }

-- the same for each layer, and for those in groups
abbrev mutual
  pub with_layers : Survey → Data → Survey
  with_layers s null = s
  with_layers s (boolean b) = s
  with_layers s (number n) = s
  with_layers s (string t) = s
  with_layers s (array ds) = with_each s ds
  with_layers s (object ms) = with_groups (with_own s (get_member (codes "chunks") ms)) ms

  pub with_each : Survey → Items → Survey
  with_each s no_items = s
  with_each s (item d ds) = with_each (with_layers s d) ds

  pub with_groups : Survey → Members → Survey
  with_groups s no_members = s
  with_groups s (member k d ms) = with_groups (if bytes_eq k (codes "layers") then with_layers s d else s) ms

abbrev pub with_group : Survey → List ℕ → Data → Survey
with_group s k d = if bytes_eq k (codes "layers") then with_layers s d else s

-- the smallest rectangle around the chunks of all layers of a map, and how many layers have chunks
abbrev pub survey_of : Members → Survey
survey_of ms = with_groups (record { around = None; layers = 0 }) ms

-- the even column or row at a place or before it
abbrev pub even : ℤ → ℤ
even z = if unsigned_abs z % 2 == 1 then int_wrapping_sub w64 z (pos 1) else z

-- the rectangle from an even column and row on; one cell, where there is no chunk
abbrev pub box_of : Option Extent → Extent
box_of None = record { left = pos 0; top = pos 0; right = pos 1; bottom = pos 1 }
box_of (Some a) = record { left = even a.left; top = even a.top; right = a.right; bottom = a.bottom }

-- how many columns and rows it has
abbrev pub columns_of : Extent → ℕ
columns_of a = unsigned_abs (int_wrapping_sub w64 a.right a.left)

abbrev pub rows_of : Extent → ℕ
rows_of a = unsigned_abs (int_wrapping_sub w64 a.bottom a.top)

-- so many columns and rows are within the limits
abbrev pub is_small : ℕ → ℕ → Bool
is_small columns rows = nat_le columns 4096 && nat_le rows 4096 && nat_le (columns * rows) 1048576

-- the side of a chunk that a map names; 0 where it names none
abbrev pub named_side : List ℕ → Data → ℕ
named_side name d = natural (option_and_then (get name) (option_and_then (get (codes "chunksize")) (get (codes "editorsettings") d)))

-- the side of a new chunk
abbrev pub chunk_side : ℕ → ℕ
chunk_side n = if n == 0 then 16 else min (max n 4) 4096

-- how many columns or rows of a chunk lie before a place, where chunks of such a side stand side by side
abbrev pub lost : ℤ → ℕ → ℕ
lost z side = let over = unsigned_abs z % max side 1 in min (if int_lt z (pos 0) && not (over == 0) then max side 1 - over else over) 4096

abbrev pub is_orthogonal : Option Data → Bool
is_orthogonal None = true
is_orthogonal (Some d) = is_named (codes "orthogonal") (as_str d)

-- how many pixels objects are moved for so many cells of such a side
abbrev pub pixels : Data → ℤ → List ℕ → ℤ
pixels d cells side = if is_orthogonal (get (codes "orientation") d) then int_wrapping_mul w64 cells (integer (get side d)) else pos 0

-- the most cells that each of so many layers may have
abbrev pub most_cells : ℕ → ℕ
most_cells layers = min (16777216 / max layers 1) 1048576

-- where the finite map of so many layers lies
abbrev pub plane_at : Data → Extent → ℕ → Plane
plane_at d a layers = record {
  x = a.left;
  y = a.top;
  columns = columns_of a;
  rows = rows_of a;
  across = chunk_side (named_side (codes "width") d);
  down = chunk_side (named_side (codes "height") d);
  lost_x = lost a.left (chunk_side (named_side (codes "width") d));
  lost_y = lost a.top (chunk_side (named_side (codes "height") d));
  most = most_cells layers;
  moved_x = pixels d a.left (codes "tilewidth");
  moved_y = pixels d a.top (codes "tileheight");
}

-- the same, if it is within the limits
abbrev pub plane_of : Data → Extent → ℕ → Option Plane
plane_of d a layers = if is_small (columns_of a) (rows_of a) then Some (plane_at d a layers) else None

-- the rectangle that the finite map is
abbrev pub box_in : Members → Extent
box_in ms = box_of (survey_of ms).around

-- the map is within the limits, but its layers have more than 16,777,216 cells in all
abbrev pub is_too_large_of : Members → Bool
is_too_large_of ms = is_small (columns_of (box_in ms)) (rows_of (box_in ms))
    && nat_lt 16777216 ((survey_of ms).layers * (columns_of (box_in ms) * rows_of (box_in ms)))

abbrev pub is_too_large : Data → Bool
is_too_large null = false
is_too_large (boolean b) = false
is_too_large (number n) = false
is_too_large (string s) = false
is_too_large (array ds) = false
is_too_large (object ms) = is_too_large_of ms
