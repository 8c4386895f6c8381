-- A finite map that reaches out to whole blocks on all sides, and the cells of its layers.
use Rattle.std.specs.Prelude.{ℕ, ◌+◌, ◌-◌, ◌*◌, ◌/◌, ◌%◌, max, List, map, pos, Bool, ◌&&◌, nat_lt, nat_le, slice_index, if◌then◌else◌}
use Rattle.std.specs.Int.{w64, int_wrapping_sub}
use Rattle.std.specs.List.{range_with_len}
use Rattle.infinite_maps.specs.declared.plane.Plane.{Plane}

abbrev pub size : Plane → ℕ
size p = p.columns * p.rows

-- the blocks of a side that hold so many cells, of which the first has lost some: how many cells they are
abbrev pub whole_side : ℕ → ℕ → ℕ → ℕ
whole_side side lost limit = (limit + lost + (side - 1)) / max side 1 * max side 1

-- so many columns and rows are within the limits, and one of each more, for an odd corner
abbrev pub has_room : Plane → ℕ → ℕ → Bool
has_room p columns rows = nat_lt columns 4096 && nat_lt rows 4096 && nat_le ((columns + 1) * (rows + 1)) p.most

-- the plane from the corner of its first block, of so many columns and rows
abbrev pub from_block : Plane → ℕ → ℕ → Plane
from_block p columns rows = record p {
  x = int_wrapping_sub w64 p.x (pos p.lost_x);
  y = int_wrapping_sub w64 p.y (pos p.lost_y);
  columns = columns;
  rows = rows;
  lost_x = 0;
  lost_y = 0;
}

abbrev pub wide_by : Plane → ℕ → ℕ → Plane
wide_by p columns rows = if has_room p columns rows then from_block p columns rows else p

-- the map with whole blocks, where there is room for it; else as it is
unfoldable pub wide : Plane → Plane
wide p = wide_by p (whole_side p.across p.lost_x p.columns) (whole_side p.down p.lost_y p.rows)

-- how many columns and rows the wide map begins before the corner of the map
abbrev pub before_x : Plane → ℕ
before_x p = p.lost_x - (wide p).lost_x

abbrev pub before_y : Plane → ℕ
before_y p = p.lost_y - (wide p).lost_y

-- the cell of a layer at a column and row of the map; 0 outside
abbrev pub cell_on : Plane → List ℕ → ℕ → ℕ → ℕ
cell_on p cells i j = if nat_lt i p.columns && nat_lt j p.rows then slice_index cells (j * p.columns + i) else 0

-- the same, counted from so many columns and rows before the corner
abbrev pub cell_behind : Plane → List ℕ → ℕ → ℕ → ℕ → ℕ → ℕ
cell_behind p cells dx dy i j = if nat_le dx i && nat_le dy j then cell_on p cells (i - dx) (j - dy) else 0

-- the same, at a column and row of the wide map
abbrev pub wide_cell : Plane → List ℕ → ℕ → ℕ → ℕ
wide_cell p cells i j = cell_behind p cells (before_x p) (before_y p) i j

-- the cells of a layer on the wide map, row by row
unfoldable pub widened : Plane → List ℕ → List ℕ
widened p cells = map (λ k. wide_cell p cells (k % max (wide p).columns 1) (k / max (wide p).columns 1)) (range_with_len 0 (size (wide p)))
