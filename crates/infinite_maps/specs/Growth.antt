-- Rectangles for the cells that are not 0 and that no rectangle covers.
use Rattle.std.specs.Prelude.{ℕ, zero, suc, ◌+◌, ◌-◌, ◌*◌, ◌/◌, min, max, List, [], ◌∷◌, ◌++◌, Bool, true, not, ◌&&◌, nat_lt, slice_index, slice_index_or}
use Rattle.std.specs.Prelude.{Option, Some, None, if◌then◌else◌}
use Rattle.infinite_maps.specs.declared.rectangle.Rectangle.{Rectangle}
use Rattle.infinite_maps.specs.declared.plane.Plane.{Plane}
use Rattle.infinite_maps.specs.Rectangles.{area, place, cell_of, bounds}
use Rattle.infinite_maps.specs.Coverage.{is_uncovered}

-- where the k-th block of a side begins, of which the first has lost so many cells; at most the limit
abbrev pub edge : ℕ → ℕ → ℕ → ℕ → ℕ
edge side lost limit k = min (k * side - lost) limit

-- how many blocks there are up to the limit
abbrev pub block_count : ℕ → ℕ → ℕ → ℕ
block_count side lost limit = (limit + lost) / max side 1 + 1

-- the i-th block of the j-th row of blocks
abbrev pub block_at : Plane → ℕ → ℕ → Rectangle
block_at p j i = record {
  left = edge p.across p.lost_x p.columns i;
  top = edge p.down p.lost_y p.rows j;
  right = edge p.across p.lost_x p.columns (i + 1);
  bottom = edge p.down p.lost_y p.rows (j + 1);
}

abbrev pub is_new : List ℕ → List Bool → ℕ → Bool
is_new cells cover at = nat_lt 0 (slice_index cells at) && not (slice_index_or cover at true)

-- the new ones of the first n cells of a rectangle
abbrev pub new_cells : ℕ → List ℕ → List Bool → Rectangle → ℕ → List Rectangle
new_cells columns cells cover r zero = []
new_cells columns cells cover r (suc n) = new_cells columns cells cover r n ++ (if is_new cells cover (place columns r n) then cell_of r n ∷ [] else [])

-- for the new cells of a block: the block, where it is free, or else the smallest rectangle around them, where that is free, or else each
abbrev pub pieces_by : ℕ → List Bool → Rectangle → List Rectangle → Option Rectangle → List Rectangle
pieces_by columns cover r news None = []
pieces_by columns cover r news (Some b) = if is_uncovered columns cover r then r ∷ [] else (if is_uncovered columns cover b then b ∷ [] else news)

unfoldable pub pieces : ℕ → List ℕ → List Bool → Rectangle → List Rectangle
pieces columns cells cover r = let news = new_cells columns cells cover r (area r) in pieces_by columns cover r news (bounds news)

-- those of the first n blocks of a row
abbrev pub row_pieces : Plane → List ℕ → List Bool → ℕ → ℕ → List Rectangle
row_pieces p cells cover j zero = []
row_pieces p cells cover j (suc n) = row_pieces p cells cover j n ++ pieces p.columns cells cover (block_at p j n)

-- those of the first n rows
abbrev pub rows_pieces : Plane → List ℕ → List Bool → ℕ → List Rectangle
rows_pieces p cells cover zero = []
rows_pieces p cells cover (suc n) = rows_pieces p cells cover n ++ row_pieces p cells cover n (block_count p.across p.lost_x p.columns)

-- those of all
unfoldable pub grown : Plane → List ℕ → List Bool → List Rectangle
grown p cells cover = rows_pieces p cells cover (block_count p.down p.lost_y p.rows)
