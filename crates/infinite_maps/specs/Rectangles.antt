-- Rectangles of cells, counted from the corner of a finite map.
use Rattle.std.specs.Prelude.{ℕ, ◌+◌, ◌-◌, ◌*◌, ◌/◌, ◌%◌, min, max, List, Option, Some, None, fold}
use Rattle.infinite_maps.specs.declared.rectangle.Rectangle.{Rectangle}

abbrev pub width : Rectangle → ℕ
width r = r.right - r.left

abbrev pub height : Rectangle → ℕ
height r = r.bottom - r.top

abbrev pub area : Rectangle → ℕ
area r = width r * height r

-- where the k-th cell of a rectangle stands among the cells of a layer of so many columns, row by row
unfoldable pub place : ℕ → Rectangle → ℕ → ℕ
place columns r k = (r.top + k / max (width r) 1) * columns + (r.left + k % max (width r) 1)

-- the k-th cell of a rectangle, as a rectangle
abbrev pub cell_of : Rectangle → ℕ → Rectangle
cell_of r k = record {
  left = r.left + k % max (width r) 1;
  top = r.top + k / max (width r) 1;
  right = r.left + k % max (width r) 1 + 1;
  bottom = r.top + k /
      max (width r) 1 + 1;
}

-- the smallest rectangle around both
abbrev pub joined : Rectangle → Rectangle → Rectangle
joined r s = record { left = min r.left s.left; top = min r.top s.top; right = max r.right s.right; bottom = max r.bottom s.bottom }

abbrev pub around : Option Rectangle → Rectangle → Option Rectangle
around None s = Some s
around (Some r) s = Some (joined r s)

-- the smallest rectangle around all
abbrev pub bounds : List Rectangle → Option Rectangle
bounds rs = fold around None rs
