-- Blocks of values and areas, and where they lie on a map.
use Rattle.std.specs.Prelude.{◌≡◌, ℕ, ◌+◌, ◌-◌, ◌*◌, ◌<◌, ◌≤◌, ℤ, pos, negsuc, List, Bool, true, false, ◌&&◌, nat_eq, nat_le, nat_lt, Option, Some, None}
use Rattle.std.specs.Prelude.{option_and_then, slice_get, if◌then◌else◌}
use Rattle.edits.specs.declared.area.Area.{Area}
use Rattle.edits.specs.declared.block.Block.{Block}
use Rattle.edits.specs.declared.span.Span.{Span}

-- a block of values: where it begins, its width, and its values, row by row
pub record ValueBlock : Type 0 where
  pub x : ℤ
  pub y : ℤ
  pub width : ℕ
  pub values : List ℕ

-- the values that a block of the program lends
abbrev pub block_of : Block → ValueBlock
block_of block = record { x = block.x; y = block.y; width = block.width; values = block.values.now }

-- how far a column or a row lies behind a start; none where it lies before it
abbrev pub offset : ℤ → ℕ → Option ℕ
offset (pos start) at = if nat_le start at then Some (at - start) else None
offset (negsuc start) at = Some (at + (start + 1))

-- ---- blocks
-- the value of a block so far to the right and down from where it begins
abbrev pub value_in : ValueBlock → ℕ → ℕ → Option ℕ
value_in block right down = if nat_lt right block.width then slice_get block.values (down * block.width + right) else None

-- the value of a block that lies over a cell
abbrev pub value_over : ValueBlock → ℕ → ℕ → Option ℕ
value_over block x y = option_and_then (λ right. option_and_then (λ down. value_in block right down) (offset block.y y)) (offset block.x x)

-- a value, unless it is 0
abbrev pub unless_empty : ℕ → Option ℕ
unless_empty value = if nat_eq value 0 then None else Some value

-- what a stamp puts over a cell: the value of its block there, unless that is 0
abbrev pub stamp_over : ValueBlock → ℕ → ℕ → Option ℕ
stamp_over block x y = option_and_then unless_empty (value_over block x y)

-- ---- areas
-- whether a distance is there and below a size
abbrev pub is_below : Option ℕ → ℕ → Bool
is_below None size = false
is_below (Some far) size = nat_lt far size

-- whether a cell lies in an area
abbrev pub in_area : Area → ℕ → ℕ → Bool
in_area a x y = is_below (offset a.x x) a.width && is_below (offset a.y y) a.height

-- what an erase puts over a cell: 0 within its area
abbrev pub erase_over : Area → ℕ → ℕ → Option ℕ
erase_over a x y = if in_area a x y then Some 0 else None

-- ---- spans
-- the span has exactly the columns, or the rows, below the limit that lie under something of this start and size
pub record IsSpan (start : ℤ) (size limit : ℕ) (s : Span) : Type 0 where
  pub ordered : s.first ≤ s.end
  pub within : s.end ≤ limit
  pub before : (at : ℕ) → at < s.first → is_below (offset start at) size ≡ false
  pub under : (at : ℕ) → s.first ≤ at → at < s.end → is_below (offset start at) size ≡ true
  pub after : (at : ℕ) → s.end ≤ at → at < limit → is_below (offset start at) size ≡ false
