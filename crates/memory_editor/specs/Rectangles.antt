-- The cells of a rectangle in a tile layer.
use Rattle.std.specs.Prelude.{ℕ, ◌+◌, ◌*◌, ◌&&◌, nat_le, Bool, List, Option, None, option_and_then, slice_range, if◌then◌else◌}
use Rattle.std.specs.List.{flat_map, range_with_len}
use Rattle.std.specs.Option.{option_map}
use Rattle.std.specs.Result.{result_ok}
use Rattle.map_model.specs.declared.parts.MapParts.{MapParts}
use Rattle.map_model.specs.Lookups.{layer_of}
use Rattle.edits.specs.Refusals.{tiles_or_fault}
use Rattle.memory_editor.specs.declared.rectangle.Rectangle.{Rectangle}

-- the rectangle lies in the map
abbrev pub lies_in : Rectangle → MapParts → Bool
lies_in r m = nat_le (r.x + r.width) m.width && nat_le (r.y + r.height) m.height

-- its cells in a row, where these are the values of a layer so wide
abbrev pub row_of : ℕ → Rectangle → List ℕ → ℕ → List ℕ
row_of width r values row = slice_range values (row * width + r.x) (row * width + r.x + r.width)

-- all its cells, row by row from the top
abbrev pub rows_of : ℕ → Rectangle → List ℕ → List ℕ
rows_of width r values = flat_map (row_of width r values) (range_with_len r.y r.height)

-- its cells in the tile layer with an id: none where there is no such layer, or where it leaves the map
abbrev pub cells_in : ℕ → Rectangle → MapParts → Option (List ℕ)
cells_in layer r m = if lies_in r m then option_map (rows_of m.width r) (result_ok (tiles_or_fault (layer_of m layer))) else None

-- the same of a map that may be absent
abbrev pub cells_of : ℕ → Rectangle → Option MapParts → Option (List ℕ)
cells_of layer r m = option_and_then (cells_in layer r) m
