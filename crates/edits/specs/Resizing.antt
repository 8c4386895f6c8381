-- What resizing a map does, and why it is refused.
use Rattle.std.proofs.Common.{zero, suc}
use Rattle.std.specs.Prelude.{◌≡◌, ℕ, ◌+◌, ◌<◌, ◌≤◌, ◌≤ℤ◌, length, slice_index_or, ℤ, pos, neg_ℤ, ◌-ℤ◌, ◌*ℤ◌, int_le, List, [], ◌++◌, map, Bool, true, ◌&&◌}
use Rattle.std.specs.Prelude.{Option, Some, None, Result, Ok}
use Rattle.std.specs.FinSet as set
use Rattle.std.specs.List.{list_all, range_with_len}
use Rattle.std.specs.Option.{unwrap_or}
use Rattle.region.specs.Cells.{cell_cmp, has_at, rectangle}
use Rattle.map_model.specs.declared.limits.TheConstants.{MAX_GROUPS, MAX_PIXELS}
use Rattle.map_model.specs.declared.parts.Layer.{Layer}
use Rattle.map_model.specs.declared.parts.MapParts.{MapParts}
use Rattle.map_model.specs.declared.parts.Object.{Object}
use Rattle.map_model.specs.Objects.{object_moved, placing_moved, objects_of, layer_with_objects}
use Rattle.map_model.specs.Document.{DocumentParts}
use Rattle.map_model.specs.Groups.{all_drawn, layer_with_layers}
use Rattle.map_model.specs.Lookups.{layer_with_tiles}
use Rattle.map_model.specs.Sizes.{is_size}
use Rattle.refusals.specs.declared.edit_fault.EditFault.{EditFault}
use Rattle.refusals.specs.declared.edit_fault.EditFault.TheVariants.{OutOfRange}
use Rattle.map_model.specs.Refusing.{◌>>◌, check}
use Rattle.edits.specs.Blocks.{ValueBlock, value_over}

-- ---- cells
-- the values of a row, and those of so many rows, row by row, where f gives the value at a column and a row
abbrev pub row : (ℕ → ℕ → ℕ) → ℕ → ℕ → List ℕ
row f width y = map (λ x. f x y) (range_with_len 0 width)

abbrev pub table : (ℕ → ℕ → ℕ) → ℕ → ℕ → List ℕ
table f width zero = []
table f width (suc y) = table f width y ++ row f width y

-- the value of a block over a cell, and 0 where it does not lie
abbrev pub value_at : ValueBlock → ℕ → ℕ → ℕ
value_at block x y = unwrap_or (value_over block x y) 0

-- the values of a layer of the map as a block that begins at a column and a row of the new map
abbrev pub layer_block : MapParts → ℤ → ℤ → List ℕ → ValueBlock
layer_block m dx dy cells = record { x = dx; y = dy; width = m.width; values = cells }

-- the values of a layer in a map of a new size, whose cell (x, y) is the old cell (x - dx, y - dy)
abbrev pub resized_values : MapParts → ℕ → ℕ → ℤ → ℤ → List ℕ → List ℕ
resized_values m width height dx dy cells = table (value_at (layer_block m dx dy cells)) width height

-- ---- objects
-- the pixels that so many tiles are wide, and high
abbrev pub pixels_right : MapParts → ℤ → ℤ
pixels_right m dx = dx *ℤ pos m.tile_width

abbrev pub pixels_down : MapParts → ℤ → ℤ
pixels_down m dy = dy *ℤ pos m.tile_height

abbrev pub are_pixels : Option ℤ → Bool
are_pixels None = true
are_pixels (Some z) = int_le (neg_ℤ MAX_PIXELS) z && int_le z MAX_PIXELS

-- an object that is moved by so many pixels stays within its limits
abbrev pub stays : ℤ → ℤ → Object → Bool
stays right down o = are_pixels (placing_moved right down o.placing).x && are_pixels (placing_moved right down o.placing).y

abbrev pub all_stay : ℤ → ℤ → Option (List Object) → Bool
all_stay right down None = true
all_stay right down (Some os) = list_all (stays right down) os

-- each object of a layer, with its tier
abbrev pub drawn_stays : ℤ → ℤ → ℕ × Layer → Bool
drawn_stays right down d = all_stay right down (objects_of d.1)

-- each object of the map does
abbrev pub objects_stay : ℤ → ℤ → MapParts → Bool
objects_stay right down m = list_all (drawn_stays right down) (all_drawn m.layers)

-- ---- the map
abbrev pub resized_layer : MapParts → ℕ → ℕ → ℤ → ℤ → Layer → Layer
resized_layer m width height dx dy l =
    layer_with_objects (map (object_moved (pixels_right m dx) (pixels_down m dy))) (layer_with_tiles (resized_values m width height dx dy) l)

-- f of a layer, and of those that stand in it, in as many groups as may stand in one another
unfoldable pub each_under : ℕ → (Layer → Layer) → Layer → Layer
each_under zero f l = f l
each_under (suc room) f l = layer_with_layers (map (each_under room f)) (f l)

abbrev pub resized_map : ℕ → ℕ → ℤ → ℤ → MapParts → MapParts
resized_map width height dx dy m = record m {
  width = width;
  height = height;
  layers = map (each_under MAX_GROUPS (resized_layer m width height dx dy)) m.layers;
}

-- the cells of the new map whose old cell is selected
abbrev pub resized_selection : ℕ → ℕ → ℤ → ℤ → set.FinSet cell_cmp → set.FinSet cell_cmp
resized_selection width height dx dy selection = set.retain (rectangle 0 0 width height) (λ q. has_at selection (pos q.0 -ℤ dx) (pos q.1 -ℤ dy))

abbrev pub resized : DocumentParts → ℕ → ℕ → ℤ → ℤ → DocumentParts
resized d width height dx dy = record {
  map = resized_map width height dx dy d.map;
  selection = resized_selection width height dx dy d.selection;
}

-- the document after a resizing, or its refusal: of the new size, or of objects where they are then
abbrev pub after_resize : DocumentParts → ℕ → ℕ → ℤ → ℤ → Result DocumentParts EditFault
after_resize d width height dx dy = do
  check (is_size width height) OutOfRange
  check (objects_stay (pixels_right d.map dx) (pixels_down d.map dy) d.map) OutOfRange
  Ok (resized d width height dx dy)

-- ---- a row of a block
-- the values are those of the block in a row of the map, from a column on; before and behind them the block has 0 or does not lie
pub record IsRowStretch (block : ValueBlock) (width y first : ℕ) (values : List ℕ) : Type 0 where
  pub within : first + length values ≤ width
  pub before : (x : ℕ) → x < first → value_at block x y ≡ 0
  pub under : (k : ℕ) → k < length values → value_at block (first + k) y ≡ slice_index_or values k 0
  pub behind : (x : ℕ) → first + length values ≤ x → x < width → value_at block x y ≡ 0

-- the numbers of columns and rows by which a map can be moved: as many as there may be pixels
pub record IsDistance (z : ℤ) : Type 0 where
  pub low : neg_ℤ MAX_PIXELS ≤ℤ z
  pub high : z ≤ℤ MAX_PIXELS
