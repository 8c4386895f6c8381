-- What holds of each edited infinite map: where its cells stand.
use Rattle.std.specs.Prelude.{◌≡◌, ℕ, ◌+◌, ◌*◌, ◌^◌, ◌<◌, ◌≤◌, List, [], ◌∷◌, ◌++◌, map, codes, ℤ, pos, ◌+ℤ◌, ◌-ℤ◌, int_le, int_lt, unsigned_abs}
use Rattle.std.specs.Prelude.{Bool, true, ◌&&◌, slice_index, Option, Some, option_and_then, unwrap_or}
use Rattle.std.specs.Prelude.{if◌then◌else◌}
use Rattle.serde_json.specs.Data.{Data, object, Items, no_items, item, Members}
use Rattle.serde_json.specs.Find.{get, at, get_member, as_number, as_i64, as_array}
use Rattle.serde_json.specs.View.{items_of}
use Rattle.infinite_maps.specs.declared.plane.Plane.{Plane}
use Rattle.infinite_maps.specs.Cells.{cells_of}
use Rattle.infinite_maps.specs.Layers.{chunk, layer_cells, is_text_at, old_rectangles}
use Rattle.infinite_maps.specs.Wide.{wide, widened}
use Rattle.infinite_maps.specs.Notes.{mark, natural, integer, plane_of}
use Rattle.infinite_maps.specs.Infinite.{note_of, infinite_of}

-- whether a place is one of so many from one on
abbrev pub is_among : ℤ → ℕ → ℤ → Bool
is_among from count z = int_le from z && int_lt z (from +ℤ pos count)

-- how far a place lies behind one
abbrev pub behind : ℤ → ℤ → ℕ
behind from z = unsigned_abs (z -ℤ from)

-- whether a chunk has the place at x and y of the plane
abbrev pub covers : ℤ → ℤ → Data → Bool
covers x y chunk = is_among (integer (get (codes "x") chunk)) (natural (get (codes "width") chunk)) x
    && is_among (integer (get (codes "y") chunk)) (natural (get (codes "height") chunk)) y

-- the cell that its data have there
abbrev pub cell_in_chunk : ℤ → ℤ → Data → ℕ
cell_in_chunk x y chunk = slice_index (unwrap_or (option_and_then cells_of (get (codes "data") chunk)) [])
    (behind (integer (get (codes "y") chunk)) y * natural (get (codes "width") chunk) + behind (integer (get (codes "x") chunk)) x)

-- the cell that chunks have at a place of the plane; 0 where no chunk is
abbrev pub cell_in_chunks : ℤ → ℤ → Items → ℕ
cell_in_chunks x y no_items = 0
cell_in_chunks x y (item chunk chunks) = if covers x y chunk then cell_in_chunk x y chunk else cell_in_chunks x y chunks

-- how many chunks have it
abbrev pub chunks_at : ℤ → ℤ → Items → ℕ
chunks_at x y no_items = 0
chunks_at x y (item chunk chunks) = (if covers x y chunk then 1 else 0) + chunks_at x y chunks

-- the cell that a layer of the finite map has there; 0 outside of the map
abbrev pub cell_in_map : Plane → List ℕ → ℤ → ℤ → ℕ
cell_in_map p cells x y = if is_among p.x p.columns x && is_among p.y p.rows y then slice_index cells (behind p.y y * p.columns + behind p.x x) else 0

-- each cell stands in the chunks where it stood, 0 is all else, and no two chunks overlap
pub record CellsStand (p : Plane) (cells : List ℕ) (chunks : Items) : Type 0 where
  pub cell : (x y : ℤ) → cell_in_chunks x y chunks ≡ cell_in_map p cells x y
  pub apart : (x y : ℤ) → chunks_at x y chunks ≤ 1

-- the chunks that a layer has
abbrev pub chunks_of : Members → Items
chunks_of ms = unwrap_or (option_and_then as_array (get_member (codes "chunks") ms)) no_items

-- the layer at a path: the number of a layer of the map, of a layer in that, and so on
abbrev pub layer_at : List ℕ → Data → Option Data
layer_at [] d = Some d
layer_at (n ∷ ns) d = option_and_then (layer_at ns) (option_and_then (at n) (get (codes "layers") d))

-- a map that begins within so many cells of the plane's middle, as each that `made_finite` makes
abbrev pub IsNear : Plane → Type 0
IsNear p = (unsigned_abs p.x < 2 ^ 39) × (unsigned_abs p.y < 2 ^ 39)

-- cells that data in base64 can spell: numbers of 32 bits
abbrev pub AreSpelled : Option Data → List ℕ → Type 0
AreSpelled d cells = is_text_at d ≡ true → (k : ℕ) → slice_index cells k < 2 ^ 32

-- the chunks that a layer had, each as far as it lies on the map, with the cells that the layer has there
abbrev pub old_chunks : Plane → Members → List ℕ → List Data
old_chunks p layer cells = map (chunk (wide p) (is_text_at (get_member (codes "data") layer)) (widened p cells)) (old_rectangles p (get_member mark layer))

-- an object of a layer, and a whole number of pixels of it
abbrev pub object_at : ℕ → Members → Option Data
object_at n layer = option_and_then (at n) (get_member (codes "objects") layer)

abbrev pub pixels : List ℕ → ℕ → Members → Option ℤ
pixels name n layer = option_and_then as_i64 (option_and_then as_number (option_and_then (get name) (object_at n layer)))

-- far from the ends of 64 bits
abbrev pub IsShort : ℤ → Type 0
IsShort z = unsigned_abs z < 2 ^ 61

-- a layer of the finite map, and the same of the infinite one
pub record LayerStays (p : Plane) (layer own : Members) : Type 0 where
  pub cells : (cells : List ℕ) → layer_cells p (get_member (codes "data") layer) ≡ Some cells → AreSpelled (get_member (codes "data") layer) cells
      → CellsStand p cells (chunks_of own)
  pub first : (cells : List ℕ) → layer_cells p (get_member (codes "data") layer) ≡ Some cells
      → (more : List Data) × (chunks_of own ≡ items_of (old_chunks p layer cells ++ more))
  pub across : (n : ℕ) (z : ℤ) → pixels (codes "x") n layer ≡ Some z → IsShort z → IsShort p.moved_x → pixels (codes "x") n own ≡ Some (z +ℤ p.moved_x)
  pub down : (n : ℕ) (z : ℤ) → pixels (codes "y") n layer ≡ Some z → IsShort z → IsShort p.moved_y → pixels (codes "y") n own ≡ Some (z +ℤ p.moved_y)

-- each layer of a finite map, in groups too, is in the infinite one at the same path, and stays so
abbrev pub LayersStay : Members → Data → Type 0
LayersStay ms note = (n : ℕ) (path : List ℕ) (layer : Members) → layer_at (n ∷ path) (object ms) ≡ Some (object layer)
    → (own : Members) × ((option_and_then (layer_at (n ∷ path)) (infinite_of (object ms)) ≡ Some (object own)) × LayerStays (plane_of ms note) layer own)

abbrev pub AllLayersStay : Type 0
AllLayersStay = (ms : Members) (note : Data) → note_of ms ≡ Some note → IsNear (plane_of ms note) → LayersStay ms note
