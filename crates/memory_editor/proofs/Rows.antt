-- The rows of a rectangle, copied one after another.
use Rattle.std.proofs.Common.{◌≡◌, ℕ, zero, suc, ◌+◌, ◌-◌, ◌*◌, ◌<◌, ◌≤◌, true, List, ◌++◌, Some, length, refl, Ok, arith}
use Rattle.std.specs.Prelude.{nat_le}
use Rattle.std.specs.List.{flat_map, range_with_len}
use Rattle.std.proofs.Math.Nat.{mul-le-mul_left}
use Rattle.std.proofs.lemmas.Bool.{and_parts, leb-true}
use Rattle.std.proofs.lemmas.List.{length-append}
use Rattle.lines.proofs.Ranges.{length-range}
use Rattle.map_model.specs.declared.parts.MapParts.{MapParts}
use Rattle.map_model.specs.Lookups.{layer_of}
use Rattle.edits.specs.Refusals.{tiles_or_fault}
use Rattle.memory_editor.specs.Rectangles.{cells_in, lies_in, row_of, rows_of}
use Rattle.memory_editor.specs.declared.rectangle.Rectangle.{Rectangle}

-- the rows from one on are that row and those behind it
pub rows_from : (f : ℕ → List ℕ) (row end : ℕ) → row < end → flat_map f (range_with_len row (end - row)) ≡ f row
    ++ flat_map f (range_with_len (row + 1) (end - (row + 1)))
rows_from f row end h =
    let more : end - row ≡ suc (end - (row + 1)) = omega (arith, h) in
    rw more refl

-- a row ends within the map
pub row_within : (row width height : ℕ) → row < height → row * width + width ≤ width * height
row_within row width height h =
    let le : row + 1 ≤ height = omega (arith, h) in
    let all = mul-le-mul_left width le in
    omega (arith, all)

-- where a row ends among the cells that are copied
pub copied_within : (to row y width height : ℕ) → to + y * width ≡ row * width → row < y + height → to + width ≤ height * width
copied_within to row y width height at h =
    let le : row + 1 ≤ y + height = omega (arith, h) in
    let all = mul-le-mul_left width le in
    omega (arith, at, all)

-- a rectangle has no more cells than the map in which it lies
pub area_within : (width height columns rows : ℕ) → width ≤ columns → height ≤ rows → height * width ≤ columns * rows
area_within width height columns rows narrow low =
    let inner = mul-le-mul_left height narrow in
    let outer = mul-le-mul_left columns low in
    omega (arith, inner, outer)

pub lies_within : (r : Rectangle) (m : MapParts) → lies_in r m ≡ true → (r.x + r.width ≤ m.width) × (r.y + r.height ≤ m.height)
lies_within r m e =
    let both = and_parts (nat_le (r.x + r.width) m.width) (nat_le (r.y + r.height) m.height) e in
    (leb-true (r.x + r.width) m.width both.0, leb-true (r.y + r.height) m.height both.1)

-- ---- how many cells they are
pub length-row_of : (r : Rectangle) (columns rows : ℕ) (values : List ℕ) (row : ℕ) → r.x + r.width ≤ columns → row < rows → length values ≡ columns * rows
    → length (row_of columns r values row) ≡ r.width
length-row_of r columns rows values row narrow low size =
    let end : row * columns + r.x + r.width ≤ length values = omega (arith, row_within row columns rows low, narrow, size) in
    omega (arith, length-range values (row * columns + r.x) (row * columns + r.x + r.width) end)

length-rows_from : (f : ℕ → List ℕ) (width row count rows : ℕ) → row + count ≤ rows → ((k : ℕ) → k < rows → length (f k) ≡ width)
    → length (flat_map f (range_with_len row count)) ≡ count * width
length-rows_from f width row zero rows fits h = omega arith
length-rows_from f width row (suc count) rows fits h =
    let first = h row (omega (arith, fits)) in
    let rest = length-rows_from f width (row + 1) count rows (omega (arith, fits)) h in
    omega (arith, length-append (f row) (flat_map f (range_with_len (row + 1) count)), first, rest)

pub length-rows_of : (r : Rectangle) (columns rows : ℕ) (values : List ℕ) → r.x + r.width ≤ columns → r.y + r.height ≤ rows → length values ≡ columns * rows
    → length (rows_of columns r values) ≡ r.height * r.width
length-rows_of r columns rows values narrow low size =
    length-rows_from (row_of columns r values) r.width r.y r.height rows low (λ k h. length-row_of r columns rows values k narrow h size)

-- ---- those in a tile layer
pub cells_in-found : (layer : ℕ) (r : Rectangle) (m : MapParts) (values : List ℕ) → lies_in r m ≡ true → tiles_or_fault (layer_of m layer) ≡ Ok values
    → cells_in layer r m ≡ Some (rows_of m.width r values)
cells_in-found layer r m values lies found = rw (lies, found) refl
