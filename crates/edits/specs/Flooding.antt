-- How a fill finds the cells that are joined to its start.
--
-- Cells are seen by their numbers, row by row, 64 to a word. What is taken in a word waits, as a batch, until the cells beside it have been
-- looked at.
use Rattle.std.specs.Prelude.{◌≡◌, ◌≢◌, ◌⊎◌, ℕ, ◌+◌, ◌*◌, ◌/◌, ◌%◌, ◌<◌, ◌≤◌, ◌^◌, List, [], ◌∷◌, zero, suc, Bool, true, false, not, ◌&&◌, nat_lt, length}
use Rattle.std.specs.Prelude.{slice_get, slice_index, Option, Some, None, if◌then◌else◌}
use Rattle.std.specs.Int.{bit_at}
use Rattle.std.specs.FinSet as set
use Rattle.region.specs.Cells.{cell_cmp}
use Rattle.map_model.specs.declared.limits.TheConstants.{MAX_SIDE}
use Rattle.map_model.specs.Lists.{Each}
use Rattle.edits.specs.declared.marks.Marks.{Marks}
use Rattle.edits.specs.declared.ground.Ground.{Ground}
use Rattle.edits.specs.declared.flood.Batch.{Batch}
use Rattle.edits.specs.declared.flood.Spread.{Spread}
use Rattle.map_model.specs.declared.edit.CellEdit.{CellEdit}
use Rattle.edits.specs.Covering.{covered, lets_change}
use Rattle.map_model.specs.Difference.{difference}
use Rattle.edits.specs.Filling.{free_from}
use Rattle.edits.specs.Joining.{AreJoined, is_free_cell, is_value}
use Rattle.edits.specs.Marks.{is_marked, room}

-- how many numbers below one pass the test
abbrev pub count : (ℕ → Bool) → ℕ → ℕ
count test zero = 0
count test (suc n) = (if test n then 1 else 0) + count test n

-- ---- free cells
-- whether a cell lies in the layer, has the value, and may be changed
abbrev pub free_in : Ground → ℕ × ℕ → Bool
free_in ground = is_free_cell ground.width ground.tiles.now ground.selection.now ground.value

-- the cell with a number
abbrev pub cell_of : Ground → ℕ → ℕ × ℕ
cell_of ground number = (number % ground.width, number / ground.width)

-- whether the cell with a number has the value, and may be changed
unfoldable pub free_at : Ground → ℕ → Bool
free_at ground number = free_in ground (cell_of ground number)

abbrev pub start_of : Ground → ℕ × ℕ
start_of ground = (ground.start.0, ground.start.1)

-- the values are those of a layer that has the start
pub record IsGround (ground : Ground) : Type 0 where
  pub size : length ground.tiles.now ≡ ground.height * ground.width
  pub narrow : ground.width ≤ MAX_SIDE
  pub low : ground.height ≤ MAX_SIDE
  pub column : ground.start.0 < ground.width
  pub row : ground.start.1 < ground.height

-- the cell with a number is joined to the start
unfoldable pub IsLed : Ground → ℕ → Type 0
IsLed ground number = AreJoined (free_in ground) (start_of ground) (cell_of ground number)

-- the numbers of two cells side by side in a row
abbrev pub AreSideBySide : Ground → ℕ → ℕ → Type 0
AreSideBySide ground p r = ((r ≡ suc p) × (r % ground.width ≢ 0)) ⊎ ((p ≡ suc r) × (p % ground.width ≢ 0))

-- the numbers of two cells side by side, in one row or in one column
abbrev pub AreNear : Ground → ℕ → ℕ → Type 0
AreNear ground p r = (r ≡ p + ground.width) ⊎ ((p ≡ r + ground.width) ⊎ AreSideBySide ground p r)

-- ---- taken cells
-- whether a number is taken
unfoldable pub taken_at : Spread → ℕ → Bool
taken_at s number = is_marked s.taken number && not (is_marked s.open number)

-- whether a cell of the layer is taken
unfoldable pub is_taken : Ground → Spread → ℕ × ℕ → Bool
is_taken ground s q = nat_lt q.0 ground.width && taken_at s (q.1 * ground.width + q.0)

-- the number is that of a cell of the batch
abbrev pub InBatch : Batch → ℕ → Type 0
InBatch b number = (number / 64 ≡ b.word) × (bit_at b.bits (number % 64) ≡ 1)

-- the number is that of a cell of one of the batches
abbrev pub Waits : List Batch → ℕ → Type 0
Waits [] number = ⊥
Waits (b ∷ bs) number = InBatch b number ⊎ Waits bs number

-- a batch of taken cells of a word that there is
pub record IsBatch (s : Spread) (b : Batch) : Type 0 where
  pub within : 64 * b.word < room s.open
  pub taken : (p : ℕ) → InBatch b p → taken_at s p ≡ true

-- what is known of a number, by whether it is open and whether it is taken: where it is both, only that it may be changed
abbrev pub Means : Ground → ℕ → Bool → Bool → Type 0
Means ground p true true = free_at ground p ≡ is_value (slice_get ground.tiles.now p) ground.value
Means ground p true false = free_at ground p ≡ true
Means ground p false true = free_at ground p ≡ true
Means ground p false false = free_at ground p ≡ false

-- the marks say what is known. The taken cells are joined to the start; whatever is free beside them in their word and row is taken too, and
-- they lie between two words
pub record IsSound (ground : Ground) (s : Spread) : Type 0 where
  pub large : length ground.tiles.now < room s.open
  pub same_room : room s.taken ≡ room s.open
  pub small : room s.open < 2 ^ 32
  pub numbers : (p : ℕ) → Means ground p (is_marked s.open p) (is_marked s.taken p)
  pub led : (p : ℕ) → taken_at s p ≡ true → IsLed ground p
  pub inner : (p r : ℕ) → taken_at s p ≡ true → p / 64 ≡ r / 64 → AreSideBySide ground p r → free_at ground r ≡ true → taken_at s r ≡ true
  pub pending : Each (IsBatch s) s.pending.items
  pub from : (p : ℕ) → taken_at s p ≡ true → 64 * s.first ≤ p
  pub to : (p : ℕ) → taken_at s p ≡ true → p < 64 * s.end
  pub first : 64 * s.first ≤ room s.open
  pub end : 64 * s.end ≤ room s.open

-- whatever is free beside the taken cells is taken too, but for those that wait
abbrev pub IsClosed : Ground → Spread → List Batch → Type 0
IsClosed ground s waiting = (p r : ℕ) → taken_at s p ≡ true → AreNear ground p r → free_at ground r ≡ true → (taken_at s r ≡ true) ⊎ Waits waiting p

-- how much may be left to do: the numbers that are not taken, and the batches that wait
abbrev pub work_left : Ground → Spread → ℕ
work_left ground s = count (λ k. not (taken_at s k)) (length ground.tiles.now) + length s.pending.items

-- what was taken is taken, what waited waits, and so does what was not taken before
pub record Spreads (ground : Ground) (old new : Spread) : Type 0 where
  pub keeps : (p : ℕ) → taken_at old p ≡ true → taken_at new p ≡ true
  pub waits : (p : ℕ) → Waits old.pending.items p → Waits new.pending.items p
  pub fresh : (p : ℕ) → taken_at new p ≡ true → (taken_at old p ≡ true) ⊎ Waits new.pending.items p
  pub work : work_left ground new ≤ work_left ground old

-- ---- changes
-- the values are those of a layer of this width that has the cell
pub record HasCell (width : ℕ) (tiles : List ℕ) (x y : ℕ) : Type 0 where
  pub height : ℕ
  pub size : length tiles ≡ height * width
  pub narrow : width ≤ MAX_SIDE
  pub low : height ≤ MAX_SIDE
  pub column : x < width
  pub row : y < height

-- what a fill puts over the cells that it has taken
abbrev pub taken_over : Ground → Spread → ℕ → ℕ → ℕ → Option ℕ
taken_over ground s value x y = if is_taken ground s (x, y) then Some value else None

-- the changes of the taken among so many cells of the layer, from the first
abbrev pub changes_below : Ground → Spread → ℕ → ℕ → List CellEdit
changes_below ground s value = difference ground.width ground.tiles.now (covered ground.width (taken_over ground s value) ground.tiles.now)

-- the marks are those of the cells of the layer that the selection has
abbrev pub AreSelected : ℕ → ℕ → set.FinSet cell_cmp → Marks → Type 0
AreSelected width numbers selection marks = (x y : ℕ) → x < width → y * width + x < numbers → is_marked marks (y * width + x) ≡ set.contains selection (x, y)

-- the marks are those of the cells of the layer that may be changed
abbrev pub AreAllowed : Ground → Marks → Type 0
AreAllowed ground marks = (p : ℕ) → p < length ground.tiles.now → is_marked marks p ≡ lets_change ground.selection.now (cell_of ground p)

-- what a fill of a layer of this width goes over, from a cell, within a selection
pub record IsGroundOf (w : ℕ) (values : List ℕ) (selection : set.FinSet cell_cmp) (x y : ℕ) (g : Ground) : Type 0 where
  pub sound : IsGround g
  pub width : g.width ≡ w
  pub tiles : g.tiles.now ≡ values
  pub column : g.start.0 ≡ x
  pub row : g.start.1 ≡ y
  pub value : g.value ≡ slice_index values (y * w + x)
  pub cells : (q : ℕ × ℕ) → free_in g q ≡ free_from w values selection (x, y) q
