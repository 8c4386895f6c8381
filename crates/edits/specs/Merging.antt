-- The join of two changes of one layer, of which the newer one was made behind the older one.
use Rattle.std.specs.Prelude.{◌≡◌, ℕ, ◌-◌, ◌<◌, ◌≤◌, List, [], ◌∷◌, ◌++◌, length, nat_eq, slice_index_or, if◌then◌else◌}
use Rattle.std.specs.declared.cmp.Ordering.TheVariants.{Less}
use Rattle.std.specs.Ordering.{match_ordering}
use Rattle.region.specs.Cells.{cell_cmp}
use Rattle.map_model.specs.declared.edit.CellEdit.{CellEdit}
use Rattle.map_model.specs.declared.parts.MapParts.{MapParts}
use Rattle.map_model.specs.CellEdits.{cell}
use Rattle.map_model.specs.Difference.{difference_in}

-- a cell of both changes: its value before the older one and after the newer one; it goes where these are equal
abbrev pub joined_cell : CellEdit → CellEdit → List CellEdit
joined_cell e n = if nat_eq e.before n.after then [] else record e { after = n.after } ∷ []

-- the join of a first older cell, and of the rest of the older ones, with the newer cells
abbrev pub join_first : CellEdit → (List CellEdit → List CellEdit) → List CellEdit → List CellEdit
join_first e rest [] = e ∷ rest []
join_first e rest (n ∷ ns) = match_ordering (cell_cmp (cell e) (cell n)) (e ∷ rest (n ∷ ns)) (joined_cell e n ++ rest ns) (n ∷ join_first e rest ns)

-- the join of the older cells and the newer ones, both in row order: a cell of one of them keeps its values
abbrev pub joined : List CellEdit → List CellEdit → List CellEdit
joined [] ns = ns
joined (e ∷ es) ns = join_first e (joined es) ns

-- ---- a law
-- the join of the difference of a first map and a second one, and of that of the second and a third, is the difference of the first and the third
abbrev pub JoinedIsDifference : Type 0
JoinedIsDifference =
    (id : ℕ) (l m n : MapParts) → 0 < l.width → m.width ≡ l.width → m.height ≡ l.height
    → joined (difference_in id l m) (difference_in id m n) ≡ difference_in id l n

-- ---- numbers
-- the cell in front of the low number comes before the newer one, and the cell at the high number does not
pub record AreNumbersAround (es : List CellEdit) (n : CellEdit) (low high : ℕ) : Type 0 where
  pub order : low ≤ high
  pub within : high ≤ length es
  pub prefix : 0 < low → cell_cmp (cell (slice_index_or es (low - 1) n)) (cell n) ≡ Less
  pub back : high < length es → cell_cmp (cell (slice_index_or es high n)) (cell n) ≡ Less → ⊥

-- the first number of which the cell does not come before the newer one
pub record IsNumberOf (es : List CellEdit) (n : CellEdit) (number : ℕ) : Type 0 where
  pub within : number ≤ length es
  pub prefix : (k : ℕ) → k < number → cell_cmp (cell (slice_index_or es k n)) (cell n) ≡ Less
  pub back : number < length es → cell_cmp (cell (slice_index_or es number n)) (cell n) ≡ Less → ⊥
