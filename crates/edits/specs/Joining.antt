-- Cells that are joined.
--
-- Some cells are free. Two free cells are joined where a list of free cells leads from one to the other, each a neighbour of the
-- one before. A fill decides it by the number of steps: as many as there are cells are enough.
use Rattle.std.specs.Prelude.{◌≡◌, ◌⊎◌, IsTrue, ℕ, ◌+◌, ◌*◌, List, [], ◌∷◌, zero, suc, Bool, false, ◌&&◌, ◌||◌, nat_eq, nat_lt, Option, Some, None, slice_get}
use Rattle.std.specs.List.{list_any}
use Rattle.std.specs.FinSet as set
use Rattle.region.specs.Cells.{cell_cmp}
use Rattle.edits.specs.Covering.{lets_change}

-- ---- neighbours
-- two columns, or two rows, side by side
abbrev pub AreBeside : ℕ → ℕ → Type 0
AreBeside a b = (suc a ≡ b) ⊎ (suc b ≡ a)

-- two cells side by side, in one row or in one column
abbrev pub AreNeighbours : ℕ × ℕ → ℕ × ℕ → Type 0
AreNeighbours p q = ((p.1 ≡ q.1) × AreBeside p.0 q.0) ⊎ ((p.0 ≡ q.0) × AreBeside p.1 q.1)

-- ---- joined, by a list of cells
-- the cells of the list lead from p to q: all are free, and each is a neighbour of the one before
abbrev pub Leads : (ℕ × ℕ → Bool) → ℕ × ℕ → List (ℕ × ℕ) → ℕ × ℕ → Type 0
Leads free p [] q = IsTrue (free p) × (p ≡ q)
Leads free p (r ∷ path) q = IsTrue (free p) × AreNeighbours p r × Leads free r path q

-- a list of cells leads from p to q
abbrev pub AreJoined : (ℕ × ℕ → Bool) → ℕ × ℕ → ℕ × ℕ → Type 0
AreJoined free p q = (path : List (ℕ × ℕ)) × Leads free p path q

-- ---- joined, by a number of steps
-- the columns, or the rows, beside one
abbrev pub beside : ℕ → List ℕ
beside zero = 1 ∷ []
beside (suc a) = a ∷ suc (suc a) ∷ []

-- whether the test holds of a neighbour of the cell
abbrev pub any_neighbour : (ℕ × ℕ → Bool) → ℕ × ℕ → Bool
any_neighbour test q = list_any (λ x. test (x, q.1)) (beside q.0) || list_any (λ y. test (q.0, y)) (beside q.1)

-- whether at most so many steps, each to a free neighbour, lead from p to q
abbrev pub is_reached : (ℕ × ℕ → Bool) → ℕ × ℕ → ℕ → ℕ × ℕ → Bool
is_reached free p zero q = free q && (nat_eq p.0 q.0 && nat_eq p.1 q.1)
is_reached free p (suc steps) q = is_reached free p steps q || (free q && any_neighbour (is_reached free p steps) q)

-- ---- the cells that a fill may take
-- whether there is a value, and it is this one
abbrev pub is_value : Option ℕ → ℕ → Bool
is_value None value = false
is_value (Some own) value = nat_eq own value

-- whether a cell lies in a layer of this width, has the value there, and may be changed
abbrev pub is_free_cell : ℕ → List ℕ → set.FinSet cell_cmp → ℕ → ℕ × ℕ → Bool
is_free_cell width tiles selection value q = nat_lt q.0 width && (is_value (slice_get tiles (q.1 * width + q.0)) value && lets_change selection q)
