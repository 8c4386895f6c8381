-- Sets of cells. A cell is its column and its row.
use Rattle.std.specs.Prelude.{◌≡◌, ℕ, ◌+◌, ◌<◌, ◌≤◌, ◌⊎◌, ℤ, pos, negsuc, ◌-ℤ◌, List, [], ◌∷◌, ◌++◌, Bool, false, ◌&&◌, nat_le, nat_lt}
use Rattle.std.proofs.Common.{zero, suc}
use Rattle.std.specs.declared.cmp.Ordering.{Ordering}
use Rattle.std.specs.declared.cmp.Ordering.TheVariants.{Less}
use Rattle.std.specs.Ordering.{nat_cmp, on, then_cmp}
use Rattle.std.specs.Coded.{Coded, coded×, coded_ℕ}
use Rattle.std.specs.FinSet as set
use Rattle.region.specs.declared.runs.Run.{Run}

-- cells are in row order: by their rows, and in a row by their columns
abbrev pub cell_cmp : ℕ × ℕ → ℕ × ℕ → Ordering
cell_cmp = then_cmp (on (λ q. q.1) nat_cmp) (on (λ q. q.0) nat_cmp)

abbrev pub cell_code : Coded (ℕ × ℕ)
cell_code = coded× coded_ℕ coded_ℕ

-- the cells of a row from a column on
abbrev pub row_cells : ℕ → ℕ → ℕ → List (ℕ × ℕ)
row_cells y x zero = []
row_cells y x (suc n) = (x, y) ∷ row_cells y (suc x) n

-- the cells of the runs, one run after another
abbrev pub cells_of : List Run → List (ℕ × ℕ)
cells_of [] = []
cells_of (r ∷ rs) = row_cells r.y r.x r.len ++ cells_of rs

-- the cells of so many rows from a row on, and of so many columns from a column on
abbrev pub block_cells : ℕ → ℕ → ℕ → ℕ → List (ℕ × ℕ)
block_cells x y w zero = []
block_cells x y w (suc h) = row_cells y x w ++ block_cells x (suc y) w h

-- the set of the cells
abbrev pub listed : List (ℕ × ℕ) → set.FinSet cell_cmp
listed cells = set.from_list cells

-- the set of the runs' cells
abbrev pub set_of : List Run → set.FinSet cell_cmp
set_of rs = listed (cells_of rs)

-- the cells of a rectangle: its first column and row, and how many columns and rows it has
abbrev pub rectangle : ℕ → ℕ → ℕ → ℕ → set.FinSet cell_cmp
rectangle x y w h = listed (block_cells x y w h)

-- a cell comes before the first of the cells
abbrev pub ComesBeforeAll : ℕ × ℕ → List (ℕ × ℕ) → Type 0
ComesBeforeAll p [] = Unit {0}
ComesBeforeAll p (q ∷ qs) = cell_cmp p q ≡ Less

-- the first cell stands in a later row than the second one, or in its row, at its column or behind it
abbrev pub IsFrom : ℕ × ℕ → ℕ × ℕ → Type 0
IsFrom q p = (p.1 < q.1) ⊎ ((p.1 ≡ q.1) × (p.0 ≤ q.0))

-- cells in row order, each once
abbrev pub IsInRowOrder : List (ℕ × ℕ) → Type 0
IsInRowOrder [] = Unit {0}
IsInRowOrder (p ∷ qs) = ComesBeforeAll p qs × IsInRowOrder qs

-- whether a cell is in a rectangle
abbrev pub in_rectangle : ℕ → ℕ → ℕ → ℕ → ℕ × ℕ → Bool
in_rectangle x y w h q = (nat_le x q.0 && nat_lt q.0 (x + w)) && (nat_le y q.1 && nat_lt q.1 (y + h))

-- whether a set has the cell at a column and a row, none of which is negative
abbrev pub has_at : set.FinSet cell_cmp → ℤ → ℤ → Bool
has_at s (pos x) (pos y) = set.contains s (x, y)
has_at s (pos x) (negsuc y) = false
has_at s (negsuc x) y = false

-- whether a cell lies within a width and a height, and moving it back by dx columns and dy rows gives a cell of the set
abbrev pub in_moved_cut : set.FinSet cell_cmp → ℤ → ℤ → ℕ → ℕ → ℕ × ℕ → Bool
in_moved_cut s dx dy w h q = (nat_lt q.0 w && nat_lt q.1 h) && has_at s (pos q.0 -ℤ dx) (pos q.1 -ℤ dy)
