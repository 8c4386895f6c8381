-- Cells of a tile layer that take what an edit puts over them.
use Rattle.std.specs.Prelude.{ℕ, ◌/◌, ◌%◌, List, [], ◌∷◌, suc, Bool, ◌||◌, nat_eq, Option, Some, None, if◌then◌else◌}
use Rattle.std.specs.FinSet as set
use Rattle.region.specs.Cells.{cell_cmp}
use Rattle.map_model.specs.declared.parts.MapParts.{MapParts}
use Rattle.map_model.specs.Lookups.{with_tiles}

-- a cell takes the value over it; where nothing lies over it, it stays
abbrev pub covered_value : Option ℕ → ℕ → ℕ
covered_value None old = old
covered_value (Some value) old = value

-- f of each value and its number, the first of which is this one
abbrev pub each_at : (ℕ → ℕ → ℕ) → ℕ → List ℕ → List ℕ
each_at f number [] = []
each_at f number (value ∷ values) = f number value ∷ each_at f (suc number) values

-- the values of a layer of this width, each of which takes what lies over its column and row
abbrev pub covered : ℕ → (ℕ → ℕ → Option ℕ) → List ℕ → List ℕ
covered width over values = each_at (λ number old. covered_value (over (number % width) (number / width)) old) 0 values

-- the map whose tile layer with the id takes what lies over it
abbrev pub covered_map : ℕ → (ℕ → ℕ → Option ℕ) → MapParts → MapParts
covered_map id over m = with_tiles m id (covered m.width over)

-- ---- selections
-- whether the selection lets a cell be changed: it has the cell, or it has none at all
abbrev pub lets_change : set.FinSet cell_cmp → ℕ × ℕ → Bool
lets_change selection cell = nat_eq (set.len selection) 0 || set.contains selection cell

-- what lies over a cell that the selection lets be changed; nothing lies over the others
abbrev pub where_selected : set.FinSet cell_cmp → (ℕ → ℕ → Option ℕ) → ℕ → ℕ → Option ℕ
where_selected selection over x y = if lets_change selection (x, y) then over x y else None
