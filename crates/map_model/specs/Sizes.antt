-- Whether a map may be so large.
use Rattle.std.specs.Prelude.{ℕ, ◌*◌, Bool, ◌&&◌, nat_le}
use Rattle.map_model.specs.declared.limits.TheConstants.{MAX_SIDE, MAX_CELLS}

-- a number from 1 on, up to this one
abbrev pub is_side : ℕ → ℕ → Bool
is_side side most = nat_le 1 side && nat_le side most

-- the columns and rows of a map
abbrev pub is_size : ℕ → ℕ → Bool
is_size width height = (is_side width MAX_SIDE && is_side height MAX_SIDE) && nat_le (width * height) MAX_CELLS
