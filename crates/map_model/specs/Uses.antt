-- The values of a tileset, as the range of their bases: from its first id on, below the next one.
use Rattle.std.specs.Prelude.{ℕ, ◌^◌, ◌&&◌, List, [], ◌∷◌, Bool, nat_lt, nat_le, if◌then◌else◌}
use Rattle.tile_id.specs.Gid.{base_of}
use Rattle.map_model.specs.declared.parts.Tileset.{Tileset}

-- whether the base of a value is not below one number, and below another
abbrev pub is_between : ℕ → ℕ → ℕ → Bool
is_between low end value = nat_le low (base_of value) && nat_lt (base_of value) end

-- of a first id above this one, where the end so far is one, and another, the lower one
abbrev pub nearer : ℕ → ℕ → Tileset → ℕ
nearer first_id end t = if nat_lt first_id t.first_id && nat_lt t.first_id end then t.first_id else end

-- the lowest first id of tilesets that is above this one, and no higher than the end so far
abbrev pub end_of : ℕ → ℕ → List Tileset → ℕ
end_of first_id end [] = end
end_of first_id end (t ∷ ts) = end_of first_id (nearer first_id end t) ts

-- no base is as great
abbrev pub base_limit : ℕ
base_limit = 2 ^ 28
