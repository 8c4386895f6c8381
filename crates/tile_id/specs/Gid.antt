-- The parts of a tile value, a number below 2 ^ 32.
use Rattle.std.specs.Prelude.{ℕ, ◌^◌, ◌%◌, ◌/◌}

-- the tile that it names: its remainder by 2 ^ 28
abbrev pub base_of : ℕ → ℕ
base_of gid = gid % 2 ^ 28

-- its flags: the quotient
abbrev pub flags_of : ℕ → ℕ
flags_of gid = gid / 2 ^ 28
