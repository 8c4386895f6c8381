-- Which places rectangles have, and which cells stand there.
use Rattle.std.specs.Prelude.{ℕ, ◌+◌, List, [], ◌∷◌, Bool, ◌&&◌, nat_lt, nat_le, if◌then◌else◌}
use Rattle.infinite_maps.specs.declared.rectangle.Rectangle.{Rectangle}

-- whether a rectangle has the place at this column and row
abbrev pub has : ℕ → ℕ → Rectangle → Bool
has i j r = (nat_le r.left i && nat_lt i r.right) && (nat_le r.top j && nat_lt j r.bottom)

-- how many of the rectangles have it
abbrev pub times : ℕ → ℕ → List Rectangle → ℕ
times i j [] = 0
times i j (r ∷ rs) = (if has i j r then 1 else 0) + times i j rs
