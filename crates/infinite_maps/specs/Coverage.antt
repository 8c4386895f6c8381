-- Which cells of a map rectangles cover, as a list with a truth value for each cell.
use Rattle.std.specs.Prelude.{ℕ, zero, suc, List, [], ◌∷◌, Bool, true, false, not, ◌&&◌, ◌||◌, replicate, slice_set, slice_index_or, fold}
use Rattle.infinite_maps.specs.declared.rectangle.Rectangle.{Rectangle}
use Rattle.infinite_maps.specs.Rectangles.{area, place}

-- the list with the first n cells of a rectangle covered
abbrev pub covered_to : ℕ → Rectangle → ℕ → List Bool → List Bool
covered_to columns r zero cover = cover
covered_to columns r (suc n) cover = slice_set (covered_to columns r n cover) (place columns r n) true

unfoldable pub with_covered : ℕ → List Bool → Rectangle → List Bool
with_covered columns cover r = covered_to columns r (area r) cover

-- what rectangles cover of so many cells
abbrev pub cover_of : ℕ → ℕ → List Rectangle → List Bool
cover_of columns size rs = fold (with_covered columns) (replicate size false) rs

-- whether a test holds for a number below n
abbrev pub any_below : (ℕ → Bool) → ℕ → Bool
any_below test zero = false
any_below test (suc n) = any_below test n || test n

-- no rectangle covers a cell of this one
abbrev pub is_uncovered : ℕ → List Bool → Rectangle → Bool
is_uncovered columns cover r = not (any_below (λ k. slice_index_or cover (place columns r k) true) (area r))

-- none overlaps one before it, or what is covered already
abbrev pub are_apart : ℕ → List Bool → List Rectangle → Bool
are_apart columns cover [] = true
are_apart columns cover (r ∷ rs) = is_uncovered columns cover r && are_apart columns (with_covered columns cover r) rs
