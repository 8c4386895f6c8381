-- The corners of a polygon or a polyline: pairs of numbers with a comma in between, and blanks between pairs.
use Rattle.std.specs.Prelude.{ℕ, ◌==◌, ◌&&◌, not, List, [], ◌∷◌, ◌++◌, length, Bool, true, false, codes, Option, Some, None, Result, Ok, Err, if◌then◌else◌}
use Rattle.std.specs.Float.{binary64}
use Rattle.fast_float.specs.Parse.{parse_float}
use Rattle.serde_json.specs.Data.{Num, Data, number, object, no_members, put}
use Rattle.tmx_tree.specs.declared.fault.Refusal.{Refusal}
use Rattle.tmx_tree.specs.declared.fault.Refusal.TheVariants.{Corners}
use Rattle.tmx_tree.specs.Answers.{◌>>=◌}
use Rattle.tmx_tree.specs.Rows.{real_in}
use Rattle.tmx_tree.specs.Cells.{is_space}

abbrev pub some_number : Option Num → Result Num Refusal
some_number None = Err Corners
some_number (Some n) = Ok n

abbrev pub corner_number : List ℕ → Result Num Refusal
corner_number s = real_in (parse_float binary64 s) >>= some_number

abbrev pub corner : List ℕ → List ℕ → Result Data Refusal
corner x y =
    corner_number x >>= λ a. corner_number y >>= λ b. Ok (object (put (codes "x") (number a) (put (codes "y") (number b) no_members)))

-- the corners found, and one more where a pair was read: what is before its comma, whether there is one, what is behind it
abbrev pub with_corner : List ℕ → Bool → List ℕ → List Data → Result (List Data) Refusal
with_corner x parted y found =
    if parted then (corner x y >>= λ d. Ok (found ++ d ∷ [])) else (if length x == 0 then Ok found else Err Corners)

-- those of a text, where so much of a pair has been read
abbrev pub corners_from : List ℕ → Bool → List ℕ → List ℕ → List Data → Result (List Data) Refusal
corners_from x parted y [] found = with_corner x parted y found
corners_from x parted y (c ∷ cs) found =
    if is_space c then (with_corner x parted y found >>= λ more. corners_from [] false [] cs more)
    else (if c == 44 && not parted then corners_from x true y cs found
    else (if parted then corners_from x parted (y ++ c ∷ []) cs found else corners_from (x ++ c ∷ []) parted y cs found))

abbrev pub corners : List ℕ → Result (List Data) Refusal
corners s = corners_from [] false [] s []
