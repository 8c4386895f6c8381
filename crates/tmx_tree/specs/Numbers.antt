-- Numbers that a text spells.
use Rattle.std.specs.Prelude.{ℕ, ◌+◌, ◌-◌, ◌*◌, ◌%◌, ◌^◌, ◌==◌, ◌&&◌, ℤ, pos, neg_ℤ, int_lt, List, [], ◌∷◌, Bool, nat_lt, nat_le, drop}
use Rattle.std.specs.Prelude.{slice_index}
use Rattle.std.specs.Prelude.{Float, Option, Some, None, option_map, option_and_then, if◌then◌else◌}
use Rattle.std.specs.Str.{trim}
use Rattle.std.specs.Float.{binary64, floor, float_to_signed}
use Rattle.std.specs.Float.Ieee.{of_int, eq}
use Rattle.std.specs.Int.{w64}
use Rattle.fast_float.specs.Parse.{parse_float}
use Rattle.serde_json.specs.Data.{Num}
use Rattle.serde_json.specs.Find.{of_integer, of_float}

-- ---- digits
abbrev pub is_digit : ℕ → Bool
is_digit c = nat_le 48 c && nat_le c 57

-- the number of digits and one more
abbrev pub with_digit : ℕ → ℕ → ℕ
with_digit n c = 10 * n + (c - 48)

-- the number that digits spell behind those of n, if it is one of 32 bits
abbrev pub digits_from : ℕ → List ℕ → Option ℕ
digits_from n [] = Some n
digits_from n (c ∷ cs) = if is_digit c && nat_lt (with_digit n c) (2 ^ 32) then digits_from (with_digit n c) cs else None

-- the number that one digit or more spell, if it is one of 32 bits
abbrev pub digits_of : List ℕ → Option ℕ
digits_of [] = None
digits_of (c ∷ cs) = digits_from 0 (c ∷ cs)

-- the last 32 bits of that number, however large it is
abbrev pub wrapped_from : ℕ → List ℕ → Option ℕ
wrapped_from n [] = Some n
wrapped_from n (c ∷ cs) = if is_digit c then wrapped_from (with_digit n c % 2 ^ 32) cs else None

abbrev pub wrapped_digits_of : List ℕ → Option ℕ
wrapped_digits_of [] = None
wrapped_digits_of (c ∷ cs) = wrapped_from 0 (c ∷ cs)

abbrev pub without_plus : List ℕ → List ℕ
without_plus s = if slice_index s 0 == 43 then drop 1 s else s

-- ---- whole numbers
-- of 32 bits; blanks may stand around each
unfoldable pub unsigned_of : List ℕ → Option ℕ
unsigned_of s = digits_of (without_plus (trim s))

abbrev pub positive : ℕ → Option ℤ
positive n = if nat_lt n (2 ^ 31) then Some (pos n) else None

abbrev pub negative : ℕ → Option ℤ
negative n = if nat_le n (2 ^ 31) then Some (neg_ℤ (pos n)) else None

abbrev pub whole_in : List ℕ → Option ℤ
whole_in s = if slice_index s 0 == 45 then option_and_then negative (digits_of (drop 1 s)) else option_and_then positive (digits_of (without_plus s))

-- of 32 bits, one of them the sign
unfoldable pub whole_of : List ℕ → Option ℤ
whole_of s = whole_in (trim s)

-- the whole number whose 32 bits these are
abbrev pub signed : ℕ → ℤ
signed n = if nat_lt n (2 ^ 31) then pos n else neg_ℤ (pos (2 ^ 32 - n))

abbrev pub negated : ℕ → ℕ
negated n = (2 ^ 32 - n) % 2 ^ 32

abbrev pub wrapped_in : List ℕ → Option ℤ
wrapped_in s =
    if slice_index s 0 == 45 then option_map (λ n. signed (negated n)) (wrapped_digits_of (drop 1 s))
    else option_map signed (wrapped_digits_of (without_plus s))

-- the last 32 bits of a whole number, one of them the sign
unfoldable pub wrapped_of : List ℕ → Option ℤ
wrapped_of s = wrapped_in (trim s)

-- ---- numbers with fractions
-- the float of a text; blanks may stand around it
unfoldable pub real_of : List ℕ → Option Float
real_of s = parse_float binary64 (trim s)

-- the greatest whole number that is not above it, as far as 64 bits reach
unfoldable pub whole_part : Float → ℤ
whole_part x = float_to_signed w64 (floor binary64 x)

-- a float is its whole part, and below 2^63
abbrev pub is_whole : Float → ℤ → Bool
is_whole x z = eq (of_int binary64 z) x && (int_lt (neg_ℤ (pos (2 ^ 63))) z && int_lt z (pos (2 ^ 63 - 1)))

-- the number that a float is in a tree: a whole one where it can be; none if it is infinite or no number
abbrev pub real_number : Float → Option Num
real_number x = if is_whole x (whole_part x) then Some (of_integer (whole_part x)) else of_float x
