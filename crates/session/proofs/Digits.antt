-- The value of digits, one by one.
use Rattle.std.proofs.Common.{◌≡◌, ℕ, ◌+◌, ◌-◌, ◌*◌, ◌^◌, ◌<◌, ◌≤◌, Bool, true, false, cond, ◌&&◌, List, length, get_or, take, Some, None, refl, arith, rules}
use Rattle.std.specs.Char.{is_ascii_digit, digit_value}
use Rattle.std.specs.List.{list_all}
use Rattle.std.specs.Str.Parse.{digits_value}
use Rattle.std.proofs.lemmas.Bool.{le-ltb}
use Rattle.std.proofs.lemmas.Bool.Decides.{nat_tests}
use Rattle.std.proofs.lemmas.Int.Digits.{digits_value_more}
use Rattle.std.proofs.lemmas.List.{length-take}
use Rattle.std.proofs.lemmas.Str.Parse.{digits_value-take-le, digits_value_short}
use Rattle.std.proofs.lemmas.Str.Parse.{IsNumeralModel, numerals_by_value, IsDigitsTest}
use Rattle.session.specs.Words.{digits_of}

pub digits_test : IsDigitsTest (λ ds. list_all is_ascii_digit ds ≡ true)
digits_test = search rules

-- digits and their value are numerals
pub decimal_numerals : IsNumeralModel (λ ds. list_all is_ascii_digit ds ≡ true) (digits_value 10)
decimal_numerals = numerals_by_value _ digits_test

digit_is : (c : ℕ) → is_ascii_digit c ≡ true → digit_value c ≡ c - 48
digit_is c h = grind (arith, nat_tests)

pub digits_step : (bs : List ℕ) (i n : ℕ) → i < length bs → is_ascii_digit (get_or bs i 0) ≡ true → n ≡ digits_value 10 (take i bs)
    → n * 10 + (get_or bs i 0 - 48) ≡ digits_value 10 (take (i + 1) bs)
digits_step bs i n l h e = omega (arith, digits_value_more 10 bs i l, digit_is (get_or bs i 0) h, e)

and_none : (a : Bool) (n : ℕ) → None ≡ cond (a && false) (Some n) None
and_none true n = refl
and_none false n = refl

pub digits_large : (bs : List ℕ) (i : ℕ) → 2 ^ 32 ≤ digits_value 10 (take i bs) → None ≡ digits_of bs
digits_large bs i h =
    let l : 2 ^ 32 ≤ digits_value 10 bs = omega (arith, h, digits_value-take-le 10 bs i (omega arith)) in
    rw (le-ltb (digits_value 10 bs) (2 ^ 32) l) (and_none (list_all is_ascii_digit bs) (digits_value 10 bs))

-- eight digits have a value below 10^8
pub few_digits : (bs : List ℕ) (i n : ℕ) → i ≤ 8 → list_all is_ascii_digit (take i bs) ≡ true → n ≡ digits_value 10 (take i bs) → n < 10 ^ 8
few_digits bs i n few digits e =
    let short : length (take i bs) ≤ 8 = omega (arith, length-take i bs, few) in
    omega (arith, digits_value_short decimal_numerals (take i bs) 8 digits short, e)
