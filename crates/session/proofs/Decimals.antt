-- A number's decimal is the one word that is read as it.
use Rattle.std.proofs.Common.{◌≡◌, ℕ, zero, suc, ◌^◌, ◌<◌, Bool, true, false, cond, eqb, ltb, not, ◌&&◌, ◌||◌, List, length, get_or, Some, None, refl, sym, ap}
use Rattle.std.proofs.Common.{◌∙◌, arith, inl, inr}
use Rattle.std.specs.Fmt.{decimal}
use Rattle.std.specs.Str.Parse.{digits_value}
use Rattle.std.proofs.lemmas.Fmt.{decimal_digit, decimal_nonempty, first_decimal, digits_decimal, digits_value-decimal, decimal-digits_value}
use Rattle.std.proofs.lemmas.Bool.{lt-ltb, ltb-true, ne_eqb, eqb-true, eq-eqb, and_parts, or_cases, not-true, both_ways}
use Rattle.std.specs.Char.{is_ascii_digit}
use Rattle.std.specs.List.{list_all}
use Rattle.session.specs.Words.{is_numeral_prefix, number_of}
use Rattle.session.proofs.Digits.{decimal_numerals}

-- a number other than 0 has no 0 in front
no_zero : (n : ℕ) → n < 2 ^ 32 → (eqb (length (decimal n)) 1 || not (eqb (get_or (decimal n) 0 0) 48)) ≡ true
no_zero zero h = ap (λ ds. eqb (length ds) 1 || not (eqb (get_or ds 0 0) 48)) (decimal_digit 0 (omega arith))
no_zero (suc n) h =
    let high = first_decimal (suc n) (omega arith) (omega arith) in
    let other = ne_eqb (get_or (decimal (suc n)) 0 0) 48 (λ e. omega (arith, high, e)) in
    rw other (elim (eqb (length (decimal (suc n))) 1) as (λ t. t || true ≡ true) [ true ↦ refl | false ↦ refl ])

prefix_decimal : (n : ℕ) → n < 2 ^ 32 → is_numeral_prefix (decimal n) ≡ true
prefix_decimal n h = rw (lt-ltb 0 (length (decimal n)) (decimal_nonempty n (omega arith)), no_zero n h) refl

pub number_of-decimal : (n : ℕ) → n < 2 ^ 32 → number_of (decimal n) ≡ Some n
unfolding number_of
number_of-decimal n h = rw (
  prefix_decimal n h,
  digits_decimal decimal_numerals n (omega arith),
  digits_value-decimal decimal_numerals n (omega arith),
  lt-ltb n
      (2 ^ 32) h,
) refl

single : (word : List ℕ) → (eqb (length word) 1 || not (eqb (get_or word 0 0) 48)) ≡ true → get_or word 0 0 ≡ 48 → length word ≡ 1
single word h e = elim (or_cases _ _ h) [
  | inl one ↦ eqb-true _ _ one
  | inr other ↦ absurd (both_ways _ (not-true _ other) (eq-eqb _ _ e))
]

from_tests : (word : List ℕ) (n : ℕ) (a b : Bool) → is_numeral_prefix word ≡ a → (list_all is_ascii_digit word && ltb (digits_value 10 word) (2 ^ 32)) ≡ b
    → cond a (cond b (Some (digits_value 10 word)) None) None ≡ Some n → (decimal n ≡ word) × (n < 2 ^ 32)
from_tests word n true true is digits e =
    let value : digits_value 10 word ≡ n = cc in
    let prefix = and_parts _ _ is in
    let tests = and_parts _ _ digits in
    let below = ltb-true _ _ tests.1 in (
      ap decimal (sym value) ∙ decimal-digits_value decimal_numerals word tests.0 (ltb-true _ _ prefix.0) (single word prefix.1) (omega (arith, below)),
      omega (arith, below, value),
    )
from_tests word n true false is digits e = absurd cc
from_tests word n false b is digits e = absurd cc

-- a word that is read as a number is its decimal
pub decimal_from : (word : List ℕ) (n : ℕ) → number_of word ≡ Some n → (decimal n ≡ word) × (n < 2 ^ 32)
unfolding number_of
decimal_from word n e = from_tests word n _ _ refl refl e
