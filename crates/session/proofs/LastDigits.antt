-- The text of a number, from its last digits.
use Rattle.std.proofs.Common.{◌≡◌, ℕ, ◌+◌, ◌/◌, ◌%◌, ◌^◌, ◌<◌, ◌≤◌, List, [], ◌∷◌, ◌++◌, map, decimal, sym, ap, ◌∙◌, arith}
use Rattle.std.proofs.lemmas.Fmt.{decimal-digits_of, decimal_digit}
use Rattle.std.proofs.lemmas.Int.Digits.{digits_of_step}
use Rattle.std.proofs.lemmas.List.{map_push, append_assoc}

-- a number of two digits or more ends with its last one
pub decimal-last : (n : ℕ) → 10 ≤ n → n < 2 ^ 64 → decimal n ≡ decimal (n / 10) ++ (48 + n % 10) ∷ []
decimal-last n more small =
    decimal-digits_of n (omega arith) small
    ∙ ap (map (λ d. 48 + d)) (digits_of_step 10 n (omega arith) (omega arith))
    ∙ map_push (λ d. 48 + d) _ (n % 10)
    ∙ ap (λ ds. ds ++ (48 + n % 10) ∷ []) (sym (decimal-digits_of (n / 10) (omega arith) (omega arith)))

-- the three last digits of a number
abbrev pub three_digits : ℕ → List ℕ
three_digits n = (48 + n / 100 % 10) ∷ (48 + n / 10 % 10) ∷ (48 + n % 10) ∷ []

pub decimal-two_last : (n : ℕ) → 100 ≤ n → n < 2 ^ 64 → decimal n ≡ decimal (n / 100) ++ (48 + n / 10 % 10) ∷ (48 + n % 10) ∷ []
decimal-two_last n more small =
    let prefix : n / 10 / 10 ≡ n / 100 = omega arith in
    decimal-last n (omega arith) small
    ∙ ap (λ ds. ds ++ (48 + n % 10) ∷ []) (decimal-last (n / 10) (omega arith) (omega arith) ∙ ap (λ (m : ℕ). decimal m ++ (48 + n / 10 % 10) ∷ []) prefix)
    ∙ append_assoc (decimal (n / 100)) ((48 + n / 10 % 10) ∷ []) ((48 + n % 10) ∷ [])

pub decimal-three_last : (n : ℕ) → 1000 ≤ n → n < 2 ^ 64 → decimal n ≡ decimal (n / 1000) ++ three_digits n
decimal-three_last n more small =
    let prefix : n / 100 / 10 ≡ n / 1000 = omega arith in
    decimal-two_last n (omega arith) small
    ∙ ap (λ ds. ds ++ (48 + n / 10 % 10) ∷ (48 + n % 10) ∷ [])
    (decimal-last (n / 100) (omega arith) (omega arith) ∙ ap (λ (m : ℕ). decimal m ++ (48 + n / 100 % 10) ∷ []) prefix)
    ∙ append_assoc (decimal (n / 1000)) ((48 + n / 100 % 10) ∷ []) ((48 + n / 10 % 10) ∷ (48 + n % 10) ∷ [])

-- a number of three digits, of two, and of one
pub decimal-three : (n : ℕ) → 100 ≤ n → n < 1000 → decimal n ≡ three_digits n
decimal-three n more few =
    let first : n / 100 % 10 ≡ n / 100 = omega arith in
    decimal-two_last n more (omega arith) ∙ ap (λ ds. ds ++ (48 + n / 10 % 10) ∷ (48 + n % 10) ∷ []) (decimal_digit (n / 100) (omega arith))
    ∙ ap (λ d. (48 + d) ∷ (48 + n / 10 % 10) ∷ (48 + n % 10) ∷ []) (sym first)

pub decimal-two : (n : ℕ) → 10 ≤ n → n < 100 → decimal n ≡ (48 + n / 10) ∷ (48 + n % 10) ∷ []
decimal-two n more few = decimal-last n more (omega arith) ∙ ap (λ ds. ds ++ (48 + n % 10) ∷ []) (decimal_digit (n / 10) (omega arith))

pub decimal-one : (n : ℕ) → n < 10 → decimal n ≡ (48 + n % 10) ∷ []
decimal-one n few = let last : n % 10 ≡ n = omega arith in decimal_digit n few ∙ ap (λ d. (48 + d) ∷ []) (sym last)
