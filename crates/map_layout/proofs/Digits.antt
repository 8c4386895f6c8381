-- A number that is but digits.
use Rattle.std.proofs.Common.{◌≡◌, ℕ, ◌^◌, ◌<◌, List, [], ◌∷◌, ◌++◌, length, get_or, true, false, Some, refl, sym, ap, ◌∙◌, arith, append-nil, lt-ltb, ne_eqb}
use Rattle.std.specs.Char.{digit_value}
use Rattle.std.specs.Str.Parse.{AllDigits, digits_value}
use Rattle.fast_float.specs.Text.{Parts, text_of, digits_of, IsWellFormed}
use Rattle.fast_float.proofs.Writing.{scan-text_of}
use Rattle.serde_json.specs.Data.{unsigned}
use Rattle.serde_json.specs.Read.{number_of, number_from, is_integer}

no_minus : (ds rest : List ℕ) → AllDigits 10 ds → 0 < length ds → get_or (ds ++ rest) 0 0 ≡ 45 → ⊥
no_minus [] rest h some e = omega arith
no_minus (d ∷ ds) rest h some e = let digit : digit_value d < 10 = h.0 in let is : d ≡ 45 = e in grind arith

of_text : (p : Parts) → IsWellFormed p → 0 < length p.whole → number_of (text_of p) ≡ number_from false p
unfolding number_of
of_text p h some = rw (ne_eqb (get_or (text_of p) 0 0) 45 (no_minus p.whole _ h.whole_digits some)) (ap (number_from false) (scan-text_of p h))

abbrev parts : List ℕ → Parts
parts ds = record { whole = ds; point = false; fraction = []; exponent_negative = false; exponent = []; len = length (ds ++ []) }

pub number_of-digits : (ds : List ℕ) → AllDigits 10 ds → 0 < length ds → digits_value 10 ds < 2 ^ 64 → number_of ds ≡ Some (unsigned (digits_value 10 ds))
number_of-digits ds h some fits =
    let formed : IsWellFormed (parts ds) = record {
      whole_digits = h;
      fraction_digits = tt;
      exponent_digits = tt;
      no_point = λ _. refl;
      no_exponent = λ _. refl;
      len_is = refl;
    } in
    let whole : is_integer (parts ds) ≡ true = rw (lt-ltb _ _ some) in
    let same : digits_of (parts ds) ≡ digits_value 10 ds = ap (digits_value 10) (append-nil ds) in
    ap number_of (sym (append-nil ds)) ∙ of_text (parts ds) formed some ∙ rw (whole, same) (rw (lt-ltb _ _ fits))
