-- A coordinate's signed decimal is the one word that is read as it.
use Rattle.std.proofs.Common.{◌≡◌, ◌≢◌, ℕ, zero, suc, ◌≤◌, Bool, true, false, cond, eqb, leb, List, [], ◌∷◌, get_or, Option, Some, None, ℤ, pos, negsuc, refl}
use Rattle.std.proofs.Common.{sym, ap, ◌∙◌, subst, arith}
use Rattle.std.specs.Prelude.{option_and_then}
use Rattle.std.specs.Option.{option_map}
use Rattle.std.specs.Fmt.{decimal, signed_decimal}
use Rattle.std.proofs.lemmas.Int.{ints}
use Rattle.std.proofs.lemmas.Fmt.{decimal_nonempty, digits_decimal}
use Rattle.std.proofs.lemmas.Str.Parse.{not_in_digits}
use Rattle.std.proofs.lemmas.Bool.{le-leb, leb-true, eqb-true}
use Rattle.session.specs.declared.limits.TheConstants.{MAX_COORDINATE}
use Rattle.session.specs.Words.{number_of, as_distance, distance_of, below_zero, coordinate_of}
use Rattle.session.specs.Spelling.{IsCoordinate}
use Rattle.session.proofs.Digits.{decimal_numerals}
use Rattle.session.proofs.Decimals.{number_of-decimal, decimal_from}
use Rattle.session.proofs.Signs.{with_minus, without_minus}

pub and_then_from : {A B : Type 0} (f : A → Option B) (o : Option A) (b : B) → option_and_then f o ≡ Some b → (a : A) × (o ≡ Some a) × (f a ≡ Some b)
and_then_from f None b e = absurd cc
and_then_from f (Some a) b e = (a, refl, e)

pub map_from : {A B : Type 0} (f : A → B) (o : Option A) (b : B) → option_map f o ≡ Some b → (a : A) × (o ≡ Some a) × (f a ≡ b)
map_from f None b e = absurd cc
map_from f (Some a) b e = (a, refl, cc)

pub distance_of-decimal : (n : ℕ) → n ≤ MAX_COORDINATE → distance_of (decimal n) ≡ Some n
unfolding distance_of
distance_of-decimal n h = rw (number_of-decimal n (omega arith), le-leb n MAX_COORDINATE h) refl

within_from : (m n : ℕ) → as_distance m ≡ Some n → (m ≡ n) × (m ≤ MAX_COORDINATE)
within_from m n e = elim (leb m MAX_COORDINATE) as (λ t. leb m MAX_COORDINATE ≡ t → cond t (Some m) None ≡ Some n → (m ≡ n) × (m ≤ MAX_COORDINATE)) [
  | true ↦ λ t e. (cc, leb-true _ _ t)
  | false ↦ λ t e. absurd cc
] refl e

pub distance_from : (word : List ℕ) (n : ℕ) → distance_of word ≡ Some n → (decimal n ≡ word) × (n ≤ MAX_COORDINATE)
unfolding distance_of
distance_from word n e =
    let inner = and_then_from as_distance (number_of word) n e in
    let same = within_from _ _ inner.2 in
    (ap decimal (sym same.0) ∙ (decimal_from word inner.0 inner.1).0, omega (arith, same.0, same.1))

no_minus : (n : ℕ) → n ≤ MAX_COORDINATE → (rest : List ℕ) → decimal n ≢ 45 ∷ rest
no_minus n h rest e =
    not_in_digits decimal_numerals (decimal n) 45 (digits_decimal decimal_numerals n (omega arith)) (λ r. omega (arith, r.0)) 0
    (decimal_nonempty n (omega arith)) (ap (λ ds. get_or ds 0 0) e)

pub coordinate_of-signed : (z : ℤ) → IsCoordinate z → coordinate_of (signed_decimal z) ≡ Some z
coordinate_of-signed (pos n) h =
    let k : n ≤ MAX_COORDINATE = omega (arith, ints, h.high) in
    without_minus _ (no_minus n k) ∙ ap (option_map pos) (distance_of-decimal n k)
coordinate_of-signed (negsuc n) h =
    let k : suc n ≤ MAX_COORDINATE = omega (arith, ints, h.low) in
    with_minus _ (decimal (suc n)) refl ∙ ap (option_and_then below_zero) (distance_of-decimal (suc n) k)

below_from : (n : ℕ) (z : ℤ) → below_zero n ≡ Some z → n ≤ MAX_COORDINATE → (signed_decimal z ≡ 45 ∷ decimal n) × IsCoordinate z
below_from zero z e h = absurd cc
below_from (suc n) z e h =
    let same : negsuc n ≡ z = cc in
    (ap signed_decimal (sym same), subst IsCoordinate same (record { low = omega (arith, ints); high = omega (arith, ints) }))

by_sign : (b : ℕ) (word : List ℕ) (z : ℤ) (t : Bool) → eqb b 45 ≡ t
    → cond t (option_and_then below_zero (distance_of word)) (option_map pos (distance_of (b ∷ word))) ≡ Some z → (signed_decimal z ≡ b ∷ word) × IsCoordinate z
by_sign b word z true is e =
    let inner = and_then_from below_zero (distance_of word) z e in
    let far = distance_from word inner.0 inner.1 in
    let below = below_from inner.0 z inner.2 far.1 in
    (below.0 ∙ ap (λ ds. 45 ∷ ds) far.0 ∙ ap (λ c. c ∷ word) (sym (eqb-true b 45 is)), below.1)
by_sign b word z false is e =
    let inner = map_from pos (distance_of (b ∷ word)) z e in
    let far = distance_from (b ∷ word) inner.0 inner.1 in
    (ap signed_decimal (sym inner.2) ∙ far.0, subst IsCoordinate inner.2 (record { low = omega (arith, ints); high = omega (arith, ints, far.1) }))

-- a word that is read as a coordinate is its signed decimal
pub signed_from : (word : List ℕ) (z : ℤ) → coordinate_of word ≡ Some z → (signed_decimal z ≡ word) × IsCoordinate z
unfolding coordinate_of
signed_from [] z e = absurd cc
signed_from (b ∷ word) z e = by_sign b word z _ refl e
