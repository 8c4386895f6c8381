-- A coordinate by its sign.
use Rattle.std.proofs.Common.{◌≡◌, ◌≢◌, ◌≤◌, ◌<◌, get_or, length, ℕ, zero, suc, negsuc, subst, arith, FitsSigned, w32, cond, eqb, List, [], ◌∷◌, Option, Some}
use Rattle.std.proofs.Common.{None, Bor, ℤ, pos, refl, sym, ap, ◌∙◌}
use Rattle.std.specs.Prelude.{option_and_then}
use Rattle.std.specs.Option.{option_map}
use Rattle.std.specs.List.{onto_first}
use Rattle.std.proofs.lemmas.Bool.{ne_eqb, cond_both}
use Rattle.std.proofs.lemmas.Int.{ints}
use Rattle.session.specs.declared.limits.TheConstants.{MAX_COORDINATE}
use Rattle.session.specs.Words.{words, number_of, distance_of, below_zero, coordinate_of, IsFirst}
use Rattle.session.proofs.FirstNumbers.{any_pieces}

pub with_minus : (word digits : List ℕ) → word ≡ 45 ∷ digits → coordinate_of word ≡ option_and_then below_zero (distance_of digits)
unfolding coordinate_of
with_minus word digits e = ap coordinate_of e

pub without_minus : (word : List ℕ) → ((rest : List ℕ) → word ≢ 45 ∷ rest) → coordinate_of word ≡ option_map pos (distance_of word)
unfolding coordinate_of distance_of number_of
without_minus [] h = refl
without_minus (b ∷ word) h =
    ap (λ t. cond t (option_and_then below_zero (distance_of word)) (option_map pos (distance_of (b ∷ word))))
    (ne_eqb b 45 (λ e. h word (ap (λ x. x ∷ word) e)))

-- ---- the coordinate at the front of a text
pub minus_none : (ps : List (List ℕ)) → IsFirst distance_of ps 32 None → IsFirst coordinate_of (onto_first 45 ps) 32 None
unfolding coordinate_of
minus_none [] h = absurd h
minus_none (w ∷ ws) h = ap (option_and_then below_zero) h

pub minus_found : (ps : List (List ℕ)) (n : ℕ) (rest : Option (Bor (List ℕ))) (z : Option ℤ) → IsFirst distance_of ps 32 (Some (n, rest)) → z ≡ below_zero n
    → IsFirst coordinate_of (onto_first 45 ps) 32 (option_map (λ y. (y, rest)) z)
unfolding coordinate_of
minus_found [] n rest z h e = absurd h
minus_found (w ∷ ws) n rest None h e = ap (option_and_then below_zero) h.0 ∙ sym e
minus_found (w ∷ ws) n rest (Some y) h e = (ap (option_and_then below_zero) h.0 ∙ sym e, h.1)

-- the first word of a text that does not begin with a `-` does not either
no_minus_word : (text : List ℕ) → ((rest : List ℕ) → text ≢ 45 ∷ rest) → (w : List ℕ) (ws : List (List ℕ)) → words text ≡ w ∷ ws → (rest : List ℕ)
    → w ≢ 45 ∷ rest
no_minus_word [] h w ws e rest k = absurd cc
no_minus_word (b ∷ text) h w ws e rest k =
    let P : List (List ℕ) → Type 0 = λ ps. ps ≡ w ∷ ws → ⊥ in
    cond_both (eqb b 32) ([] ∷ words text) (onto_first b (words text)) P
    (λ _. λ i. absurd cc)
    (λ _. λ i.
    let piece = any_pieces 32 text in
    let same : (b ∷ piece.first) ∷ piece.others ≡ w ∷ ws = sym (ap (onto_first b) piece.are) ∙ i in
    let first : b ≡ 45 = cc in
    h text (ap (λ c. c ∷ text) first))
    e

plain_by : (ps : List (List ℕ)) → ((w : List ℕ) (ws : List (List ℕ)) → ps ≡ w ∷ ws → coordinate_of w ≡ option_map pos (distance_of w))
    → (found : Option (ℕ × Option (Bor (List ℕ)))) → IsFirst distance_of ps 32 found → IsFirst coordinate_of ps 32 (option_map (λ x. (pos x.0, x.1)) found)
plain_by [] k found h = absurd (elim found as (λ o. IsFirst distance_of [] 32 o → ⊥) [ None ↦ λ n. n | Some x ↦ λ n. n ] h)
plain_by (w ∷ ws) k None h = k w ws refl ∙ ap (option_map pos) h
plain_by (w ∷ ws) k (Some x) h = (k w ws refl ∙ ap (option_map pos) h.0, h.1)

pub plain_found : (text : List ℕ) → ((rest : List ℕ) → text ≢ 45 ∷ rest) → (found : Option (ℕ × Option (Bor (List ℕ))))
    → IsFirst distance_of (words text) 32 found → IsFirst coordinate_of (words text) 32 (option_map (λ x. (pos x.0, x.1)) found)
plain_found text h found f = plain_by (words text) (λ w ws e. without_minus w (no_minus_word text h w ws e)) found f

-- a number below 0 that is a distance is an `i32`
pub fits_below : (n : ℕ) (z : ℤ) → Some z ≡ below_zero n → n ≤ MAX_COORDINATE → FitsSigned w32 z
fits_below zero z e h = absurd cc
fits_below (suc n) z e h = let same : negsuc n ≡ z = cc in subst (FitsSigned w32) same (omega (arith, ints))

-- a text whose first byte is a `-` has a byte
pub minus_inside : (bs : List ℕ) → get_or bs 0 0 ≡ 45 → 0 < length bs
minus_inside [] e = absurd cc
minus_inside (b ∷ bs) e = omega arith
