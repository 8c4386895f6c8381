-- Numbers with commas between them are the one word that is read as those numbers.
use Rattle.std.proofs.Common.{◌≡◌, ℕ, ◌^◌, ◌<◌, ◌≤◌, false, eqb, List, [], ◌∷◌, ◌++◌, length, get_or, map, All, Some, refl, ap, ◌∙◌, subst, arith, lit<}
use Rattle.std.specs.Option.{option_map}
use Rattle.std.specs.List.{AllByRecursion, join_with_byte, slice_split}
use Rattle.std.specs.Fmt.{decimal}
use Rattle.std.proofs.lemmas.List.Elements.{All-from_recursion, recursion_from_All}
use Rattle.std.proofs.lemmas.List.{length-map}
use Rattle.std.proofs.lemmas.List.Splits.{slice_split_at, slice_split_none, length-slice_split, join_with_byte-slice_split}
use Rattle.std.proofs.lemmas.Bool.{ne_eqb}
use Rattle.session.specs.Words.{number_of, all_numbers, numbers_of}
use Rattle.session.specs.Spelling.{commas, IsNumber}
use Rattle.session.proofs.Decimals.{number_of-decimal, decimal_from}
use Rattle.session.proofs.Coordinates.{and_then_from, map_from}
use Rattle.session.proofs.SpacedWords.{IsPlain, Plain, number_bytes, plain_number}

no_comma : (n : ℕ) → n < 2 ^ 32 → All (λ b. eqb b 44 ≡ false) (decimal n)
no_comma n h = λ k d l. let at = All-from_recursion (λ b. (44 < b) × (b < 128)) (decimal n) (number_bytes n h) k d l in
    ne_eqb (get_or (decimal n) k d) 44 (λ e. omega (arith, at.0, e))

-- the pieces between the commas
pieces : (n : ℕ) (ns : List ℕ) → AllByRecursion IsNumber (n ∷ ns) → slice_split (λ b. eqb b 44) (commas (n ∷ ns)) ≡ map decimal (n ∷ ns)
pieces n [] h = slice_split_none (λ b. eqb b 44) (decimal n) (no_comma n h.0)
pieces n (m ∷ ns) h = slice_split_at (λ b. eqb b 44) (decimal n) 44 (commas (m ∷ ns)) (no_comma n h.0) refl ∙ ap (λ ws. decimal n ∷ ws) (pieces m ns h.1)

all_decimals : (ns : List ℕ) → AllByRecursion IsNumber ns → all_numbers (map decimal ns) ≡ Some ns
all_decimals [] h = refl
all_decimals (n ∷ ns) h = rw (number_of-decimal n h.0, all_decimals ns h.1) refl

numbers_of-commas_by : (ns : List ℕ) → 1 ≤ length ns → AllByRecursion IsNumber ns → numbers_of (commas ns) ≡ Some ns
unfolding numbers_of
numbers_of-commas_by [] l h = absurd (omega arith)
numbers_of-commas_by (n ∷ ns) l h = ap all_numbers (pieces n ns h) ∙ all_decimals (n ∷ ns) h

pub numbers_of-commas : (ns : List ℕ) → 1 ≤ length ns → All IsNumber ns → numbers_of (commas ns) ≡ Some ns
numbers_of-commas ns l h = numbers_of-commas_by ns l (recursion_from_All IsNumber ns h)

decimals_from : (ws : List (List ℕ)) (ns : List ℕ) → all_numbers ws ≡ Some ns → (map decimal ns ≡ ws) × AllByRecursion IsNumber ns
decimals_from [] ns e = let same : [] ≡ ns = cc in subst (λ ms. (map decimal ms ≡ []) × AllByRecursion IsNumber ms) same (refl, tt)
decimals_from (w ∷ ws) ns e =
    let first = and_then_from (λ n. option_map (λ ms. n ∷ ms) (all_numbers ws)) (number_of w) ns e in
    let rest = map_from (λ ms. first.0 ∷ ms) (all_numbers ws) ns first.2 in
    let one = decimal_from w first.0 first.1 in
    let more = decimals_from ws rest.0 rest.1 in
    subst (λ ms. (map decimal ms ≡ w ∷ ws) × AllByRecursion IsNumber ms) rest.2
    (ap (λ v. v ∷ map decimal rest.0) one.0 ∙ ap (λ vs. w ∷ vs) more.0, (one.1, more.1))

-- a word that is read as numbers is those numbers with commas between them
pub record ReadAs (word ns : List ℕ) : Type 0 where
  pub spelled : commas ns ≡ word
  pub some : 1 ≤ length ns
  pub numbers : All IsNumber ns

pub commas_from : (word ns : List ℕ) → numbers_of word ≡ Some ns → ReadAs word ns
unfolding numbers_of
commas_from word ns e =
    let back = decimals_from (slice_split (λ b. eqb b 44) word) ns e in
    record {
      spelled = ap (join_with_byte 44) back.0 ∙ join_with_byte-slice_split 44 word;
      some = omega (arith, length-map ns decimal, ap length back.0, length-slice_split (λ b. eqb b 44) word);
      numbers = All-from_recursion IsNumber ns back.1;
    }

appended : (xs ys : List ℕ) → AllByRecursion IsPlain xs → AllByRecursion IsPlain ys → AllByRecursion IsPlain (xs ++ ys)
appended [] ys h k = k
appended (x ∷ xs) ys h k = (h.0, appended xs ys h.1 k)

plain_by : (ns : List ℕ) → AllByRecursion IsNumber ns → AllByRecursion IsPlain (commas ns)
plain_by [] h = tt
plain_by (n ∷ []) h = (plain_number n h.0).bytes
plain_by (n ∷ m ∷ ns) h = appended (decimal n) (44 ∷ commas (m ∷ ns)) (plain_number n h.0).bytes ((lit< tt, lit< tt), plain_by (m ∷ ns) h.1)

pub plain_commas : (ns : List ℕ) → All IsNumber ns → Plain (commas ns)
plain_commas ns h = record { bytes = plain_by ns (recursion_from_All IsNumber ns h) }
