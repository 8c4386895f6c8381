-- Words without a space, and the words of what is spelled with them.
use Rattle.std.proofs.Common.{◌≡◌, ℕ, suc, ◌+◌, ◌^◌, ◌<◌, true, false, eqb, ltb, ◌&&◌, List, [], ◌∷◌, ◌++◌, length, get_or, Option, None, Some, ℤ, pos, negsuc}
use Rattle.std.proofs.Common.{refl, sym, ap, ◌∙◌, subst, arith, lit<}
use Rattle.std.specs.Prelude.{codes}
use Rattle.std.specs.List.{AllByRecursion, list_all, onto_first}
use Rattle.std.specs.Fmt.{decimal, signed_decimal}
use Rattle.std.specs.Char.{is_ascii_digit}
use Rattle.std.specs.Str.{IsUtf8}
use Rattle.std.proofs.lemmas.Str.{IsUtf8-nil, IsUtf8-append, IsUtf8-take, IsUtf8-drop, IsUtf8-from_ascii, IsCharBoundary-before_ascii}
use Rattle.std.proofs.lemmas.Str.{IsCharBoundary-after_ascii}
use Rattle.std.proofs.lemmas.Str.Ascii.{IsAscii-from_all}
use Rattle.std.proofs.lemmas.Int.{ints}
use Rattle.std.proofs.lemmas.Fmt.{digits_decimal}
use Rattle.std.proofs.lemmas.List.{length-append}
use Rattle.std.proofs.lemmas.List.Elements.{All-from_recursion, recursion_from_All}
use Rattle.std.proofs.lemmas.List.Splits.{slice_split_at, slice_split_none, join_with_byte-slice_split}
use Rattle.std.proofs.lemmas.Bool.{ne_eqb, and_parts, ltb-true, cond_both}
use Rattle.std.proofs.Math.Seq.{take-append_seam, drop-append-add, get_or-append_seam}
use Rattle.std.proofs.lemmas.Bool.Decides.{nat_tests}
use Rattle.session.specs.Words.{words, is_name_byte}
use Rattle.session.specs.Spelling.{spaced, joined_by_bars, IsCoordinate, IsName, AreTexts}
use Rattle.session.proofs.Digits.{digits_test, decimal_numerals}

-- an ASCII byte that is neither a control nor a space
abbrev pub IsPlain : ℕ → Type 0
IsPlain b = (32 < b) × (b < 128)

-- a word of such bytes
pub record Plain (word : List ℕ) : Type 0 where
  pub bytes : AllByRecursion IsPlain word

plain_digits : (ds : List ℕ) → list_all is_ascii_digit ds ≡ true → AllByRecursion (λ b. (44 < b) × (b < 128)) ds
plain_digits [] h = tt
plain_digits (c ∷ cs) h =
    let halves = digits_test.parts c cs h in
    ((omega (arith, halves.0.0), omega (arith, halves.0.1)), plain_digits cs halves.1)

-- no space in front of the comma
pub lower : (ds : List ℕ) → AllByRecursion (λ b. (44 < b) × (b < 128)) ds → AllByRecursion IsPlain ds
lower [] h = tt
lower (c ∷ cs) h = ((omega (arith, h.0.0), h.0.1), lower cs h.1)

pub number_bytes : (n : ℕ) → n < 2 ^ 32 → AllByRecursion (λ b. (44 < b) × (b < 128)) (decimal n)
number_bytes n h = plain_digits (decimal n) (digits_decimal decimal_numerals n (omega arith))

pub plain_number : (n : ℕ) → n < 2 ^ 32 → Plain (decimal n)
plain_number n h = record { bytes = lower (decimal n) (number_bytes n h) }

pub plain_coordinate : (z : ℤ) → IsCoordinate z → Plain (signed_decimal z)
plain_coordinate (pos n) h = plain_number n (omega (arith, ints, h.high))
plain_coordinate (negsuc n) h = record { bytes = ((lit< tt, lit< tt), (plain_number (suc n) (omega (arith, ints, h.low))).bytes) }

name_byte : (b : ℕ) → is_name_byte b ≡ true → IsPlain b
name_byte b h = (grind (arith, nat_tests), grind (arith, nat_tests))

plain_all : (name : List ℕ) → AllByRecursion (λ b. is_name_byte b ≡ true) name → AllByRecursion IsPlain name
plain_all [] h = tt
plain_all (b ∷ name) h = (name_byte b h.0, plain_all name h.1)

pub plain_name : (limit : ℕ) (name : List ℕ) → IsName limit name → Plain name
plain_name limit name h = record { bytes = plain_all name (recursion_from_All (λ b. is_name_byte b ≡ true) name h.bytes) }

-- a word of a text
pub record Clean (word : List ℕ) : Type 0 where
  pub no_space : AllByRecursion (λ b. eqb b 32 ≡ false) word
  pub utf8 : IsUtf8 word

no_space : (word : List ℕ) → AllByRecursion IsPlain word → AllByRecursion (λ b. eqb b 32 ≡ false) word
no_space [] h = tt
no_space (b ∷ word) h = (ne_eqb b 32 (λ e. omega (arith, h.0.0, e)), no_space word h.1)

pub clean : (word : List ℕ) → Plain word → Clean word
clean word h = record {
  no_space = no_space word h.bytes;
  utf8 = IsUtf8-from_ascii word
      (IsAscii-from_all word (λ k d l. (All-from_recursion IsPlain word h.bytes k d l).1));
}

space : IsUtf8 (32 ∷ [])
space = IsUtf8-from_ascii (32 ∷ []) (IsAscii-from_all (32 ∷ []) (All-from_recursion (λ b. b < 128) (32 ∷ []) (lit< tt, tt)))

plain_tested : (word : List ℕ) → list_all (λ b. ltb 32 b && ltb b 128) word ≡ true → AllByRecursion IsPlain word
plain_tested [] h = tt
plain_tested (b ∷ word) h =
    let halves = and_parts _ _ h in
    let both = and_parts _ _ halves.0 in
    ((ltb-true _ _ both.0, ltb-true _ _ both.1), plain_tested word halves.1)

-- a word that is written out
pub plain_literal : (word : List ℕ) → list_all (λ b. ltb 32 b && ltb b 128) word ≡ true → Plain word
plain_literal word h = record { bytes = plain_tested word h }

-- words with spaces between them are the words of that text
pub words-spaced : (word : List ℕ) (more : List (List ℕ)) → AllByRecursion Clean (word ∷ more) → words (spaced (word ∷ more)) ≡ word ∷ more
words-spaced word [] h = slice_split_none (λ b. eqb b 32) word (All-from_recursion _ word h.0.no_space)
words-spaced word (next ∷ more) h = slice_split_at (λ b. eqb b 32) word 32 (spaced (next ∷ more)) (All-from_recursion _ word h.0.no_space) refl
    ∙ ap (λ ws. word ∷ ws) (words-spaced next more h.1)

pub utf8-spaced : (ws : List (List ℕ)) → AllByRecursion Clean ws → IsUtf8 (spaced ws)
utf8-spaced [] h = IsUtf8-nil
utf8-spaced (word ∷ []) h = h.0.utf8
utf8-spaced (word ∷ next ∷ more) h = IsUtf8-append word (32 ∷ spaced (next ∷ more)) h.0.utf8
    (IsUtf8-append (32 ∷ []) (spaced (next ∷ more)) space (utf8-spaced (next ∷ more) h.1))

barred : IsUtf8 (codes " || ")
barred = IsUtf8-from_ascii (codes " || ") (IsAscii-from_all (codes " || ")
    (All-from_recursion (λ b. b < 128) (codes " || ") (lit< tt, (lit< tt, (lit< tt, (lit< tt, tt))))))

pub utf8-joined : (text : List ℕ) (action : Option (List ℕ)) → AreTexts text action → IsUtf8 (joined_by_bars text action)
utf8-joined text None h = h.first.utf8
utf8-joined text (Some action) h = IsUtf8-append text (codes " || " ++ action) h.first.utf8 (IsUtf8-append (codes " || ") action barred h.second.utf8)

-- what stands before a space, and behind it
pub utf8_before : (word rest : List ℕ) → IsUtf8 (word ++ 32 ∷ rest) → IsUtf8 word
utf8_before word rest u =
    let bs = word ++ 32 ∷ rest in
    let inside : length word < length bs = omega (arith, length-append word (32 ∷ rest)) in
    let ascii : get_or bs (length word) 0 < 128 = omega (arith, get_or-append_seam word 32 rest 0) in
    subst IsUtf8 (take-append_seam word (32 ∷ rest)) (IsUtf8-take bs (length word) u (IsCharBoundary-before_ascii bs (length word) inside ascii))

pub utf8_after : (word rest : List ℕ) → IsUtf8 (word ++ 32 ∷ rest) → IsUtf8 rest
utf8_after word rest u =
    let bs = word ++ 32 ∷ rest in
    let inside : length word < length bs = omega (arith, length-append word (32 ∷ rest)) in
    let ascii : get_or bs (length word) 0 < 128 = omega (arith, get_or-append_seam word 32 rest 0) in
    subst IsUtf8 (drop-append-add word (32 ∷ rest) 1) (IsUtf8-drop bs (length word + 1) u (IsCharBoundary-after_ascii bs (length word) u inside ascii))

onto_no_space : (b : ℕ) (ws : List (List ℕ)) → eqb b 32 ≡ false → AllByRecursion (AllByRecursion (λ b. eqb b 32 ≡ false)) ws
    → AllByRecursion (AllByRecursion (λ b. eqb b 32 ≡ false)) (onto_first b ws)
onto_no_space b [] e h = ((e, tt), tt)
onto_no_space b (w ∷ ws) e h = ((e, h.0), h.1)

words_no_space : (bytes : List ℕ) → AllByRecursion (AllByRecursion (λ b. eqb b 32 ≡ false)) (words bytes)
words_no_space [] = (tt, tt)
words_no_space (b ∷ bytes) = cond_both (eqb b 32) ([] ∷ words bytes) (onto_first b (words bytes)) (AllByRecursion (AllByRecursion (λ b. eqb b 32 ≡ false)))
    (λ is. (tt, words_no_space bytes)) (λ is. onto_no_space b (words bytes) is (words_no_space bytes))

clean_from : (ws : List (List ℕ)) → AllByRecursion (AllByRecursion (λ b. eqb b 32 ≡ false)) ws → IsUtf8 (spaced ws) → AllByRecursion Clean ws
clean_from [] h u = tt
clean_from (w ∷ []) h u = (record { no_space = h.0; utf8 = u }, tt)
clean_from (w ∷ v ∷ ws) h u = (record { no_space = h.0; utf8 = utf8_before w (spaced (v ∷ ws)) u }, clean_from (v ∷ ws) h.1 (utf8_after w (spaced (v ∷ ws)) u))

pub clean_words : (bytes : List ℕ) → IsUtf8 bytes → AllByRecursion Clean (words bytes)
clean_words bytes u = clean_from (words bytes) (words_no_space bytes) (subst IsUtf8 (sym (join_with_byte-slice_split 32 bytes)) u)
