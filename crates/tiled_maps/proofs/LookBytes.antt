-- One lexeme of a text after another, as the look passes them.
use Rattle.std.proofs.Common.{IfSome, ◌≡◌, ℕ, suc, ◌+◌, ◌-◌, ◌*◌, ◌^◌, ◌<◌, ◌≤◌, ◌⊎◌, inl, inr, Bool, true, false, cond, ◌||◌, ◌==◌, List, [], ◌∷◌, ◌++◌}
use Rattle.std.proofs.Common.{length, take, drop, get_or, Option, Some, None, option_and_then, refl, sym, ap, ap₂, ◌∙◌, subst, arith, append-nil}
use Rattle.std.proofs.Common.{take-append-drop, length-take, append_assoc, drop-drop, get_or-drop, zero-lt-suc}
use native.Mathlib.Nat.{pow-le-pow_right}
use Rattle.std.specs.Fmt.{sign_text}
use Rattle.std.proofs.lemmas.Bool.{cases_eq, true≢false, false≢true, eqb-true, ne_eqb, leb-true, and_parts, and_from, lt-ltb, le-leb}
use Rattle.std.proofs.lemmas.List.{drop_more, drop_all}
use Rattle.std.proofs.lemmas.Int.Digits.{digits_value-lt}
use Rattle.std.proofs.lemmas.Fmt.{decimal_digit}
use Rattle.std.proofs.lemmas.Float.Parse.{scan_numeral-text_of}
use Rattle.std.specs.List.{prefix_len}
use Rattle.std.specs.Char.{is_ascii_digit, digit_value}
use Rattle.std.specs.Str.Parse.{AllDigits, digits_value, digits_value_after}
use Rattle.fast_float.specs.Text.{Parts, scan, digits_of, IsWellFormed}
use Rattle.json.specs.Token.{Token, begin_object, end_object, begin_array, end_array, boolean, null, bad}
use Rattle.json.specs.Text.{content}
use Rattle.json.specs.Word.{is_operator, is_space, head, ends_word, after_whole, after_fraction, after_exponent, after_number, word}
use Rattle.json.specs.Lex.{Lexeme, token, comma, colon, quote, backslash, operator, space, other, class, operator_lexeme, Mode, between, in_word, lex_byte, lex}
use Rattle.json.specs.Print.{IsNumber}
use Rattle.json.proofs.Printed.Numbers.{lex-number, in_word-ended}
use Rattle.serde_json.specs.Data.{Num, unsigned}
use Rattle.serde_json.specs.Find.{is_float}
use Rattle.serde_json.specs.Read.{is_integer, number_from, number_of}
use Rattle.serde_json.proofs.Numbers.{number_of-decimal}
use Rattle.tiled_maps.specs.Lexemes.{IsWhole, BeginFalse, AreFalse, AreEmpty, First, ArePlain, BeginsLiteral, Ends, Leads, EndsWell}

-- ---- operators and spaces
mark : (b : Bool) (l m : Lexeme) (ls : List Lexeme) → ArePlain (l ∷ ls) → ArePlain (m ∷ ls) → ArePlain (cond b l m ∷ ls)
mark true l m ls h k = h
mark false l m ls h k = k

operator_plain : (x : ℕ) (ls : List Lexeme) → ArePlain ls → ArePlain (operator_lexeme x ∷ ls)
operator_plain x ls h =
    mark (x == 123) (token begin_object) _ ls h (mark (x == 125) (token end_object) _ ls h (mark (x == 91) (token begin_array) _ ls h
    (mark (x == 93) (token end_array) _ ls h (mark (x == 44) comma colon ls h h))))

delimiter : (q b o s : Bool) (x : ℕ) (xs : List ℕ) (k : Mode → List Lexeme) → (q ≡ true → (o || s) ≡ false) → (b ≡ true → (o || s) ≡ false) → (o || s) ≡ true
    → ArePlain (k between) → ArePlain (lex_byte between (cond q quote (cond b backslash (cond o operator (cond s space other)))) x xs k)
delimiter true b o s x xs k hq hb h rest = absurd (true≢false (sym h ∙ hq refl))
delimiter false true o s x xs k hq hb h rest = absurd (true≢false (sym h ∙ hb refl))
delimiter false false true s x xs k hq hb h rest = operator_plain x (k between) rest
delimiter false false false true x xs k hq hb h rest = rest
delimiter false false false false x xs k hq hb h rest = absurd (false≢true h)

delimiter_byte : (x : ℕ) (xs : List ℕ) → (is_operator x || is_space x) ≡ true → ArePlain (lex between xs) → ArePlain (lex between (x ∷ xs))
unfolding lex
delimiter_byte x xs h rest =
    delimiter (x == 34) (x == 92) (is_operator x) (is_space x) x xs (λ m. lex m xs)
    (λ e. ap (λ y. is_operator y || is_space y) (eqb-true x 34 e)) (λ e. ap (λ y. is_operator y || is_space y) (eqb-true x 92 e)) h rest

pub delimiter_plain : (text : List ℕ) (at : ℕ) → at < length text → (is_operator (get_or text at 0) || is_space (get_or text at 0)) ≡ true
    → ArePlain (lex between (drop (at + 1) text)) → ArePlain (lex between (drop at text))
delimiter_plain text at h d rest = subst (λ t. ArePlain (lex between t)) (sym (drop_more text at 0 h)) (delimiter_byte _ _ d rest)

-- ---- words
class_letter : (x : ℕ) → 97 ≤ x → x ≤ 122 → class x ≡ other
class_letter x l h =
    rw (
      ne_eqb x 34 (λ e. omega arith),
      ne_eqb x 92 (λ e. omega arith),
      ne_eqb x 123 (λ e. omega arith),
      ne_eqb x 125 (λ e. omega arith),
      ne_eqb x 91 (λ e. omega arith),
      ne_eqb x 93 (λ e. omega arith),
      ne_eqb x 58 (λ e. omega arith),
      ne_eqb x 44 (λ e. omega arith),
      ne_eqb x 32 (λ e. omega arith),
      ne_eqb x 9 (λ e. omega arith),
      ne_eqb x 10 (λ e. omega arith),
      ne_eqb x 13 (λ e. omega arith),
    )

letter_byte : (x : ℕ) (xs : List ℕ) → 97 ≤ x → x ≤ 122 → lex in_word (x ∷ xs) ≡ lex in_word xs
unfolding lex
letter_byte x xs l h = ap (λ c. lex_byte in_word c x xs (λ m. lex m xs)) (class_letter x l h)

-- a word goes on over a letter
pub letter_passed : (text : List ℕ) (at : ℕ) → at < length text → 97 ≤ get_or text at 0 → get_or text at 0 ≤ 122
    → lex in_word (drop (at + 1) text) ≡ lex in_word (drop at text)
letter_passed text at h l u = sym (ap (lex in_word) (drop_more text at 0 h) ∙ letter_byte _ _ l u)

literal_or : (b : Bool) (t : Token) (ls : List Lexeme) → First t ls (ArePlain ls) → First (cond b t bad) ls (ArePlain ls)
literal_or true t ls h = h
literal_or false t ls h = tt

of_true : (xs : List ℕ) → ArePlain (lex in_word xs) → ArePlain (lex between (116 ∷ xs))
unfolding lex word
of_true xs h = literal_or _ (boolean true) (lex in_word xs) h

of_false : (xs : List ℕ) → ArePlain (lex in_word xs) → ArePlain (lex between (102 ∷ xs))
unfolding lex word
of_false xs h = literal_or _ (boolean false) (lex in_word xs) h

of_null : (xs : List ℕ) → ArePlain (lex in_word xs) → ArePlain (lex between (110 ∷ xs))
unfolding lex word
of_null xs h = literal_or _ null (lex in_word xs) h

literal_byte : (x : ℕ) (xs : List ℕ) → BeginsLiteral x → ArePlain (lex in_word xs) → ArePlain (lex between (x ∷ xs))
literal_byte x xs (inl (inl e)) h = subst (λ y. ArePlain (lex between (y ∷ xs))) (sym e) (of_true xs h)
literal_byte x xs (inl (inr e)) h = subst (λ y. ArePlain (lex between (y ∷ xs))) (sym e) (of_false xs h)
literal_byte x xs (inr e) h = subst (λ y. ArePlain (lex between (y ∷ xs))) (sym e) (of_null xs h)

pub literal_plain : (text : List ℕ) (at end : ℕ) → at < length text → BeginsLiteral (get_or text at 0)
    → lex in_word (drop end text) ≡ lex in_word (drop (at + 1) text)
    → ends_word (drop end text) ≡ true → ArePlain (lex between (drop end text)) → ArePlain (lex between (drop at text))
literal_plain text at end h is skips ended rest =
    subst (λ t. ArePlain (lex between t)) (sym (drop_more text at 0 h))
    (literal_byte _ _ is (subst ArePlain (sym (in_word-ended (drop end text) ended) ∙ skips) rest))

-- ---- numbers
abbrev Digits : List ℕ → Type 0
Digits [] = Unit {0}
Digits (x ∷ xs) = (is_ascii_digit x ≡ true) × Digits xs

taken_at : (b : Bool) (x : ℕ) (xs : List ℕ) (n : ℕ) → is_ascii_digit x ≡ b → Digits (take n xs) → Digits (take (cond b (1 + n) 0) (x ∷ xs))
taken_at true x xs n e h = subst (λ k. Digits (take k (x ∷ xs))) (let next : suc n ≡ 1 + n = omega arith in next) (e, h)
taken_at false x xs n e h = tt

taken : (xs : List ℕ) → Digits (take (prefix_len is_ascii_digit xs) xs)
taken [] = tt
taken (x ∷ xs) = taken_at (is_ascii_digit x) x xs (prefix_len is_ascii_digit xs) refl (taken xs)

digit_range : (x : ℕ) → is_ascii_digit x ≡ true → (48 ≤ x) × (x ≤ 57)
digit_range x e = let p = and_parts _ _ e in (leb-true 48 x p.0, leb-true x 57 p.1)

digit_below : (x : ℕ) → 48 ≤ x → x ≤ 57 → digit_value x < 10
digit_below x l h = grind arith

digit_above : (x : ℕ) → 48 < x → x ≤ 57 → 0 < digit_value x
digit_above x l h = grind arith

all_digits : (xs : List ℕ) → Digits xs → AllDigits 10 xs
all_digits [] h = tt
all_digits (x ∷ xs) h = let r = digit_range x h.0 in (digit_below x r.0 r.1, all_digits xs h.1)

full : (xs : List ℕ) → Digits xs → prefix_len is_ascii_digit xs ≡ length xs
full [] h = refl
full (x ∷ xs) h = ap (λ b. cond b (1 + prefix_len is_ascii_digit xs) 0) h.0 ∙ omega (arith, full xs h.1)

grows : (xs : List ℕ) (n : ℕ) → n ≤ digits_value_after 10 n xs
grows [] n = omega arith
grows (x ∷ xs) n = omega (arith, grows xs (n * 10 + digit_value x))

abbrev parts : List ℕ → Parts
parts ds = record { whole = ds; point = false; fraction = []; exponent_negative = false; exponent = []; len = length (ds ++ []) }

scanned : (ds : List ℕ) → AllDigits 10 ds → scan ds ≡ parts ds
scanned ds h =
    let formed : IsWellFormed (parts ds) = record {
      whole_digits = h;
      fraction_digits = tt;
      exponent_digits = tt;
      no_point = λ _. refl;
      no_exponent = λ _. refl;
      len_is = refl;
    } in
    ap scan (sym (append-nil ds)) ∙ scan_numeral-text_of (parts ds) formed

-- digits, at most 18, of which the first is not 0
record IsDigits (s : List ℕ) : Type 0 where
  digits : Digits s
  first : 48 < get_or s 0 0
  few : length s ≤ 18

digits_below : (s : List ℕ) → IsDigits s → digits_of (parts s) < 2 ^ 63
digits_below s d =
    let size : digits_value 10 s < 10 ^ length s = digits_value-lt 10 s (all_digits s d.digits) in
    let fits : 10 ^ length s ≤ 10 ^ 18 = pow-le-pow_right (zero-lt-suc 9) d.few in
    let same : digits_of (parts s) ≡ digits_value 10 s = ap (digits_value 10) (append-nil s) in
    omega arith

digits_above : (s : List ℕ) → IsDigits s → 0 < digits_of (parts s)
digits_above [] d = absurd (omega (arith, d.first))
digits_above (x ∷ xs) d =
    let some : 0 < digit_value x = digit_above x d.first (digit_range x d.digits.0).1 in
    omega (arith, grows (xs ++ []) (0 * 10 + digit_value x))

some_digits : (s : List ℕ) → IsDigits s → 0 < length s
some_digits [] d = absurd (omega (arith, d.first))
some_digits (x ∷ xs) d = omega arith

no_minus : (s : List ℕ) → IsDigits s → get_or s 0 0 ≡ 45 → ⊥
no_minus s d e = omega (arith, d.first)

integer_parts : (s : List ℕ) → IsDigits s → is_integer (parts s) ≡ true
integer_parts s d = rw (lt-ltb _ _ (some_digits s d)) refl

number_read : (sign : Bool) (s : List ℕ) → IsDigits s → number_of (sign_text sign ++ s) ≡ number_from sign (parts s)
unfolding number_of
number_read true s d = ap (number_from true) (scanned s (all_digits s d.digits))
number_read false s d = rw (ne_eqb (get_or s 0 0) 45 (no_minus s d)) (ap (number_from false) (scanned s (all_digits s d.digits)))

abbrev IsNotFloat : Option Num → Type 0
IsNotFloat None = Unit {0}
IsNotFloat (Some n) = is_float n ≡ false

not_float : (sign : Bool) (s : List ℕ) → IsDigits s → IsNotFloat (number_from sign (parts s))
not_float false s d =
    let fits : digits_of (parts s) < 2 ^ 64 = omega (arith, digits_below s d) in
    rw (integer_parts s d, lt-ltb _ _ fits) refl
not_float true s d =
    let fits : digits_of (parts s) ≤ 2 ^ 63 = omega (arith, digits_below s d) in
    rw (integer_parts s d, lt-ltb _ _ (digits_above s d), le-leb _ _ fits) refl

whole_of : (s : List ℕ) (o : Option Num) → number_of s ≡ o → IsNotFloat o → IsWhole s
whole_of s o e h n is = subst IsNotFloat (sym e ∙ is) h

IsWhole-digits : (sign : Bool) (s : List ℕ) → IsDigits s → IsWhole (sign_text sign ++ s)
IsWhole-digits sign s d = whole_of _ (number_from sign (parts s)) (number_read sign s d) (not_float sign s d)

whole_digits : (s : List ℕ) → IsDigits s → (after_whole s ≡ Some []) × ((head s == 45) ≡ false)
whole_digits [] d = absurd (omega (arith, d.first))
whole_digits (x ∷ xs) d =
    let first : 48 < x = d.first in (
      rw (ne_eqb x 48 (λ e. omega arith), full (x ∷ xs) d.digits, ne_eqb (suc (length xs)) 0 (λ e. omega arith))
          (ap Some (drop_all (length xs) xs (omega arith))),
      ne_eqb x 45 (λ e. omega arith),
    )

IsNumber-digits : (sign : Bool) (s : List ℕ) → IsDigits s → IsNumber (sign_text sign ++ s)
unfolding after_number
IsNumber-digits true s d = ap (λ o. option_and_then after_exponent (option_and_then after_fraction o)) (whole_digits s d).0
IsNumber-digits false s d =
    let w = whole_digits s d in
    ap (λ o. option_and_then after_exponent (option_and_then after_fraction o)) (ap (λ b. after_whole (cond b (drop 1 s) s)) w.1 ∙ w.0)

number_plain : (s r : List ℕ) → IsNumber s → IsWhole s → ends_word r ≡ true → ArePlain (lex between r) → ArePlain (lex between (s ++ r))
number_plain s r n w ended rest = subst ArePlain (sym (lex-number s r n ended)) (w, rest)

digits_plain : (sign : Bool) (t : List ℕ) (n : ℕ) → n ≡ prefix_len is_ascii_digit t → n ≤ 18 → 48 < get_or t 0 0 → get_or t 0 0 ≤ 57
    → ends_word (drop n t) ≡ true
    → ArePlain (lex between (drop n t)) → ArePlain (lex between (sign_text sign ++ t))
digits_plain sign [] n is few low high ended rest = absurd (omega arith)
digits_plain sign (x ∷ xs) n is few low high ended rest =
    let m = prefix_len is_ascii_digit xs in
    let e : is_ascii_digit x ≡ true = and_from _ _ (le-leb 48 x (omega arith)) (le-leb x 57 high) in
    let next : n ≡ suc m = is ∙ ap (λ b. cond b (1 + m) 0) e ∙ omega arith in
    let s = x ∷ take m xs in
    let r = drop m xs in
    let size : length (take m xs) ≤ m = omega (arith, length-take m xs) in
    let d : IsDigits s = record { digits = (e, taken xs); first = low; few = omega arith } in
    let same : sign_text sign ++ (s ++ r) ≡ sign_text sign ++ (x ∷ xs) = ap (λ l. sign_text sign ++ (x ∷ l)) (take-append-drop m xs) in
    let ended_there : ends_word r ≡ true = subst (λ k. ends_word (drop k (x ∷ xs)) ≡ true) next ended in
    let rest_there : ArePlain (lex between r) = subst (λ k. ArePlain (lex between (drop k (x ∷ xs)))) next rest in
    subst (λ t. ArePlain (lex between t)) (append_assoc (sign_text sign) s r ∙ same)
    (number_plain (sign_text sign ++ s) r (IsNumber-digits sign s d) (IsWhole-digits sign s d) ended_there rest_there)

-- at a place of the text
pub ended_at : (text : List ℕ) (from end n : ℕ) → end ≡ from + n → drop end text ≡ drop n (drop from text)
ended_at text from end n e = ap (λ k. drop k text) e ∙ sym (drop-drop n from text)

first_at : (text : List ℕ) (from : ℕ) → get_or (drop from text) 0 0 ≡ get_or text from 0
first_at text from = get_or-drop from text 0 0 ∙ ap (λ k. get_or text k 0) (let e : from + 0 ≡ from = omega arith in e)

module _ (text : List ℕ) (from end : ℕ) (is : end ≡ from + prefix_len is_ascii_digit (drop from text)) (few : end - from ≤ 18) (low : 48 < get_or text from 0)
    (high : get_or text from 0 ≤ 57)
    (ended : ends_word (drop end text) ≡ true) (rest : ArePlain (lex between (drop end text))) where
  signed_plain : (sign : Bool) → ArePlain (lex between (sign_text sign ++ drop from text))
  signed_plain sign =
      let n = prefix_len is_ascii_digit (drop from text) in
      let there = ended_at text from end n is in
      let first = first_at text from in
      digits_plain sign (drop from text) n refl (omega arith) (subst (λ x. 48 < x) (sym first) low) (subst (λ x. x ≤ 57) (sym first) high)
      (subst (λ t. ends_word t ≡ true) there ended) (subst (λ t. ArePlain (lex between t)) there rest)

  pub whole_plain : ArePlain (lex between (drop from text))
  whole_plain = signed_plain false

  pub negative_plain : (at : ℕ) → from ≡ at + 1 → at < length text → get_or text at 0 ≡ 45 → ArePlain (lex between (drop at text))
  negative_plain at next h minus =
      let front : drop at text ≡ 45 ∷ drop from text = drop_more text at 0 h ∙ ap₂ (λ x k. x ∷ drop k text) minus (sym next) in
      subst (λ t. ArePlain (lex between t)) (sym front) (signed_plain true)

zero_byte : (r : List ℕ) → ends_word r ≡ true → ArePlain (lex between r) → ArePlain (lex between (48 ∷ r))
unfolding after_number
zero_byte r ended rest = number_plain (48 ∷ []) r refl zero_whole ended rest
  where
    zero_whole : IsWhole (48 ∷ [])
    zero_whole = whole_of (48 ∷ []) (Some (unsigned 0)) (ap number_of (sym (decimal_digit 0 (omega arith))) ∙ number_of-decimal 0 (omega arith)) refl

pub zero_plain : (text : List ℕ) (at : ℕ) → at < length text → get_or text at 0 ≡ 48 → ends_word (drop (at + 1) text) ≡ true
    → ArePlain (lex between (drop (at + 1) text)) → ArePlain (lex between (drop at text))
zero_plain text at h digit ended rest =
    subst (λ t. ArePlain (lex between t)) (sym (drop_more text at 0 h ∙ ap (λ x. x ∷ drop (at + 1) text) digit)) (zero_byte _ ended rest)

-- ---- `false` after a colon
literal_false : (b : Bool) (ls : List Lexeme) → BeginFalse (token (cond b (boolean false) bad) ∷ ls)
literal_false true ls = tt
literal_false false ls = tt

pub colon_false : (xs : List ℕ) → AreFalse (lex between (58 ∷ 102 ∷ xs))
unfolding lex word
colon_false xs = literal_false _ (lex in_word xs)

pub colon_space_false : (xs : List ℕ) → AreFalse (lex between (58 ∷ 32 ∷ 102 ∷ xs))
unfolding lex word
colon_space_false xs = literal_false _ (lex in_word xs)

pub colon_empty : (xs : List ℕ) → AreEmpty (lex between (58 ∷ 34 ∷ 34 ∷ xs))
unfolding lex content
colon_empty xs = tt

pub colon_space_empty : (xs : List ℕ) → AreEmpty (lex between (58 ∷ 32 ∷ 34 ∷ 34 ∷ xs))
unfolding lex content
colon_space_empty xs = tt

-- ---- at a place of the text, as the code says it
pub nothing_left : (text : List ℕ) (at : ℕ) → length text ≤ at → ArePlain (lex between (drop at text))
unfolding lex
nothing_left text at h = subst (λ t. ArePlain (lex between t)) (sym (drop_all at text h)) tt

pub comma_ends : (text : List ℕ) (end : ℕ) → end < length text → get_or text end 0 ≡ 44 → Ends text end (end + 1)
comma_ends text end h is =
    let front : drop end text ≡ 44 ∷ drop (end + 1) text = drop_more text end 0 h ∙ ap (λ x. x ∷ drop (end + 1) text) is in
    record {
      ended = subst (λ t. ends_word t ≡ true) (sym front) refl;
      after = omega arith;
      within = omega arith;
      plain = delimiter_plain text end h (ap (λ x. is_operator x || is_space x) is);
    }

-- the word from `at` up to `end`, and what the look passes with it
pub ends_leads : (text : List ℕ) (at end : ℕ) (o : Option ℕ) → at < end
    → (ends_word (drop end text) ≡ true → ArePlain (lex between (drop end text)) → ArePlain (lex between (drop at text)))
    → IfSome o (Ends text end) → IfSome o (Leads text at)
ends_leads text at end None l f h = tt
ends_leads text at end (Some next) l f h =
    let after : end ≤ next = h.after in
    (omega arith, h.within, λ rest. f h.ended (h.plain rest))

some_digit : (t : List ℕ) → 48 < get_or t 0 0 → get_or t 0 0 ≤ 57 → 0 < prefix_len is_ascii_digit t
some_digit [] low high = absurd (omega arith)
some_digit (x ∷ xs) low high =
    let e : is_ascii_digit x ≡ true = and_from _ _ (le-leb 48 x (omega arith)) (le-leb x 57 high) in
    let n : prefix_len is_ascii_digit (x ∷ xs) ≡ 1 + prefix_len is_ascii_digit xs = ap (λ b. cond b (1 + prefix_len is_ascii_digit xs) 0) e in
    omega arith

pub digits_begin : (text : List ℕ) (from : ℕ) → 48 < get_or text from 0 → get_or text from 0 ≤ 57 → 0 < prefix_len is_ascii_digit (drop from text)
digits_begin text from low high =
    let first = first_at text from in
    some_digit (drop from text) (subst (λ x. 48 < x) (sym first) low) (subst (λ x. x ≤ 57) (sym first) high)

head_first : (t : List ℕ) → 48 < head t → get_or t 0 0 ≡ head t
head_first [] h = absurd (omega arith)
head_first (x ∷ xs) h = refl

pub head_at : (text : List ℕ) (from x : ℕ) → x ≡ head (drop from text) → 48 < x → get_or text from 0 ≡ x
head_at text from x e h = sym (first_at text from) ∙ head_first (drop from text) (subst (λ y. 48 < y) e h) ∙ sym e

-- ---- before the last byte, which is a brace or a line feed
pub more_follows : (text : List ℕ) (k : ℕ) → EndsWell text → k < length text → (get_or text k 0 ≡ 125 → ⊥) → (get_or text k 0 ≡ 10 → ⊥) → k + 1 < length text
more_follows text k well h brace feed = go (cases_eq (k + 1) (length text))
  where
    at_end : k + 1 ≡ length text → EndsWell text → k + 1 < length text
    at_end e (inl is) = let last : length text - 1 ≡ k = omega arith in absurd (brace (ap (λ i. get_or text i 0) (sym last) ∙ is))
    at_end e (inr is) = let last : length text - 1 ≡ k = omega arith in absurd (feed (ap (λ i. get_or text i 0) (sym last) ∙ is))

    go : (k + 1 ≡ length text) ⊎ (k + 1 ≡ length text → ⊥) → k + 1 < length text
    go (inl e) = at_end e well
    go (inr ne) = omega arith

pub digit_follows : (text : List ℕ) (k : ℕ) → EndsWell text → k < length text → is_ascii_digit (get_or text k 0) ≡ true → k + 1 < length text
digit_follows text k well h digit =
    let low : 48 ≤ get_or text k 0 = (digit_range (get_or text k 0) digit).0 in
    let high : get_or text k 0 ≤ 57 = (digit_range (get_or text k 0) digit).1 in
    more_follows text k well h (λ e. omega arith) (λ e. omega arith)

first_of_run : (t : List ℕ) → 0 < prefix_len is_ascii_digit t → is_ascii_digit (get_or t 0 0) ≡ true
first_of_run [] h = absurd (omega arith)
first_of_run (x ∷ xs) h = of (is_ascii_digit x) refl
  where
    of : (b : Bool) → is_ascii_digit x ≡ b → is_ascii_digit x ≡ true
    of true e = e
    of false e = let none : prefix_len is_ascii_digit (x ∷ xs) ≡ 0 = ap (λ b. cond b (1 + prefix_len is_ascii_digit xs) 0) e in absurd (omega arith)

pub run_begins : (text : List ℕ) (at : ℕ) → 0 < prefix_len is_ascii_digit (drop at text) → (48 ≤ get_or text at 0) × (get_or text at 0 ≤ 57)
run_begins text at h = digit_range (get_or text at 0) (subst (λ x. is_ascii_digit x ≡ true) (first_at text at) (first_of_run (drop at text) h))

-- a cell: a number from `at` up to the comma at `end`
pub cell_plain : (text : List ℕ) (at end : ℕ) → at < length text → end < length text → end ≡ at + prefix_len is_ascii_digit (drop at text) → at < end
    → end - at ≤ 18
    → (get_or text at 0 ≡ 48 → end - at ≤ 1) → get_or text end 0 ≡ 44 → ArePlain (lex between (drop (end + 1) text)) → ArePlain (lex between (drop at text))
cell_plain text at end h inside is some few zeros behind rest =
    let ends = comma_ends text end inside behind in
    let digit = run_begins text at (omega arith) in
    let low : 48 ≤ get_or text at 0 = digit.0 in
    of (cases_eq (get_or text at 0) 48) ends.ended (ends.plain rest) digit.1 low
  where
    of : (get_or text at 0 ≡ 48) ⊎ (get_or text at 0 ≡ 48 → ⊥) → ends_word (drop end text) ≡ true → ArePlain (lex between (drop end text))
        → get_or text at 0 ≤ 57
        → 48 ≤ get_or text at 0 → ArePlain (lex between (drop at text))
    of (inl e) ended there high low =
        let one : end - at ≤ 1 = zeros e in
        let next : end ≡ at + 1 = omega arith in
        zero_plain text at h e (subst (λ k. ends_word (drop k text) ≡ true) next ended) (subst (λ k. ArePlain (lex between (drop k text))) next there)
    of (inr ne) ended there high low = whole_plain text at end is few (omega arith) high ended there

one_digit : (t : List ℕ) → is_ascii_digit (get_or t 0 0) ≡ true → get_or t 1 0 ≡ 44 → prefix_len is_ascii_digit t ≡ 1
one_digit [] digit behind = absurd (false≢true digit)
one_digit (x ∷ []) digit behind = absurd (omega (arith, behind))
one_digit (x ∷ y ∷ ys) digit behind =
    ap (λ b. cond b (1 + prefix_len is_ascii_digit (y ∷ ys)) 0) digit ∙ ap (λ z. 1 + cond (is_ascii_digit z) (1 + prefix_len is_ascii_digit ys) 0) behind

-- a cell of one digit
pub short_cell_plain : (text : List ℕ) (at : ℕ) → EndsWell text → at < length text → is_ascii_digit (get_or text at 0) ≡ true → get_or text (at + 1) 0 ≡ 44
    → ArePlain (lex between (drop (at + 1 + 1) text)) → ArePlain (lex between (drop at text))
short_cell_plain text at well h digit behind rest =
    let one : prefix_len is_ascii_digit (drop at text) ≡ 1 =
    one_digit (drop at text) (subst (λ x. is_ascii_digit x ≡ true) (sym (first_at text at)) digit) (get_or-drop at text 1 0 ∙ behind) in
    cell_plain text at (at + 1) h (digit_follows text at well h digit) (omega (arith, one)) (omega arith) (omega arith) (λ _. omega arith) behind rest

pub space_plain : (text : List ℕ) (at : ℕ) → at < length text → get_or text at 0 ≡ 32 → ArePlain (lex between (drop (at + 1) text))
    → ArePlain (lex between (drop at text))
space_plain text at h is rest = delimiter_plain text at h (ap (λ x. is_operator x || is_space x) is) rest
