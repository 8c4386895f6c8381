-- The texts in quotes, as the look passes them.
use Rattle.std.proofs.Common.{IfSome, take_all, length-drop, get_or-drop, ◌≡◌, ℕ, zero, suc, ◌+◌, ◌-◌, ◌*◌, ◌/◌, ◌<◌, ◌≤◌, ◌⊎◌, inl, inr, Bool, true, false}
use Rattle.std.proofs.Common.{cond, ◌&&◌, ◌||◌, ◌==◌, nat_lt, leb, List, [], ◌∷◌, ◌++◌, length, take, drop, get_or, Option, Some, None, option_and_then, refl}
use Rattle.std.proofs.Common.{sym, ap, ap₂, ◌∙◌, subst, arith, append-nil, encode_utf8}
use Rattle.std.proofs.lemmas.Bool.{eqb-true, ne_eqb, le-ltb, leb-true, ltb-true, and_parts, or_cases}
use Rattle.std.proofs.lemmas.List.{drop_more}
use Rattle.std.specs.Char.{digit_value}
use lib.Utf8.{encode, next}
use Rattle.memchr.specs.Find.{Nowhere, Passes, is_byte2}
use Rattle.json.specs.Text.{code_unit, short_escape, is_high_surrogate, is_low_surrogate, surrogate_pair, content, plain, after_high, prepend}
use Rattle.json.specs.Word.{is_operator, is_space}
use Rattle.json.specs.Lex.{Lexeme, token, operator, space, other, string_token, Mode, between, in_string, lex_byte, lex}
use Rattle.fractions.specs.Aside.{reserved_name}
use Rattle.tiled_maps.specs.Packed.{compression, note_name}
use Rattle.tiled_maps.specs.Lexemes.{infinite, IsOwnName, IsPlainText, ArePlain, IsOther, BeginsOther, LeavesText, LeavesEscaped, Leads}
use Rattle.tiled_maps.proofs.LookBytes.{ended_at}

-- a text that has begun before xs closes after n bytes, with no escape
record Closes (xs : List ℕ) (n : ℕ) : Type 0 where
  read : (content plain xs ≡ None) ⊎ (content plain xs ≡ Some (take n xs))
  lexed : lex in_string xs ≡ lex between (drop (suc n) xs)

stays_inside : (o s : Bool) (x : ℕ) (r : List ℕ) (k : Mode → List Lexeme) → lex_byte in_string (cond o operator (cond s space other)) x r k ≡ k in_string
stays_inside true s x r k = refl
stays_inside false true x r k = refl
stays_inside false false x r k = refl

-- n bytes of a text with no quote and no backslash
record Runs (xs : List ℕ) (n : ℕ) : Type 0 where
  read : (content plain xs ≡ None) ⊎ (content plain xs ≡ prepend (take n xs) (content plain (drop n xs)))
  lexed : lex in_string xs ≡ lex in_string (drop n xs)

abbrev NoneBefore : List ℕ → ℕ → Type 0
NoneBefore xs n = (k : ℕ) → k < n → (get_or xs k 0 ≡ 34 → ⊥) × (get_or xs k 0 ≡ 92 → ⊥)

prepend_nothing : (r : Option (List ℕ)) → prepend [] r ≡ r
prepend_nothing None = refl
prepend_nothing (Some s) = refl

prepend_more : (x : ℕ) (s : List ℕ) (r : Option (List ℕ)) → prepend (x ∷ []) (prepend s r) ≡ prepend (x ∷ s) r
prepend_more x s None = refl
prepend_more x s (Some t) = refl

one_more : (b : Bool) (x : ℕ) (o : Option (List ℕ)) (s : List ℕ) (r : Option (List ℕ)) → (o ≡ None) ⊎ (o ≡ prepend s r)
    → (cond b None (prepend (x ∷ []) o) ≡ None) ⊎ (cond b None (prepend (x ∷ []) o) ≡ prepend (x ∷ s) r)
one_more true x o s r h = inl refl
one_more false x o s r (inl e) = inl (ap (prepend (x ∷ [])) e)
one_more false x o s r (inr e) = inr (ap (prepend (x ∷ [])) e ∙ prepend_more x s r)

runs_later : (x n : ℕ) (xs : List ℕ) → (x ≡ 34 → ⊥) → (x ≡ 92 → ⊥) → Runs xs n → Runs (x ∷ xs) (suc n)
unfolding content lex
runs_later x n xs q b c =
    let quote = ne_eqb x 34 q in
    let escape = ne_eqb x 92 b in
    record {
      read = rw (quote, escape) (one_more (nat_lt x 32) x (content plain xs) (take n xs) (content plain (drop n xs)) c.read);
      lexed = rw (quote, escape) (stays_inside (is_operator x) (is_space x) x xs (λ m. lex m xs) ∙ c.lexed);
    }

runs : (xs : List ℕ) (n : ℕ) → n ≤ length xs → NoneBefore xs n → Runs xs n
runs xs zero h none = record { read = inr (sym (prepend_nothing (content plain xs))); lexed = refl }
runs [] (suc n) h none = absurd (omega arith)
runs (x ∷ xs) (suc n) h none =
    let first = none 0 (omega arith) in
    runs_later x n xs first.0 first.1 (runs xs n (omega arith) (λ k l. none (suc k) (omega arith)))

quote_read : (xs : List ℕ) → content plain (34 ∷ xs) ≡ Some []
unfolding content
quote_read xs = refl

quote_lexed : (xs : List ℕ) → lex in_string (34 ∷ xs) ≡ lex between xs
unfolding lex
quote_lexed xs = refl

escape_lexed : (e : ℕ) (xs : List ℕ) → lex in_string (92 ∷ e ∷ xs) ≡ lex in_string xs
unfolding lex
escape_lexed e xs = refl

read_closed : (o : Option (List ℕ)) (s : List ℕ) (r : Option (List ℕ)) → r ≡ Some [] → (o ≡ None) ⊎ (o ≡ prepend s r) → (o ≡ None) ⊎ (o ≡ Some s)
read_closed o s r q (inl e) = inl e
read_closed o s r q (inr e) = inr (e ∙ ap (prepend s) q ∙ ap Some (append-nil s))

closes : (xs : List ℕ) (n : ℕ) → n < length xs → NoneBefore xs n → get_or xs n 0 ≡ 34 → Closes xs n
closes xs n h none is =
    let r = runs xs n (omega arith) none in
    let next : n + 1 ≡ suc n = omega arith in
    let front : drop n xs ≡ 34 ∷ drop (suc n) xs = drop_more xs n 0 h ∙ ap₂ (λ x k. x ∷ drop k xs) is next in
    record {
      read = read_closed (content plain xs) (take n xs) (content plain (drop n xs)) (ap (content plain) front ∙ quote_read _) r.read;
      lexed = r.lexed ∙ ap (lex in_string) front ∙ quote_lexed _;
    }

text_token : (o : Option (List ℕ)) (s : List ℕ) (ls ms : List Lexeme) → (o ≡ None) ⊎ (o ≡ Some s) → ls ≡ ms → IsPlainText s ms → ArePlain ms
    → ArePlain (token (string_token o) ∷ ls)
text_token o s ls ms (inl e) same p rest = subst (λ u. ArePlain (token (string_token u) ∷ ls)) (sym e) tt
text_token o s ls ms (inr e) same p rest = subst (λ u. ArePlain (token (string_token u) ∷ ls)) (sym e)
    (subst (λ l. IsPlainText s l × ArePlain l) (sym same) (p, rest))

text_byte : (xs : List ℕ) (n : ℕ) → Closes xs n → IsPlainText (take n xs) (lex between (drop (suc n) xs)) → ArePlain (lex between (drop (suc n) xs))
    → ArePlain (lex between (34 ∷ xs))
unfolding lex
text_byte xs n c p rest = text_token (content plain xs) (take n xs) (lex in_string xs) (lex between (drop (suc n) xs)) c.read c.lexed p rest

pub text_plain : (text : List ℕ) (at n : ℕ) (xs : List ℕ) → xs ≡ drop (at + 1) text → at < length text → get_or text at 0 ≡ 34 → n < length xs
    → NoneBefore xs n → get_or xs n 0 ≡ 34
    → (end : ℕ) → end ≡ at + 1 + n + 1 → IsPlainText (take n xs) (lex between (drop end text)) → ArePlain (lex between (drop end text))
    → ArePlain (lex between (drop at text))
text_plain text at n xs is h opening l none closing end e p rest =
    let front : drop at text ≡ 34 ∷ xs = drop_more text at 0 h ∙ ap₂ (λ x t. x ∷ t) opening (sym is) in
    let later : end ≡ (at + 1) + suc n = omega arith in
    let there : drop end text ≡ drop (suc n) xs = ended_at text (at + 1) end (suc n) later ∙ ap (drop (suc n)) (sym is) in
    subst (λ t. ArePlain (lex between t)) (sym front)
    (text_byte xs n (closes xs n l none closing) (subst (λ t. IsPlainText (take n xs) (lex between t)) there p)
    (subst (λ t. ArePlain (lex between t)) there rest))

-- ---- a text with an escape: the first one stands for no letter of a name
abbrev AllLetters : List ℕ → Type 0
AllLetters [] = Unit {0}
AllLetters (x ∷ xs) = ((95 ≤ x) × (x ≤ 122)) × AllLetters xs

all_letters : List ℕ → Bool
all_letters [] = true
all_letters (x ∷ xs) = (leb 95 x && leb x 122) && all_letters xs

are_letters : (xs : List ℕ) → all_letters xs ≡ true → AllLetters xs
unfolding all_letters
are_letters [] e = tt
are_letters (x ∷ xs) e =
    let parts = and_parts _ _ e in
    let first = and_parts _ _ parts.0 in
    ((leb-true 95 x first.0, leb-true x 122 first.1), are_letters xs parts.1)

reserved_letters : AllLetters reserved_name
unfolding all_letters
reserved_letters = are_letters reserved_name refl

compression_letters : AllLetters compression
unfolding all_letters
compression_letters = are_letters compression refl

note_letters : AllLetters note_name
unfolding all_letters
note_letters = are_letters note_name refl

infinite_letters : AllLetters infinite
unfolding all_letters
infinite_letters = are_letters infinite refl

letter_inside : (s t : List ℕ) (c : ℕ) → AllLetters (s ++ (c ∷ t)) → (95 ≤ c) × (c ≤ 122)
letter_inside [] t c h = h.0
letter_inside (x ∷ s) t c h = letter_inside s t c h.1

no_letter : (c : ℕ) → IsOther c → (95 ≤ c) × (c ≤ 122) → ⊥
no_letter c (inl e) h = let low : 95 ≤ c = h.0 in omega arith
no_letter c (inr e) h = let high : c ≤ 122 = h.1 in omega arith

not_name : (name s t : List ℕ) (c : ℕ) → AllLetters name → IsOther c → s ++ (c ∷ t) ≡ name → ⊥
not_name name s t c h o e = no_letter c o (letter_inside s t c (subst AllLetters (sym e) h))

escaped_read : (s : List ℕ) (r : Option (List ℕ)) (ls : List Lexeme) → BeginsOther r → ArePlain ls → ArePlain (token (string_token (prepend s r)) ∷ ls)
escaped_read s None ls h rest = tt
escaped_read s (Some []) ls h rest = absurd h
escaped_read s (Some (c ∷ t)) ls h rest =
    let own : IsOwnName (s ++ (c ∷ t)) = (
      not_name reserved_name s t c reserved_letters h,
      not_name note_name s t c note_letters h,
    ) in
    ((own, λ e. absurd (not_name infinite s t c infinite_letters h e), λ e. absurd (not_name compression s t c compression_letters h e)), rest)

escaped_token : (o : Option (List ℕ)) (s : List ℕ) (r : Option (List ℕ)) (ls : List Lexeme) → (o ≡ None) ⊎ (o ≡ prepend s r) → BeginsOther r → ArePlain ls
    → ArePlain (token (string_token o) ∷ ls)
escaped_token o s r ls (inl e) h rest = subst (λ u. ArePlain (token (string_token u) ∷ ls)) (sym e) tt
escaped_token o s r ls (inr e) h rest = subst (λ u. ArePlain (token (string_token u) ∷ ls)) (sym e) (escaped_read s r ls h rest)

escaped_byte : (xs : List ℕ) (n : ℕ) → Runs xs n → BeginsOther (content plain (drop n xs)) → ArePlain (lex in_string (drop n xs))
    → ArePlain (lex between (34 ∷ xs))
unfolding lex
escaped_byte xs n r h rest = escaped_token (content plain xs) (take n xs) (content plain (drop n xs)) (lex in_string xs) r.read h
    (subst ArePlain (sym r.lexed) rest)

two_at : (text : List ℕ) (at : ℕ) → at + 1 < length text → get_or text at 0 ≡ 92 → drop at text ≡ 92 ∷ get_or text (at + 1) 0 ∷ drop (at + 2) text
two_at text at h is =
    let next : at + 1 + 1 ≡ at + 2 = omega arith in
    drop_more text at 0 (omega arith) ∙ ap₂ (λ x t. x ∷ t) is (drop_more text (at + 1) 0 h ∙ ap (λ k. get_or text (at + 1) 0 ∷ drop k text) next)

pub escaped_plain : (text : List ℕ) (at n : ℕ) (xs : List ℕ) → xs ≡ drop (at + 1) text → at < length text → get_or text at 0 ≡ 34 → n ≤ length xs
    → NoneBefore xs n
    → (escape : ℕ) → escape ≡ at + 1 + n → escape + 1 < length text → get_or text escape 0 ≡ 92 → BeginsOther (content plain (drop escape text))
    → (end : ℕ) → LeavesText text (escape + 2) end → ArePlain (lex between (drop end text)) → ArePlain (lex between (drop at text))
escaped_plain text at n xs is h opening l none escape e inside backslash begins end gone rest =
    let front : drop at text ≡ 34 ∷ xs = drop_more text at 0 h ∙ ap₂ (λ x t. x ∷ t) opening (sym is) in
    let there : drop escape text ≡ drop n xs = ended_at text (at + 1) escape n e ∙ ap (drop n) (sym is) in
    let passed : lex in_string (drop escape text) ≡ lex between (drop end text)
    = ap (lex in_string) (two_at text escape inside backslash) ∙ escape_lexed _ _ ∙ gone.lexed in
    subst (λ t. ArePlain (lex between t)) (sym front)
    (escaped_byte xs n (runs xs n l none) (subst (λ t. BeginsOther (content plain t)) there begins)
    (subst (λ t. ArePlain (lex in_string t)) there (subst ArePlain (sym passed) rest)))

pub escaped_leads : (text : List ℕ) (at n : ℕ) (xs : List ℕ) → xs ≡ drop (at + 1) text → at < length text → get_or text at 0 ≡ 34 → n ≤ length xs
    → NoneBefore xs n
    → (escape : ℕ) → escape ≡ at + 1 + n → get_or text escape 0 ≡ 92 → (o : Option ℕ) → IfSome o (LeavesEscaped text escape) → IfSome o (Leads text at)
escaped_leads text at n xs is h opening l none escape e backslash None gone = tt
escaped_leads text at n xs is h opening l none escape e backslash (Some end) gone =
    let after : escape + 2 < end = gone.closed.after in (
      omega arith,
      gone.closed.within,
      escaped_plain text at n xs is h opening l none escape e gone.inside backslash gone.other end gone.closed,
    )

-- a stop that is no quote
pub backslash_at : (text : List ℕ) (from n at : ℕ) (xs : List ℕ) → xs ≡ drop from text → at ≡ from + n → is_byte2 34 92 (get_or xs n 0) ≡ true
    → (get_or xs n 0 ≡ 34 → ⊥)
    → get_or text at 0 ≡ 92
backslash_at text from n at xs is e stops ne = ap (λ k. get_or text k 0) e ∙ sym (get_or-drop from text n 0) ∙ ap (λ t. get_or t n 0) (sym is)
    ∙ stop (or_cases _ _ stops)
  where
    stop : ((get_or xs n 0 == 34) ≡ true) ⊎ ((get_or xs n 0 == 92) ≡ true) → get_or xs n 0 ≡ 92
    stop (inl q) = absurd (ne (eqb-true _ 34 q))
    stop (inr b) = eqb-true _ 92 b

-- what the search for a quote or a backslash passed
pub none_before : (xs : List ℕ) (n : ℕ) → Nowhere (Passes (is_byte2 34 92) xs) 0 n → NoneBefore xs n
none_before xs n none k l = (λ e. none k (omega arith) l (ap (is_byte2 34 92) e), λ e. none k (omega arith) l (ap (is_byte2 34 92) e))

-- ---- to the end of a text
pub goes_on : (text : List ℕ) (at n : ℕ) (xs : List ℕ) → xs ≡ drop at text → n ≤ length xs → NoneBefore xs n → (escape : ℕ) → escape ≡ at + n
    → escape + 1 < length text
    → get_or text escape 0 ≡ 92 → lex in_string (drop at text) ≡ lex in_string (drop (escape + 2) text)
goes_on text at n xs is l none escape e inside backslash =
    ap (lex in_string) (sym is) ∙ (runs xs n l none).lexed
    ∙ ap (lex in_string) (ap (drop n) is ∙ sym (ended_at text at escape n e) ∙ two_at text escape inside backslash) ∙ escape_lexed _ _

pub leaves : (text : List ℕ) (at n : ℕ) (xs : List ℕ) → xs ≡ drop at text → n < length xs → NoneBefore xs n → get_or xs n 0 ≡ 34 → (end : ℕ) → end ≡ at + n + 1
    → lex in_string (drop at text) ≡ lex between (drop end text)
leaves text at n xs is l none closing end e =
    let later : end ≡ at + suc n = omega arith in
    ap (lex in_string) (sym is) ∙ (closes xs n l none closing).lexed ∙ ap (lex between) (ap (drop (suc n)) is ∙ sym (ended_at text at end (suc n) later))

-- ---- what escapes stand for
abbrev IfOther : Option ℕ → Type 0
IfOther None = Unit {0}
IfOther (Some c) = IsOther c

pick : (b : Bool) (x y : Option ℕ) → (b ≡ true → IfOther x) → IfOther y → IfOther (cond b x y)
pick true x y f h = f refl
pick false x y f h = h

itself : (x : ℕ) → ((x == 34) || (x == 92) || (x == 47)) ≡ true → IsOther x
itself x e = first (or_cases _ _ e)
  where
    second : ((x == 34) ≡ true) ⊎ ((x == 92) ≡ true) → IsOther x
    second (inl e) = inl (omega (arith, eqb-true x 34 e))
    second (inr e) = inl (omega (arith, eqb-true x 92 e))

    first : (((x == 34) || (x == 92)) ≡ true) ⊎ ((x == 47) ≡ true) → IsOther x
    first (inl e) = second (or_cases _ _ e)
    first (inr e) = inl (omega (arith, eqb-true x 47 e))

small : (c : ℕ) → leb (suc c) 95 ≡ true → IsOther c
small c e = inl (leb-true (suc c) 95 e)

short_other : (x : ℕ) → IfOther (short_escape x)
unfolding short_escape
short_other x =
    pick _ (Some x) _ (itself x) (pick (x == 98) (Some 8) _ (λ e. small 8 refl) (pick (x == 102) (Some 12) _ (λ e. small 12 refl)
    (pick (x == 110) (Some 10) _ (λ e. small 10 refl) (pick (x == 114) (Some 13) _ (λ e. small 13 refl)
    (pick (x == 116) (Some 9) None (λ e. small 9 refl) tt)))))

one_byte : (o : Option ℕ) (q : Option (List ℕ)) → IfOther o → BeginsOther (option_and_then (λ c. prepend (c ∷ []) q) o)
one_byte None q h = tt
one_byte (Some c) None h = tt
one_byte (Some c) (Some s) h = h

short_byte : (x : ℕ) (xs : List ℕ) → (x ≡ 117 → ⊥) → BeginsOther (content plain (92 ∷ x ∷ xs))
unfolding content
short_byte x xs ne = rw (ne_eqb x 117 ne) (one_byte (short_escape x) (content plain xs) (short_other x))

pub short_plain : (text : List ℕ) (at : ℕ) → at + 1 < length text → get_or text at 0 ≡ 92 → (get_or text (at + 1) 0 ≡ 117 → ⊥)
    → BeginsOther (content plain (drop at text))
short_plain text at h is ne = subst (λ t. BeginsOther (content plain t)) (sym (two_at text at h is)) (short_byte _ _ ne)

-- a character past ASCII
abbrev BeginsLarge : List ℕ → Type 0
BeginsLarge [] = ⊥
BeginsLarge (c ∷ s) = IsOther c

pick_large : (b : Bool) (c : ℕ) (s y : List ℕ) → IsOther c → BeginsLarge y → BeginsLarge (cond b (c ∷ s) y)
pick_large true c s y h k = h
pick_large false c s y h k = k

past : (c : ℕ) → 122 < c → IsOther c
past c h = inr h

encode_large : (u : ℕ) → 128 ≤ u → BeginsLarge (encode_utf8 u)
unfolding encode
encode_large u h =
    let longest = (240 + u / 262144) ∷ next (u / 4096) ∷ next (u / 64) ∷ next u ∷ [] in
    let longer = next (u / 64) ∷ next u ∷ [] in
    rw (le-ltb u 128 h) (pick_large (nat_lt u 2048) (192 + u / 64) (next u ∷ []) (cond (nat_lt u 65536) ((224 + u / 4096) ∷ longer) longest)
    (past (192 + u / 64) (omega arith))
    (pick_large (nat_lt u 65536) (224 + u / 4096) longer longest (past (224 + u / 4096) (omega arith)) (past (240 + u / 262144) (omega arith))))

large_before : (xs : List ℕ) (q : Option (List ℕ)) → BeginsLarge xs → BeginsOther (prepend xs q)
large_before [] q h = absurd h
large_before (x ∷ xs) None h = tt
large_before (x ∷ xs) (Some s) h = h

pick_other : (b : Bool) (x y : Option (List ℕ)) → BeginsOther x → BeginsOther y → BeginsOther (cond b x y)
pick_other true x y h k = h
pick_other false x y h k = k

pair_other : (o : Option ℕ) (h : ℕ) (q : Option (List ℕ)) → BeginsOther
    (option_and_then (λ l. cond (is_low_surrogate l) (prepend (encode_utf8 (surrogate_pair h l)) q) None) o)
pair_other None h q = tt
pair_other (Some l) h q = pick_other (is_low_surrogate l) _ None (large_before _ q (encode_large (surrogate_pair h l) (omega arith))) tt

high_other : (h : ℕ) (xs : List ℕ) → BeginsOther (content (after_high h) xs)
unfolding content
high_other h [] = tt
high_other h (s ∷ []) = tt
high_other h (s ∷ u ∷ []) = tt
high_other h (s ∷ u ∷ a ∷ []) = tt
high_other h (s ∷ u ∷ a ∷ b ∷ []) = tt
high_other h (s ∷ u ∷ a ∷ b ∷ c ∷ []) = tt
high_other h (s ∷ u ∷ a ∷ b ∷ c ∷ d ∷ xs) = pick_other _ _ None (pair_other (code_unit a b c d) h (content plain xs)) tt

unit_other : (o : Option ℕ) (xs : List ℕ) (q : Option (List ℕ)) → IfSome o (λ u. 128 ≤ u)
    → BeginsOther (option_and_then (λ u. cond (is_high_surrogate u) (content (after_high u) xs) (cond (is_low_surrogate u) None (prepend (encode_utf8 u) q))) o)
unit_other None xs q h = tt
unit_other (Some u) xs q h = pick_other (is_high_surrogate u) _ _ (high_other u xs)
    (pick_other (is_low_surrogate u) None _ tt (large_before _ q (encode_large u h)))

-- the hex digits of a code unit that is not below 128
abbrev IsLarge : ℕ → ℕ → ℕ → Type 0
IsLarge a b c = ((a ≡ 48 → ⊥) ⊎ (b ≡ 48 → ⊥)) ⊎ (56 ≤ c)

digit_some : (a : ℕ) → digit_value a < 16 → (a ≡ 48 → ⊥) → 0 < digit_value a
digit_some a h ne = grind arith

digit_eight : (c : ℕ) → digit_value c < 16 → 56 ≤ c → 8 ≤ digit_value c
digit_eight c h l = grind arith

large_sum : (a b c d : ℕ) → digit_value a < 16 → digit_value b < 16 → digit_value c < 16 → IsLarge a b c
    → 128 ≤ digit_value a * 4096 + digit_value b * 256 + digit_value c * 16 + digit_value d
large_sum a b c d ha hb hc (inl (inl ne)) = omega (arith, digit_some a ha ne)
large_sum a b c d ha hb hc (inl (inr ne)) = omega (arith, digit_some b hb ne)
large_sum a b c d ha hb hc (inr l) = omega (arith, digit_eight c hc l)

unit_or : (b : Bool) (u : ℕ) → (b ≡ true → 128 ≤ u) → IfSome (cond b (Some u) None) (λ v. 128 ≤ v)
unit_or true u f = f refl
unit_or false u f = tt

unit_large : (a b c d : ℕ) → IsLarge a b c → IfSome (code_unit a b c d) (λ u. 128 ≤ u)
unfolding code_unit
unit_large a b c d h =
    unit_or _ _ (λ e.
    let three = (and_parts _ _ e).0 in
    let two = (and_parts _ _ three).0 in
    let one = and_parts _ _ two in
    large_sum a b c d (ltb-true _ 16 one.0) (ltb-true _ 16 one.1) (ltb-true _ 16 (and_parts _ _ three).1) h)

unicode_byte : (a b c d : ℕ) (xs : List ℕ) → IsLarge a b c → BeginsOther (content plain (92 ∷ 117 ∷ a ∷ b ∷ c ∷ d ∷ xs))
unfolding content
unicode_byte a b c d xs h = unit_other (code_unit a b c d) xs (content plain xs) (unit_large a b c d h)

one_at : (text : List ℕ) (at next : ℕ) → next ≡ at + 1 → at < length text → drop at text ≡ get_or text at 0 ∷ drop next text
one_at text at next e h = drop_more text at 0 h ∙ ap (λ k. get_or text at 0 ∷ drop k text) (sym e)

four_at : (text : List ℕ) (at : ℕ) → at + 5 < length text
    → drop (at + 2) text ≡ get_or text (at + 2) 0 ∷ get_or text (at + 3) 0 ∷ get_or text (at + 4) 0 ∷ get_or text (at + 5) 0 ∷ drop (at + 6) text
four_at text at h =
    one_at text (at + 2) (at + 3) (omega arith) (omega arith) ∙ ap (λ t. get_or text (at + 2) 0 ∷ t) (one_at text (at + 3) (at + 4) (omega arith) (omega arith)
    ∙ ap (λ t. get_or text (at + 3) 0 ∷ t) (one_at text (at + 4) (at + 5) (omega arith) (omega arith)
    ∙ ap (λ t. get_or text (at + 4) 0 ∷ t) (one_at text (at + 5) (at + 6) (omega arith) (omega arith))))

pub unicode_plain : (text : List ℕ) (at : ℕ) → at + 5 < length text → get_or text at 0 ≡ 92 → get_or text (at + 1) 0 ≡ 117
    → IsLarge (get_or text (at + 2) 0) (get_or text (at + 3) 0) (get_or text (at + 4) 0) → BeginsOther (content plain (drop at text))
unicode_plain text at h is u large =
    let front = two_at text at (omega arith) is ∙ ap₂ (λ x t. 92 ∷ x ∷ t) u (four_at text at h) in
    subst (λ t. BeginsOther (content plain t)) (sym front) (unicode_byte _ _ _ _ _ large)

-- a slice up to the end is what is left of the text
pub rest_is : (text : List ℕ) (from : ℕ) → take (length text - from) (drop from text) ≡ drop from text
rest_is text from = take_all (length text - from) (drop from text) (omega (arith, length-drop from text))
