-- A spelled line is read as that line, and what is read is its spelling.
use Rattle.std.proofs.Common.{rules, ◌≡◌, ℕ, ◌≤◌, cond, false, true, leb, not, ltb, eqb, ◌&&◌, ◌||◌, Bool, List, [], ◌∷◌, ◌++◌, length, Ok, Err, Result, Some}
use Rattle.std.proofs.Common.{refl, sym, ap, ◌∙◌, subst, arith}
use Rattle.std.specs.Prelude.{IfOk, IsOk, is_ok}
use Rattle.std.specs.List.{AllByRecursion, flat_map, list_all}
use Rattle.std.specs.Str.{is_utf8}
use Rattle.std.proofs.lemmas.Str.{IsUtf8-nil, IsUtf8-from_is_utf8}
use Rattle.std.proofs.lemmas.List.Splits.{join_with_byte-slice_split}
use Rattle.std.proofs.lemmas.Bool.{lt-ltb, ltb-false, not-true, not-false, cond_both, and_parts}
use Rattle.session.specs.declared.limits.TheConstants.{MAX_LINE}
use Rattle.session.specs.declared.line.Line.{Line}
use Rattle.session.specs.declared.line.Line.TheVariants.{Quiet, Stamp, Erase, Select, MoveObject, SetProperty}
use Rattle.session.specs.declared.typed_value.TypedValue.TheVariants as typed
use Rattle.map_model.specs.declared.selection.SelectionMode.TheVariants.{Replace}
use Rattle.refusals.specs.declared.line_fault.LineFault.{LineFault}
use Rattle.session.specs.Words.{words}
use Rattle.session.specs.Grammar.{Gives, read, line_form, is_quiet, line_of}
use Rattle.session.specs.Spelling.{joined_by_bars, Token, Fixed, Given, Rest, RestTexts, RestJson, tokens, has_block, token_words, spaced, spelling, IsToken, Says}
use Rattle.session.specs.Spelling.{CanBeSpelled, SpelledIsRead, ReadIsSpelled, QuietIsRead, LongIsNotRead}
use Rattle.session.proofs.SpacedWords.{Clean, clean, clean_words, utf8-joined, plain_literal, words-spaced, utf8-spaced}
use Rattle.session.proofs.SpelledFields.{clean_field}
use Rattle.session.proofs.Lengths.{room, is_short}
use Rattle.session.proofs.FirstChecks.{checked}
use Rattle.session.proofs.Forms.{follow, followed_is_read, Agrees, Spells}
use Rattle.session.proofs.Forms as forms

-- the words that are written out in tokens are plain
abbrev pub are_plain : List Token → Bool
are_plain [] = true
are_plain (Fixed word ∷ ts) = list_all (λ b. ltb 32 b && ltb b 128) word && are_plain ts
are_plain (token ∷ ts) = are_plain ts

clean_append : (us ws : List (List ℕ)) → AllByRecursion Clean us → AllByRecursion Clean ws → AllByRecursion Clean (us ++ ws)
clean_append [] ws h k = k
clean_append (u ∷ us) ws h k = (h.0, clean_append us ws h.1 k)

pub clean_tokens : (ts : List Token) → are_plain ts ≡ true → AllByRecursion IsToken ts → AllByRecursion Clean (flat_map token_words ts)
clean_tokens [] e h = tt
clean_tokens (Fixed word ∷ ts) e h = let both = and_parts _ _ e in (clean word (plain_literal word both.0), clean_tokens ts both.1 h.1)
clean_tokens (Given kind value ∷ ts) e h = clean_append _ (flat_map token_words ts) (clean_field kind value h.0) (clean_tokens ts e h.1)
clean_tokens (Rest text ∷ ts) e h = clean_append _ (flat_map token_words ts) (clean_words text h.0.utf8) (clean_tokens ts e h.1)
clean_tokens (RestTexts text action ∷ ts) e h = clean_append _ (flat_map token_words ts)
    (clean_words (joined_by_bars text action) (utf8-joined text action h.0)) (clean_tokens ts e h.1)
clean_tokens (RestJson json ∷ ts) e h = clean_append _ (flat_map token_words ts) (clean_words json h.0.utf8) (clean_tokens ts e h.1)

-- the tokens begin with a word that neither a blank line nor a comment begins with
abbrev is_loud : List Token → Bool
is_loud (Fixed (b ∷ word) ∷ ts) = not (eqb b 35) && not (eqb b 32)
is_loud ts = false

not_quiet : (b : ℕ) (word : List ℕ) (ws : List (List ℕ)) → (not (eqb b 35) && not (eqb b 32)) ≡ true → is_quiet (spaced ((b ∷ word) ∷ ws)) ≡ false
not_quiet b word [] h = let both = and_parts _ _ h in rw (not-true (eqb b 35) both.0, not-true (eqb b 32) both.1) refl
not_quiet b word (w ∷ ws) h = let both = and_parts _ _ h in rw (not-true (eqb b 35) both.0, not-true (eqb b 32) both.1) refl

loud : (ts : List Token) → is_loud ts ≡ true → is_quiet (spaced (flat_map token_words ts)) ≡ false
loud [] h = absurd cc
loud (Fixed [] ∷ ts) h = absurd cc
loud (Fixed (b ∷ word) ∷ ts) h = not_quiet b word (flat_map token_words ts) h
loud (Given kind value ∷ ts) h = absurd cc
loud (Rest text ∷ ts) h = absurd cc
loud (RestTexts text action ∷ ts) h = absurd cc
loud (RestJson json ∷ ts) h = absurd cc

-- what is found of each line by computing
record LineFacts (line : Line) : Type 0 where
  follows : follow line_form (tokens line) ≡ Some line
  plain : are_plain (tokens line) ≡ true
  loud : is_loud (tokens line) ≡ true
  few : (has_block (tokens line) || leb (room (tokens line)) MAX_LINE) ≡ true
  first : List ℕ
  more : List (List ℕ)
  words : flat_map token_words (tokens line) ≡ first ∷ more

abbrev FactsOf : Line → Type 0
FactsOf Quiet = Unit {0}
FactsOf line = LineFacts line

facts : (line : Line) → FactsOf line
facts Quiet = tt
facts (Stamp layer x y width values true) = record { follows = refl; plain = refl; loud = refl; few = refl; first = _; more = _; words = refl }
facts (Erase layer x y width height true) = record { follows = refl; plain = refl; loud = refl; few = refl; first = _; more = _; words = refl }
facts (MoveObject object x y true) = record { follows = refl; plain = refl; loud = refl; few = refl; first = _; more = _; words = refl }
facts (Select Replace x y width height) = record { follows = refl; plain = refl; loud = refl; few = refl; first = _; more = _; words = refl }
facts (SetProperty owner name (typed.String text) true) = record { follows = refl; plain = refl; loud = refl; few = refl; first = _; more = _; words = refl }
facts (SetProperty owner name value true) = record { follows = refl; plain = refl; loud = refl; few = refl; first = _; more = _; words = refl }
facts line = record { follows = refl; plain = refl; loud = refl; few = refl; first = _; more = _; words = refl }

line_is_read : (line : Line) → LineFacts line → CanBeSpelled line → line_of (spelling line) ≡ Ok line
line_is_read line r h =
    let ws = flat_map token_words (tokens line) in
    let all = clean_tokens (tokens line) r.plain h.0 in
    let back : words (spelling line) ≡ ws = ap (λ vs. words (spaced vs)) r.words ∙ words-spaced r.first r.more (subst (AllByRecursion Clean) r.words all)
    ∙ sym r.words in
    checked (spelling line) (is_short (tokens line) r.few h.0 h.1) (utf8-spaced ws all)
    ∙ ap (λ b. cond b (Ok Quiet) (read line_form (words (spelling line)))) (loud (tokens line) r.loud)
    ∙ ap (read line_form) back
    ∙ followed_is_read line_form (tokens line) line r.follows h.0

pub spelled_is_read : SpelledIsRead
spelled_is_read Quiet h = checked [] (omega arith) IsUtf8-nil
spelled_is_read line h = line_is_read line (facts line) h

agrees : Agrees tokens line_form (λ ts. ts)
agrees = search rules

says : (bytes : List ℕ) (line : Line) → bytes ≡ spelling line → Says bytes line
says bytes Quiet e = ap is_quiet e
says bytes line e = e

settled : (bytes : List ℕ) (r : Result Line LineFault) → length bytes ≤ MAX_LINE → IfOk r (Spells tokens (λ ts. ts) (words bytes))
    → IfOk r (λ line. Says bytes line × CanBeSpelled line)
settled bytes (Ok line) l h =
    let same : bytes ≡ spelling line = sym (join_with_byte-slice_split 32 bytes) ∙ ap spaced (h.words ∙ ap (flat_map token_words) (sym h.are)) in
    (says bytes line same, (subst (AllByRecursion IsToken) (sym h.are) h.fit, λ _. subst (λ bs. length bs ≤ MAX_LINE) same l))
settled bytes (Err e) l h = tt

line_says : (bytes : List ℕ) → IfOk (line_of bytes) (λ line. Says bytes line × CanBeSpelled line)
unfolding line_of
line_says bytes =
    let Q : Result Line LineFault → Type 0 = λ r. IfOk r (λ line. Says bytes line × CanBeSpelled line) in
    cond_both (ltb MAX_LINE (length bytes)) _ _ Q (λ _. tt) (λ small.
    cond_both (not (is_utf8 bytes)) _ _ Q (λ _. tt) (λ utf8.
    cond_both (is_quiet bytes) _ _ Q (λ quiet. (quiet, (tt, λ _. omega arith))) (λ _.
    settled bytes (read line_form (words bytes)) (ltb-false _ _ small)
    (forms.read_is_spelled tokens line_form (λ ts. ts) (words bytes) agrees (clean_words bytes (IsUtf8-from_is_utf8 bytes (not-false _ utf8)))))))

pub read_is_spelled : ReadIsSpelled
read_is_spelled bytes line e = subst (λ r. IfOk r (λ l. Says bytes l × CanBeSpelled l)) e (line_says bytes)

-- a line that code returned is one that the bytes say, and it can be spelled
pub given_says : (bytes : List ℕ) (result : Result Line LineFault) → Gives (λ x. x) result (line_of bytes) → IfOk result (Says bytes)
given_says bytes (Ok line) e = (read_is_spelled bytes line e).0
given_says bytes (Err f) e = tt

pub given_spelled : (bytes : List ℕ) (result : Result Line LineFault) → Gives (λ x. x) result (line_of bytes) → IfOk result CanBeSpelled
given_spelled bytes (Ok line) e = (read_is_spelled bytes line e).1
given_spelled bytes (Err f) e = tt

pub quiet_is_read : QuietIsRead
quiet_is_read bytes l u h = checked bytes l u ∙ ap (λ b. cond b (Ok Quiet) (read line_form (words bytes))) h

pub long_is_not_read : LongIsNotRead
unfolding line_of
long_is_not_read bytes h = rw (lt-ltb MAX_LINE (length bytes) h) refl

-- words that are read are not quiet
line_loud : (line : Line) (ws : List (List ℕ)) → ws ≡ flat_map token_words (tokens line) → IsOk (read line_form ws) → is_quiet (spaced ws) ≡ false
line_loud Quiet ws e o = let none = subst (λ us. IsOk (read line_form us)) e o in absurd cc
line_loud line ws e o = ap (λ us. is_quiet (spaced us)) e ∙ loud (tokens line) (facts line).loud

loud_by : (ws : List (List ℕ)) (r : Result Line LineFault) → read line_form ws ≡ r → IfOk r (Spells tokens (λ ts. ts) ws) → is_ok r ≡ true
    → is_quiet (spaced ws) ≡ false
loud_by ws (Ok line) e s o = line_loud line ws (s.words ∙ ap (flat_map token_words) (sym s.are)) (ap is_ok e)
loud_by ws (Err f) e s o = absurd cc

pub read_is_loud : (ws : List (List ℕ)) → AllByRecursion Clean ws → IsOk (read line_form ws) → is_quiet (spaced ws) ≡ false
read_is_loud ws c o = loud_by ws (read line_form ws) refl (forms.read_is_spelled tokens line_form (λ ts. ts) ws agrees c) o
