-- A form reads what is spelled by it, and what it reads is spelled so.
use Rattle.std.proofs.Common.{◌≡◌, ℕ, cond, true, false, List, [], ◌∷◌, ◌++◌, Ok, Err, Option, Some, None, refl, sym, ap, ◌∙◌, subst}
use Rattle.std.specs.Prelude.{IfOk, option_and_then}
use Rattle.std.specs.List.{AllByRecursion, flat_map}
use Rattle.std.specs.Str.{bytes_eq}
use Rattle.std.proofs.lemmas.List.{append-nil}
use Rattle.std.proofs.lemmas.Bool.{cond_both}
use Rattle.std.proofs.lemmas.Slice.Eq.{bytes_eq-Decides}
use Rattle.refusals.specs.declared.line_fault.LineFault.{LineFault}
use Rattle.session.specs.Grammar.{FieldKind, Number, Coordinate, Block, Name, File, Choice, LayerSort, YesNo, Truth, Key}
use Rattle.session.specs.Grammar.{Color, OwnerName, OwnerOfMembers, FieldValue}
use Rattle.session.specs.Grammar.{LineForm, Ends, Text, Texts, Json, Field, Word, Fails, choose, read, field_at, ends_at}
use Rattle.session.specs.Grammar.{last_json_at, last_text_at, last_texts_at, ◌>>=◌}
use Rattle.session.specs.Spelling.{Token, Fixed, Given, Rest, RestTexts, RestJson, token_words, field_words, IsToken}
use Rattle.session.proofs.Coordinates.{and_then_from}
use Rattle.session.proofs.SpelledFields.{field_at-words, last_json_at-words, last_text_at-words, last_texts_at-words}
use Rattle.session.proofs.ReadFields.{if_bind, if_then, ReadField, field_is_read, ReadText, text_is_read, ReadTexts, texts_are_read}
use Rattle.session.proofs.ReadFields.{ReadJson, json_is_read, end_is_read}
use Rattle.session.proofs.SpacedWords.{Clean}

abbrev value_of : (kind : FieldKind) → Token → Option (FieldValue kind)
value_of Number (Given Number n) = Some n
value_of Coordinate (Given Coordinate z) = Some z
value_of Block (Given Block block) = Some block
value_of Name (Given Name name) = Some name
value_of File (Given File name) = Some name
value_of Choice (Given Choice choice) = Some choice
value_of LayerSort (Given LayerSort kind) = Some kind
value_of YesNo (Given YesNo answer) = Some answer
value_of Truth (Given Truth truth) = Some truth
value_of Key (Given Key name) = Some name
value_of Color (Given Color color) = Some color
value_of OwnerName (Given OwnerName owner) = Some owner
value_of OwnerOfMembers (Given OwnerOfMembers owner) = Some owner
value_of kind token = None

-- the line that tokens are by a form
abbrev pub follow : {A : Type 0} → LineForm A → List Token → Option A
follow (Ends line) [] = Some line
follow (Text line) (Rest text ∷ []) = Some (line text)
follow (Texts line) (RestTexts text action ∷ []) = Some (line text action)
follow (Json line) (RestJson json ∷ []) = Some (line json)
follow (Field kind form) (token ∷ ts) = option_and_then (λ value. follow (form value) ts) (value_of kind token)
follow (Word word form other) (Fixed w ∷ ts) = cond (bytes_eq w word) (follow form ts) (follow other (Fixed w ∷ ts))
follow form ts = None

given : (kind : FieldKind) (token : Token) (value : FieldValue kind) → value_of kind token ≡ Some value → token ≡ Given kind value
given Number (Given Number n) v e = ap (Given Number) cc
given Coordinate (Given Coordinate z) v e = ap (Given Coordinate) cc
given Block (Given Block block) v e = ap (Given Block) cc
given Name (Given Name name) v e = ap (Given Name) cc
given File (Given File name) v e = ap (Given File) cc
given Choice (Given Choice choice) v e = ap (Given Choice) cc
given LayerSort (Given LayerSort kind) v e = ap (Given LayerSort) cc
given YesNo (Given YesNo answer) v e = ap (Given YesNo) cc
given Truth (Given Truth truth) v e = ap (Given Truth) cc
given Key (Given Key name) v e = ap (Given Key) cc
given Color (Given Color color) v e = ap (Given Color) cc
given OwnerName (Given OwnerName owner) v e = ap (Given OwnerName) cc
given OwnerOfMembers (Given OwnerOfMembers owner) v e = ap (Given OwnerOfMembers) cc
given kind token v e = absurd cc

-- the words of tokens that a form follows are read by it
pub followed_is_read : {A : Type 0} (form : LineForm A) (ts : List Token) (line : A) → follow form ts ≡ Some line → AllByRecursion IsToken ts
    → read form (flat_map token_words ts) ≡ Ok line
unfolding ends_at
followed_is_read (Ends l) [] line e h = ap Ok cc
followed_is_read (Text l) (Rest text ∷ []) line e h = ap (λ r. r >>= λ t. Ok (l t)) (ap last_text_at (append-nil _) ∙ last_text_at-words text h.0) ∙ ap Ok cc
followed_is_read (Texts l) (RestTexts text action ∷ []) line e h =
    ap (λ r. r >>= λ t. Ok (l t.0 t.1)) (ap last_texts_at (append-nil _) ∙ last_texts_at-words text action h.0) ∙ ap Ok cc
followed_is_read (Json l) (RestJson json ∷ []) line e h =
    ap (λ r. r >>= λ t. Ok (l t)) (ap last_json_at (append-nil _) ∙ last_json_at-words json h.0) ∙ ap Ok cc
followed_is_read (Field kind form) (token ∷ ts) line e h =
    let inner = and_then_from (λ value. follow (form value) ts) (value_of kind token) line e in
    let same = given kind token inner.0 inner.1 in
    let fits = subst IsToken same h.0 in
    ap (λ p. read (Field kind form) (token_words p ++ flat_map token_words ts)) same
    ∙ ap (λ r. r >>= λ x. read (form x.0) x.1) (field_at-words kind inner.0 (flat_map token_words ts) fits)
    ∙ followed_is_read (form inner.0) ts line inner.2 h.1
followed_is_read (Word word form other) (Fixed w ∷ ts) line e h =
    elim (bytes_eq w word) as (λ b. cond b (follow form ts) (follow other (Fixed w ∷ ts)) ≡ Some line → cond b (read form (flat_map token_words ts))
    (read other (w ∷ flat_map token_words ts)) ≡ Ok line) [
      | true ↦ λ e. followed_is_read form ts line e h.1
      | false ↦ λ e. followed_is_read other (Fixed w ∷ ts) line e h
    ] e
followed_is_read form ts line e h = absurd cc

-- the lines of a form have the tokens that lead to them, behind those before them
abbrev pub Agrees : {A : Type 0} → (A → List Token) → LineForm A → (List Token → List Token) → Type 0
Agrees tokens (Ends line) prefix = tokens line ≡ prefix []
Agrees tokens (Text line) prefix = (text : List ℕ) → tokens (line text) ≡ prefix (Rest text ∷ [])
Agrees tokens (Texts line) prefix = (text : List ℕ) (action : Option (List ℕ)) → tokens (line text action) ≡ prefix (RestTexts text action ∷ [])
Agrees tokens (Json line) prefix = (json : List ℕ) → tokens (line json) ≡ prefix (RestJson json ∷ [])
Agrees tokens (Field kind form) prefix = (value : FieldValue kind) → Agrees tokens (form value) (λ ts. prefix (Given kind value ∷ ts))
Agrees tokens (Word word form other) prefix = Agrees tokens form (λ ts. prefix (Fixed word ∷ ts)) × Agrees tokens other prefix
Agrees tokens (Fails fault) prefix = Unit {0}

-- the words are those of tokens, which make the line's behind those before them
pub record Spells {A : Type 0} (tokens : A → List Token) (prefix : List Token → List Token) (ws : List (List ℕ)) (line : A) : Type 0 where
  pub ts : List Token
  pub are : tokens line ≡ prefix ts
  pub words : ws ≡ flat_map token_words ts
  pub fit : AllByRecursion IsToken ts

clean_rest : (us ws : List (List ℕ)) → AllByRecursion Clean (us ++ ws) → AllByRecursion Clean ws
clean_rest [] ws h = h
clean_rest (u ∷ us) ws h = clean_rest us ws h.1

pub read_is_spelled : {A : Type 0} (tokens : A → List Token) (form : LineForm A) (prefix : List Token → List Token) (ws : List (List ℕ))
    → Agrees tokens form prefix → AllByRecursion Clean ws → IfOk (read form ws) (Spells tokens prefix ws)
read_is_spelled tokens (Ends line) prefix ws a h = if_bind (ends_at ws) _ (λ _. ws ≡ []) (Spells tokens prefix ws) (end_is_read ws)
    (λ end e. record { ts = []; are = a; words = e; fit = tt })
read_is_spelled tokens (Text line) prefix ws a h = if_bind (last_text_at ws) _ (ReadText ws) (Spells tokens prefix ws) (text_is_read ws h)
    (λ t s. record { ts = Rest t ∷ []; are = a t; words = s.words ∙ sym (append-nil _); fit = (s.fits, tt) })
read_is_spelled tokens (Texts line) prefix ws a h = if_bind (last_texts_at ws) _ (ReadTexts ws) (Spells tokens prefix ws) (texts_are_read ws h)
    (λ t s. record { ts = RestTexts t.0 t.1 ∷ []; are = a t.0 t.1; words = s.words ∙ sym (append-nil _); fit = (s.fits, tt) })
read_is_spelled tokens (Json line) prefix ws a h = if_bind (last_json_at ws) _ (ReadJson ws) (Spells tokens prefix ws) (json_is_read ws h)
    (λ t s. record { ts = RestJson t ∷ []; are = a t; words = s.words ∙ sym (append-nil _); fit = (s.fits, tt) })
read_is_spelled tokens (Field kind form) prefix ws a h =
    if_bind (field_at kind ws) _ (ReadField kind ws) (Spells tokens prefix ws) (field_is_read kind ws h) (λ x t.
    if_then (read (form x.0) x.1) (Spells tokens (λ ts. prefix (Given kind x.0 ∷ ts)) x.1) (Spells tokens prefix ws)
    (read_is_spelled tokens (form x.0) (λ ts. prefix (Given kind x.0 ∷ ts)) x.1 (a x.0)
    (clean_rest (field_words kind x.0) x.1 (subst (AllByRecursion Clean) t.words h)))
    (λ line s. record { ts = Given kind x.0 ∷ s.ts; are = s.are; words = t.words ∙ ap (λ vs. field_words kind x.0 ++ vs) s.words; fit = (t.fits, s.fit) }))
read_is_spelled tokens (Word word form other) prefix [] a h = tt
read_is_spelled tokens (Word word form other) prefix (w ∷ ws) a h =
    cond_both (bytes_eq w word) (read form ws) (read other (w ∷ ws)) (λ r. IfOk r (Spells tokens prefix (w ∷ ws)))
    (λ is. if_then (read form ws) (Spells tokens (λ ts. prefix (Fixed word ∷ ts)) ws) (Spells tokens prefix (w ∷ ws))
    (read_is_spelled tokens form (λ ts. prefix (Fixed word ∷ ts)) ws a.0 h.1)
    (λ line s. record {
      ts = Fixed word ∷ s.ts;
      are = s.are;
      words = ap (λ v. v ∷ ws) ((bytes_eq-Decides w word).0 is)
          ∙ ap (λ vs. word ∷ vs) s.words;
      fit = (tt, s.fit);
    }))
    (λ is. read_is_spelled tokens other prefix (w ∷ ws) a.1 h)
read_is_spelled tokens (Fails fault) prefix ws a h = tt

-- a word that is none of the pairs'
pub choose_none : {A : Type 0} (pairs : List (List ℕ × LineForm A)) (fault : LineFault) (w : List ℕ) (ws : List (List ℕ))
    → AllByRecursion (λ pair. bytes_eq w pair.0 ≡ false) pairs → read (choose pairs fault) (w ∷ ws) ≡ Err fault
choose_none [] fault w ws h = refl
choose_none (pair ∷ pairs) fault w ws h = rw h.0 (choose_none pairs fault w ws h.1)

-- a word that is none of the first pairs'
pub choose-append : {A : Type 0} (first later : List (List ℕ × LineForm A)) (fault : LineFault) (w : List ℕ) (ws : List (List ℕ))
    → AllByRecursion (λ pair. bytes_eq w pair.0 ≡ false) first → read (choose (first ++ later) fault) (w ∷ ws) ≡ read (choose later fault) (w ∷ ws)
choose-append [] later fault w ws h = refl
choose-append (pair ∷ pairs) later fault w ws h = rw h.0 (choose-append pairs later fault w ws h.1)
