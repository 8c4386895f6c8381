-- A field that is read from words is spelled by those words.
use Rattle.std.proofs.Common.{◌≡◌, ◌≢◌, ◌≤◌, ℕ, arith, Bool, true, false, cond, eqb, not, List, [], ◌∷◌, ◌++◌, length, Ok, Err, Result, Option}
use Rattle.std.proofs.Common.{Some, None, refl, sym, ap}
use Rattle.std.proofs.Common.{◌∙◌, subst}
use Rattle.std.specs.Prelude.{codes, IfOk}
use Rattle.std.specs.Fmt.{decimal}
use Rattle.std.specs.Str.{IsUtf8, bytes_eq}
use Rattle.std.proofs.lemmas.Slice.Eq.{bytes_eq-Decides}
use Rattle.std.proofs.lemmas.List.Sums.{AllPass-from_list_all}
use Rattle.std.proofs.lemmas.Bool.{leb-true, eqb-true, eq-eqb, and_parts, not-true, both_ways, cond_both}
use Rattle.map_model.specs.declared.parts.LayerKind.TheVariants as kinds
use Rattle.session.specs.declared.limits.TheConstants.{MAX_DOCUMENT_NAME, MAX_FILE_NAME}
use Rattle.refusals.specs.declared.line_fault.LineFault.{LineFault}
use Rattle.refusals.specs.declared.line_fault.LineFault.TheVariants.{BadWord}
use Rattle.session.specs.Words.{words, number_of, coordinate_of, numbers_of, is_name, is_name_byte, is_text, is_text_byte, cut_at_bars, are_texts, are_rows}
use Rattle.session.specs.Words.{layer_kind_of, yes_no_of, truth_of, is_key, is_key_byte, is_color, member_owner_of, owner_of, choice_of}
use Rattle.session.specs.Grammar.{FieldKind, Number, Coordinate, Block, Name, File, Choice, LayerSort, YesNo, Truth, Key}
use Rattle.session.specs.Grammar.{Color, OwnerName, OwnerOfMembers, FieldValue}
use Rattle.session.specs.Grammar.{field_at, word_at, passing, rows_at, block_at, last_json_at, last_text_at, last_texts_at, ends_at, ◌>>=◌, word_is}
use Rattle.session.specs.Spelling.{joined_by_bars, HasNoBars, AreTexts, spaced, commas, layer_kind_word, yes_no_word, truth_word, field_words, IsField, IsName}
use Rattle.session.specs.Spelling.{IsChoice, IsJsonText, IsText, IsKey, AreRows, choice_word}
use Rattle.session.proofs.Decimals.{decimal_from}
use Rattle.session.proofs.Coordinates.{signed_from}
use Rattle.session.proofs.Commas.{commas_from}
use Rattle.session.proofs.Owners.{owner_from}
use Rattle.session.proofs.MoreOwners.{member_owner_from}
use Rattle.session.proofs.SpacedWords.{Clean, words-spaced, utf8-spaced, utf8_before, utf8_after}
use Rattle.session.proofs.Bars.{joined-cut_at_bars, no_bars_cut}
use Rattle.std.specs.List.{AllByRecursion}

pub if_bind : {A B : Type 0} (r : Result A LineFault) (f : A → Result B LineFault) (P : A → Type 0) (Q : B → Type 0) → IfOk r P → ((a : A) → P a → IfOk (f a) Q)
    → IfOk (r >>= f) Q
if_bind (Ok a) f P Q h k = k a h
if_bind (Err e) f P Q h k = tt

pub if_then : {A : Type 0} (r : Result A LineFault) (P Q : A → Type 0) → IfOk r P → ((a : A) → P a → Q a) → IfOk r Q
if_then (Ok a) P Q h k = k a h
if_then (Err e) P Q h k = tt

pub if_word : {A B : Type 0} (o : Option A) (f : A → Result B LineFault) (Q : B → Type 0) → ((a : A) → o ≡ Some a → IfOk (f a) Q) → IfOk (word_is o >>= f) Q
if_word None f Q k = tt
if_word (Some a) f Q k = k a refl

-- a field with this value was read, and these words are left
pub record ReadField (kind : FieldKind) (ws : List (List ℕ)) (x : FieldValue kind × List (List ℕ)) : Type 0 where
  pub fits : IsField kind x.0
  pub words : ws ≡ field_words kind x.0 ++ x.1

-- a field that is one word is read, if what a word is fits and is spelled by that word
word_is_read : (kind : FieldKind) (value_of : List ℕ → Option (FieldValue kind)) (ws : List (List ℕ))
    → ((w : List ℕ) (x : FieldValue kind) → Clean w → value_of w ≡ Some x → IsField kind x × (w ∷ [] ≡ field_words kind x))
    → AllByRecursion Clean ws → IfOk (word_at value_of ws) (ReadField kind ws)
unfolding word_at
word_is_read kind value_of [] k h = tt
word_is_read kind value_of (w ∷ ws) k h =
    if_word (value_of w) (λ x. Ok (x, ws)) (ReadField kind (w ∷ ws))
    (λ x e. let at = k w x h.0 e in record { fits = at.0; words = ap (λ vs. vs ++ ws) at.1 })

-- a word that is what it spells
alone : {x y : List ℕ} → x ≡ y → y ∷ [] ≡ x ∷ []
alone e = ap (λ v. v ∷ []) (sym e)

number_is_read : (ws : List (List ℕ)) → AllByRecursion Clean ws → IfOk (word_at number_of ws) (ReadField Number ws)
number_is_read ws = word_is_read Number number_of ws (λ w n c e. let at = decimal_from w n e in (at.1, alone at.0))

-- the rows of a block of that width were read, and these words are left
record ReadRows (width : ℕ) (ws : List (List ℕ)) (x : (ℕ × List ℕ) × List (List ℕ)) : Type 0 where
  width_is : x.0.0 ≡ width
  fits : AreRows width x.0.1
  words : ws ≡ commas x.0.1 ∷ x.1

rows_is_read : (width : ℕ) (ws : List (List ℕ)) → IfOk (rows_at width ws) (ReadRows width ws)
unfolding rows_at
rows_is_read width [] = tt
rows_is_read width (w ∷ ws) = if_word (numbers_of w) (λ values. cond (are_rows width (length values)) (Ok ((width, values), ws)) (Err BadWord))
    (ReadRows width (w ∷ ws)) (λ values e.
    let at = commas_from w values e in
    cond_both (are_rows width (length values)) (Ok ((width, values), ws)) (Err BadWord) (λ r. IfOk r (ReadRows width (w ∷ ws))) (λ is.
    let halves = and_parts _ _ is in
    let wide = and_parts _ _ halves.0 in
    record {
      width_is = refl;
      fits = record { some = leb-true _ _ wide.0; narrow = leb-true _ _ wide.1; rows = eqb-true _ _ halves.1; filled = at.some; numbers = at.numbers };
      words = ap (λ v. v ∷ ws) (sym at.spelled);
    }) (λ is. tt))

block_is_read : (ws : List (List ℕ)) → AllByRecursion Clean ws → IfOk (block_at ws) (ReadField Block ws)
unfolding block_at
block_is_read ws h = if_bind (word_at number_of ws) _ (ReadField Number ws) (ReadField Block ws) (number_is_read ws h) (λ n t.
    if_then (rows_at n.0 n.1) (ReadRows n.0 n.1) (ReadField Block ws) (rows_is_read n.0 n.1) (λ x r. record {
      fits = subst (λ w. AreRows w x.0.1) (sym r.width_is) r.fits;
      words = t.words ∙ ap (λ vs. decimal n.0 ∷ vs) r.words ∙ ap (λ w. decimal w ∷ commas x.0.1 ∷ x.1) (sym r.width_is);
    }))

pub ne_from_not : (a b : ℕ) → not (eqb a b) ≡ true → a ≢ b
ne_from_not a b h e = both_ways _ (not-true _ h) (eq-eqb a b e)

pub is_name_from : (limit : ℕ) (bytes : List ℕ) → is_name limit bytes ≡ true → IsName limit bytes
is_name_from limit bytes h =
    let halves = and_parts _ _ h in
    let dash = and_parts _ _ halves.0 in
    let dot = and_parts _ _ dash.0 in
    let size = and_parts _ _ dot.0 in
    record {
      some = leb-true _ _ size.0;
      short = leb-true _ _ size.1;
      no_dot = ne_from_not _ _ dot.1;
      no_dash = ne_from_not _ _ dash.1;
      bytes = AllPass-from_list_all is_name_byte bytes halves.1;
    }

-- a word that passes is itself
passed : (test : List ℕ → Bool) (w x : List ℕ) → passing test w ≡ Some x → (test x ≡ true) × (x ≡ w)
passed test w x =
    cond_both (test w) (Some w) None (λ r. r ≡ Some x → (test x ≡ true) × (x ≡ w))
    (λ is e. let same : w ≡ x = cc in (subst (λ v. test v ≡ true) same is, sym same)) (λ is e. absurd cc)

-- the word of a choice
choice_from : (w : List ℕ) (x : Option (List ℕ)) → choice_of w ≡ Some x → IsChoice x × (choice_word x ≡ w)
choice_from w x =
    let Q : Option (Option (List ℕ)) → Type 0 = λ r. r ≡ Some x → IsChoice x × (choice_word x ≡ w) in
    cond_both (bytes_eq w (codes "-")) (Some None) _ Q
    (λ is e. let same : None ≡ x = cc in subst (λ v. IsChoice v × (choice_word v ≡ w)) same (tt, sym ((bytes_eq-Decides w (codes "-")).0 is)))
    (λ _. cond_both (is_name MAX_DOCUMENT_NAME w) (Some (Some w)) None Q
    (λ is e. let same : Some w ≡ x = cc in subst (λ v. IsChoice v × (choice_word v ≡ w)) same (is_name_from MAX_DOCUMENT_NAME w is, refl)) (λ _ e. absurd cc))

-- a choice between two words
by_two : {A : Type 0} (word a b : List ℕ) (x y : A) (spelled : A → List ℕ) → spelled x ≡ a → spelled y ≡ b → (z : A)
    → cond (bytes_eq word a) (Some x) (cond (bytes_eq word b) (Some y) None) ≡ Some z → spelled z ≡ word
by_two {A} word a b x y spelled ea eb z =
    let Q : Option A → Type 0 = λ o. o ≡ Some z → spelled z ≡ word in
    cond_both (bytes_eq word a) (Some x) _ Q (λ is. λ e. let same : x ≡ z = cc in ap spelled (sym same) ∙ ea ∙ sym ((bytes_eq-Decides word a).0 is)) (λ _.
    cond_both (bytes_eq word b) (Some y) None Q (λ is. λ e. let same : y ≡ z = cc in ap spelled (sym same) ∙ eb ∙ sym ((bytes_eq-Decides word b).0 is))
    (λ _. λ e. absurd cc))

is_key_from : (bytes : List ℕ) → is_key bytes ≡ true → IsUtf8 bytes → IsKey bytes
is_key_from bytes h u =
    let halves = and_parts _ _ h in
    let size = and_parts _ _ halves.0 in
    record {
      some = leb-true _ _ size.0;
      short = leb-true _ _ size.1;
      bytes = λ k d l. let at = and_parts _ _ (AllPass-from_list_all is_key_byte bytes halves.1 k d l) in (leb-true _ _ at.0, ne_from_not _ _ at.1);
      utf8 = u;
    }

pub field_is_read : (kind : FieldKind) (ws : List (List ℕ)) → AllByRecursion Clean ws → IfOk (field_at kind ws) (ReadField kind ws)
field_is_read Number ws = number_is_read ws
field_is_read Coordinate ws = word_is_read Coordinate coordinate_of ws (λ w z c e. let at = signed_from w z e in (at.1, alone at.0))
field_is_read Block ws = block_is_read ws
field_is_read Truth ws =
    word_is_read Truth truth_of ws (λ w x c e. (tt, alone (by_two w (codes "true") (codes "false") true false truth_word refl refl x e)))
field_is_read Key ws = word_is_read Key (passing is_key) ws (λ w x c e.
    let at = passed is_key w x e in (is_key_from x at.0 (subst IsUtf8 (sym at.1) c.utf8), alone at.1))
field_is_read Color ws = word_is_read Color (passing is_color) ws (λ w x c e. let at = passed is_color w x e in (at.0, alone at.1))
field_is_read OwnerName ws = word_is_read OwnerName owner_of ws (λ w o c e. let at = owner_from w o e in (at.1, alone at.0))
field_is_read OwnerOfMembers ws =
    word_is_read OwnerOfMembers member_owner_of ws (λ w o c e. let at = member_owner_from w o e in (at.1, alone at.0))
field_is_read Name ws = word_is_read Name (passing (is_name MAX_DOCUMENT_NAME)) ws (λ w x c e.
    let at = passed (is_name MAX_DOCUMENT_NAME) w x e in (is_name_from MAX_DOCUMENT_NAME x at.0, alone at.1))
field_is_read File ws = word_is_read File (passing (is_name MAX_FILE_NAME)) ws (λ w x c e.
    let at = passed (is_name MAX_FILE_NAME) w x e in (is_name_from MAX_FILE_NAME x at.0, alone at.1))
field_is_read Choice ws = word_is_read Choice choice_of ws (λ w x c e. let at = choice_from w x e in (at.0, alone at.1))
field_is_read LayerSort ws = word_is_read LayerSort layer_kind_of ws (λ w x c e.
    (tt, alone (by_two w (codes "tile") (codes "object") kinds.Tile kinds.Object layer_kind_word refl refl x e)))
field_is_read YesNo ws =
    word_is_read YesNo yes_no_of ws (λ w x c e. (tt, alone (by_two w (codes "yes") (codes "no") true false yes_no_word refl refl x e)))

pub is_text_from : (bytes : List ℕ) → is_text bytes ≡ true → IsUtf8 bytes → IsText bytes
is_text_from bytes h u =
    let halves = and_parts _ _ h in
    let size = and_parts _ _ halves.0 in
    record {
      some = leb-true _ _ size.0;
      short = leb-true _ _ size.1;
      bytes = λ k d l. let at = and_parts _ _ (AllPass-from_list_all is_text_byte bytes halves.1 k d l) in (leb-true _ _ at.0, ne_from_not _ _ at.1);
      utf8 = u;
    }

-- the words are those of a text
pub record ReadText (ws : List (List ℕ)) (text : List ℕ) : Type 0 where
  pub fits : IsText text
  pub words : ws ≡ words text

pub text_is_read : (ws : List (List ℕ)) → AllByRecursion Clean ws → IfOk (last_text_at ws) (ReadText ws)
unfolding last_text_at
text_is_read [] h = tt
text_is_read (w ∷ ws) h = cond_both (is_text (spaced (w ∷ ws))) (Ok (spaced (w ∷ ws))) (Err BadWord) (λ r. IfOk r (ReadText (w ∷ ws)))
    (λ is. record { fits = is_text_from (spaced (w ∷ ws)) is (utf8-spaced (w ∷ ws) h); words = sym (words-spaced w ws h) }) (λ is. tt)

-- the words are those of a JSON text
pub record ReadJson (ws : List (List ℕ)) (json : List ℕ) : Type 0 where
  pub fits : IsJsonText json
  pub words : ws ≡ words json

some_size : (xs : List ℕ) → eqb (length xs) 0 ≡ false → 1 ≤ length xs
some_size [] e = absurd cc
some_size (x ∷ xs) e = omega arith

pub json_is_read : (ws : List (List ℕ)) → AllByRecursion Clean ws → IfOk (last_json_at ws) (ReadJson ws)
unfolding last_json_at
json_is_read [] h = tt
json_is_read (w ∷ ws) h =
    cond_both (eqb (length (spaced (w ∷ ws))) 0) (Err BadWord) (Ok (spaced (w ∷ ws))) (λ r. IfOk r (ReadJson (w ∷ ws)))
    (λ is. tt)
    (λ is. record { fits = record { some = some_size (spaced (w ∷ ws)) is; utf8 = utf8-spaced (w ∷ ws) h }; words = sym (words-spaced w ws h) })

texts_from : (text : List ℕ) (action : Option (List ℕ)) → are_texts text action ≡ true → HasNoBars text action → IsUtf8 (joined_by_bars text action)
    → AreTexts text action
texts_from text None is h u = record { first = is_text_from text is u; second = tt; no_bars = h }
texts_from text (Some action) is h u =
    let both = and_parts _ _ is in
    let behind : IsUtf8 action = utf8_after (codes "||") action (utf8_after text (codes "|| " ++ action) u) in
    record { first = is_text_from text both.0 (utf8_before text (codes "|| " ++ action) u); second = is_text_from action both.1 behind; no_bars = h }

-- the words are those of a macro's texts
pub record ReadTexts (ws : List (List ℕ)) (x : List ℕ × Option (List ℕ)) : Type 0 where
  pub fits : AreTexts x.0 x.1
  pub words : ws ≡ words (joined_by_bars x.0 x.1)

pub texts_are_read : (ws : List (List ℕ)) → AllByRecursion Clean ws → IfOk (last_texts_at ws) (ReadTexts ws)
unfolding last_texts_at
texts_are_read [] h = tt
texts_are_read (w ∷ ws) h =
    let bytes = spaced (w ∷ ws) in
    let cut = cut_at_bars bytes in
    let whole = joined-cut_at_bars bytes in
    cond_both (are_texts cut.0 cut.1) (Ok cut) (Err BadWord) (λ r. IfOk r (ReadTexts (w ∷ ws)))
    (λ is. record {
      fits = texts_from cut.0 cut.1 is (no_bars_cut bytes) (subst IsUtf8 (sym whole) (utf8-spaced (w ∷ ws) h));
      words = sym (words-spaced w ws h) ∙ ap words (sym whole);
    })
    (λ is. tt)

pub end_is_read : (ws : List (List ℕ)) → IfOk (ends_at ws) (λ _. ws ≡ [])
unfolding ends_at
end_is_read [] = refl
end_is_read (w ∷ ws) = tt
