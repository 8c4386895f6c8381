-- The words of a line are the whole line.
use Rattle.std.proofs.Common.{◌≡◌, ℕ, Bool, true, false, List, [], ◌∷◌, ◌++◌, take, Ok, Err, Result, Option, Some, None, refl}
use Rattle.std.proofs.Common.{sym, ap, ◌∙◌, subst, ◌<◌, ◌≤◌, ◌-◌, arith, inl, inr}
use Rattle.std.specs.Str.{bytes_eq}
use Rattle.std.proofs.lemmas.Bool.{cond_both, cases_order}
use Rattle.std.proofs.lemmas.List.{take-take}
use Rattle.std.proofs.lemmas.List.Splits.{join_with_byte-slice_split}
use Rattle.refusals.specs.declared.line_fault.LineFault.{LineFault}
use Rattle.session.specs.Words.{words, cut_at_bars}
use Rattle.session.specs.Grammar.{FieldKind, FieldValue, LineForm, Ends, Text, Texts, Json, Field, Word, Fails, field_at, line_form}
use Rattle.session.specs.Spelling.{spaced, joined_by_bars}
use Rattle.session.specs.Left.{either}
use Rattle.session.specs.Faults.{text_words, cut_by, field_size, line_words, IsFaultAt, WordsAreTheLine, OneIsAtFault}
use Rattle.session.proofs.Bars.{joined-cut_at_bars}
use Rattle.session.proofs.FieldWords.{reads_field}

abbrev pub is_none : List (List ℕ) → Bool
is_none [] = true
is_none (w ∷ ws) = false

-- words that make the same text, and are none where the others are
pub record SameText (us ws : List (List ℕ)) : Type 0 where
  pub text : spaced us ≡ spaced ws
  pub none : is_none us ≡ is_none ws

pub same_behind : (w : List ℕ) (us ws : List (List ℕ)) → SameText us ws → SameText (w ∷ us) (w ∷ ws)
same_behind w [] [] s = record { text = refl; none = refl }
same_behind w [] (v ∷ vs) s = let never : true ≡ false = s.none in absurd cc
same_behind w (u ∷ us) [] s = let never : false ≡ true = s.none in absurd cc
same_behind w (u ∷ us) (v ∷ vs) s = record { text = ap (λ text. w ++ (32 ∷ text)) s.text; none = refl }

pub behind_all : (front us ws : List (List ℕ)) → SameText us ws → SameText (front ++ us) (front ++ ws)
behind_all [] us ws s = s
behind_all (w ∷ front) us ws s = same_behind w (front ++ us) (front ++ ws) (behind_all front us ws s)

texts_joined : (text : List ℕ) (action : Option (List ℕ)) → spaced (text_words (text, action)) ≡ joined_by_bars text action
texts_joined text None = refl
texts_joined text (Some action) = refl

some_words : (text : List ℕ) (action : Option (List ℕ)) → is_none (text_words (text, action)) ≡ false
some_words text None = refl
some_words text (Some action) = refl

field_joined : {A : Type 0} (kind : FieldKind) (form : FieldValue kind → LineForm A)
    → ((value : FieldValue kind) (us : List (List ℕ)) → SameText (cut_by (form value) us) us)
    → (ws : List (List ℕ)) (r : Result (FieldValue kind × List (List ℕ)) LineFault) → field_at kind ws ≡ r
    → SameText (either (λ value. take (field_size kind) ws ++ cut_by (form value.0) value.1) ws r) ws
field_joined kind form same ws (Ok x) e = subst (SameText (take (field_size kind) ws ++ cut_by (form x.0) x.1)) ((reads_field kind).splits ws x e).0
    (behind_all (take (field_size kind) ws) (cut_by (form x.0) x.1) x.1 (same x.0 x.1))
field_joined kind form same ws (Err f) e = record { text = refl; none = refl }

pub joined : {A : Type 0} (form : LineForm A) (ws : List (List ℕ)) → SameText (cut_by form ws) ws
joined (Ends line) ws = record { text = refl; none = refl }
joined (Text line) [] = record { text = refl; none = refl }
joined (Text line) (w ∷ ws) = record { text = refl; none = refl }
joined (Texts line) [] = record { text = refl; none = refl }
joined (Texts line) (w ∷ ws) =
    let cut = cut_at_bars (spaced (w ∷ ws)) in
    record { text = texts_joined cut.0 cut.1 ∙ joined-cut_at_bars (spaced (w ∷ ws)); none = some_words cut.0 cut.1 }
joined (Json line) [] = record { text = refl; none = refl }
joined (Json line) (w ∷ ws) = record { text = refl; none = refl }
joined (Field kind form) ws = field_joined kind form (λ value us. joined (form value) us) ws (field_at kind ws) refl
joined (Word word form other) [] = record { text = refl; none = refl }
joined (Word word form other) (w ∷ ws) = cond_both (bytes_eq w word) (w ∷ cut_by form ws) (cut_by other (w ∷ ws)) (λ us. SameText us (w ∷ ws))
    (λ _. same_behind w (cut_by form ws) ws (joined form ws)) (λ _. joined other (w ∷ ws))
joined (Fails fault) ws = record { text = refl; none = refl }

-- with a space between each two, the words of a line are that line
pub words_are_the_line : WordsAreTheLine
words_are_the_line bytes = (joined line_form (words bytes)).text ∙ join_with_byte-slice_split 32 bytes

pub shortened : (n m : ℕ) (us ws : List (List ℕ)) → n ≤ m → take m us ≡ take m ws → take n us ≡ take n ws
shortened n m us ws h e = sym (take-take n m us h) ∙ ap (take n) e ∙ take-take n m ws h

-- the words up to the first place would be those of a line
not_before : (bytes : List ℕ) (place other : ℕ) → IsFaultAt place bytes → IsFaultAt other bytes → place < other → ⊥
not_before bytes place other f g h =
    f.none_further g.other g.is_line (shortened place (other - 1) (line_words g.other) (line_words bytes) (omega (arith, h)) g.same)

pub one_is_at_fault : OneIsAtFault
one_is_at_fault bytes place other f g = elim (cases_order place other) [
  | inl same ↦ same
  | inr apart ↦ elim apart [ inl below ↦ absurd (not_before bytes place other f g below) | inr above ↦ absurd (not_before bytes other place g f above) ]
]
