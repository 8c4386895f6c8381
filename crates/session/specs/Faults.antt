-- Which word of a refused line is at fault.
use Rattle.std.specs.Prelude.{◌≡◌, ℕ, ◌-◌, List, [], ◌∷◌, ◌++◌, take, Option, None, Some, IsOk, false, codes}
use Rattle.std.specs.Prelude.{if◌then◌else◌}
use Rattle.std.specs.List.{join_with_byte}
use Rattle.std.specs.Str.{bytes_eq}
use Rattle.session.specs.Words.{words, cut_at_bars}
use Rattle.session.specs.Grammar.{FieldKind, Block}
use Rattle.session.specs.Grammar.{LineForm, Text, Texts, Json, Field, Word, field_at, line_form, is_quiet, line_of}
use Rattle.session.specs.Left.{either}

-- how many words a field has
abbrev pub field_size : FieldKind → ℕ
field_size Block = 2
field_size kind = 1

-- the texts of a macro as words: the one in front, and, where another is given, the bars and that one
abbrev pub text_words : List ℕ × Option (List ℕ) → List (List ℕ)
text_words (text, None) = text ∷ []
text_words (text, Some action) = text ∷ codes "||" ∷ action ∷ []

-- the words as a form has them: a text and a JSON text are one word
abbrev pub cut_by : {A : Type 0} → LineForm A → List (List ℕ) → List (List ℕ)
cut_by (Text line) (w ∷ ws) = join_with_byte 32 (w ∷ ws) ∷ []
cut_by (Texts line) (w ∷ ws) = text_words (cut_at_bars (join_with_byte 32 (w ∷ ws)))
cut_by (Json line) (w ∷ ws) = join_with_byte 32 (w ∷ ws) ∷ []
cut_by (Field kind form) ws = either (λ value. take (field_size kind) ws ++ cut_by (form value.0) value.1) ws (field_at kind ws)
cut_by (Word word form other) (w ∷ ws) = if bytes_eq w word then w ∷ cut_by form ws else cut_by other (w ∷ ws)
cut_by form ws = ws

-- the words of a line, where a text is one word
abbrev pub line_words : List ℕ → List (List ℕ)
line_words bytes = cut_by line_form (words bytes)

-- the bytes are read as a line that is not quiet
abbrev pub IsLine : List ℕ → Type 0
IsLine bytes = IsOk (line_of bytes) × (is_quiet bytes ≡ false)

-- the word at that place, counted from 1, is the first at which the bytes are no line: some line has the same words in front of
-- it, and none has the same words up to it
pub record IsFaultAt (place : ℕ) (bytes : List ℕ) : Type 0 where
  pub other : List ℕ
  pub is_line : IsLine other
  pub same : take (place - 1) (line_words other) ≡ take (place - 1) (line_words bytes)
  pub none_further : (others : List ℕ) → IsLine others → take place (line_words others) ≡ take place (line_words bytes) → ⊥

-- with a space between each two, the words of a line are that line
abbrev pub WordsAreTheLine : Type 0
WordsAreTheLine = (bytes : List ℕ) → join_with_byte 32 (line_words bytes) ≡ bytes

-- at most one word of a line is at fault
abbrev pub OneIsAtFault : Type 0
OneIsAtFault = (bytes : List ℕ) (place other : ℕ) → IsFaultAt place bytes → IsFaultAt other bytes → place ≡ other
