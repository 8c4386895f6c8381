-- Which word of a line that is refused for all edits is at fault.
use Rattle.std.specs.Prelude.{◌≡◌, ℕ, ◌-◌, List, take, IsOk}
use Rattle.std.specs.Prelude.{◌⊎◌}
use Rattle.std.specs.List.{join_with_byte}
use Rattle.session.specs.Words.{words}
use Rattle.session.specs.Faults.{IsLine, cut_by, line_words}
use Rattle.session.specs.MoreGrammar.{more_form, more_line_of}

-- the words of a line for all edits, where a text and a JSON text are one word
abbrev pub more_line_words : List ℕ → List (List ℕ)
more_line_words bytes = cut_by more_form (words bytes)

-- the word at that place, counted from 1, is the first at which the bytes are no line for all edits: some such line has the same
-- words in front of it, and none has the same words up to it
pub record IsMoreFaultAt (place : ℕ) (bytes : List ℕ) : Type 0 where
  pub other : List ℕ
  pub is_line : IsOk (more_line_of other)
  pub same : take (place - 1) (more_line_words other) ≡ take (place - 1) (more_line_words bytes)
  pub none_further : (others : List ℕ) → IsOk (more_line_of others) → take place (more_line_words others) ≡ take place (more_line_words bytes) → ⊥

-- some line has the same words in front of that place
pub record HasLineBefore (place : ℕ) (bytes : List ℕ) : Type 0 where
  pub other : List ℕ
  pub is_line : IsLine other
  pub same : take (place - 1) (line_words other) ≡ take (place - 1) (line_words bytes)

-- some line for all edits has the same words in front of that place
pub record HasMoreLineBefore (place : ℕ) (bytes : List ℕ) : Type 0 where
  pub other : List ℕ
  pub is_line : IsOk (more_line_of other)
  pub same : take (place - 1) (more_line_words other) ≡ take (place - 1) (more_line_words bytes)

-- the word at that place, counted from 1, is the first at which the bytes are neither a line nor a line for all edits: some line of
-- either kind has the same words in front of it, and none of both has the same words up to it
pub record IsAnyFaultAt (place : ℕ) (bytes : List ℕ) : Type 0 where
  pub before : HasLineBefore place bytes ⊎ HasMoreLineBefore place bytes
  pub no_line_further : (others : List ℕ) → IsLine others → take place (line_words others) ≡ take place (line_words bytes) → ⊥
  pub no_more_further : (others : List ℕ) → IsOk (more_line_of others) → take place (more_line_words others) ≡ take place (more_line_words bytes) → ⊥

-- with a space between each two, the words of a line for all edits are that line
abbrev pub MoreWordsAreTheLine : Type 0
MoreWordsAreTheLine = (bytes : List ℕ) → join_with_byte 32 (more_line_words bytes) ≡ bytes

-- at most one word is the first at which bytes are neither a line nor a line for all edits
abbrev pub OneIsAtAnyFault : Type 0
OneIsAtAnyFault = (bytes : List ℕ) (place other : ℕ) → IsAnyFaultAt place bytes → IsAnyFaultAt other bytes → place ≡ other
