-- The word at which a line is refused, as C is told of it.
use Rattle.std.specs.Prelude.{◌≡◌, ◌≤◌, ℕ, Bool, true, false, List, length, Option, None, Some}
use Rattle.session.specs.Faults.{IsFaultAt}
use Rattle.session.specs.Grammar.{line_of}
use Rattle.session.specs.MoreFaults.{IsAnyFaultAt}
use Rattle.session.specs.MoreGrammar.{more_line_of}
use Rattle.session.specs.WordFaults.{is_at_word, is_at_word_of_any}
use Rattle.session.specs.declared.word_faults.WordFault.{WordFault}
use Rattle.document_lines.specs.declared.dialect.Dialect.{Dialect}
use Rattle.document_lines.specs.declared.dialect.Dialect.TheVariants.{Plain, AllEdits}
use Rattle.memory_editor.specs.Buffers.{written}
use Rattle.roskevad_c.specs.declared.answers.TheConstants.{NONE, TOO_GREAT}
use Rattle.roskevad_c.specs.declared.word_faults.FaultyWord.{FaultyWord}

-- nothing is given out
abbrev pub GivesNothing : ℕ → ℕ → FaultyWord → FaultyWord → List ℕ → List ℕ → Type 0
GivesNothing wanted answer word new text after = (answer ≡ wanted) × (new ≡ word) × (after ≡ text)

-- a word at such a place is told, and what is wrong with it, in at most 256 bytes, is copied
abbrev pub GivesWord : (ℕ → Type 0) → ℕ → FaultyWord → List ℕ → List ℕ → Type 0
GivesWord IsPlace answer word text after =
    IsPlace word.place × ((words : List ℕ) × (length words ≤ 256) × (answer ≡ length words) × (after ≡ written words text))

-- the word of a fault, where there is one
abbrev pub GivesFault : Option WordFault → ℕ → FaultyWord → FaultyWord → List ℕ → List ℕ → Type 0
GivesFault None answer word new text after = GivesNothing NONE answer word new text after
GivesFault (Some fault) answer word new text after = GivesWord (λ place. place ≡ fault.place) answer new text after

-- the word at fault is given out where the line is refused at one, and else nothing is
abbrev pub TellsWordIf : Bool → (ℕ → Type 0) → ℕ → FaultyWord → FaultyWord → List ℕ → List ℕ → Type 0
TellsWordIf true IsPlace answer word new text after = GivesWord IsPlace answer new text after
TellsWordIf false IsPlace answer word new text after = GivesNothing NONE answer word new text after

-- the word at which the line is refused
abbrev pub TellsWord : List ℕ → ℕ → FaultyWord → FaultyWord → List ℕ → List ℕ → Type 0
TellsWord line = TellsWordIf (is_at_word (line_of line)) (λ place. IsFaultAt place line)

-- and where the lines for all edits are read, too
abbrev pub TellsAnyWord : List ℕ → ℕ → FaultyWord → FaultyWord → List ℕ → List ℕ → Type 0
TellsAnyWord line = TellsWordIf (is_at_word_of_any (line_of line) (more_line_of line)) (λ place. IsAnyFaultAt place line)

-- by which lines are read, where there is such a dialect
abbrev pub TellsWordFor : Option Dialect → List ℕ → ℕ → FaultyWord → FaultyWord → List ℕ → List ℕ → Type 0
TellsWordFor (Some Plain) line = TellsWord line
TellsWordFor (Some (AllEdits fractions)) line = TellsAnyWord line
TellsWordFor None line = GivesNothing TOO_GREAT
