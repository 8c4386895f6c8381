-- The lines of some bytes.
use Rattle.std.specs.Prelude.{◌≡◌, ℕ, cond, ◌==◌, List, [], ◌∷◌, ◌++◌, ◌≢◌, All}

-- a byte goes onto the first line, or makes one
abbrev pub onto_first : ℕ → List (List ℕ) → List (List ℕ)
onto_first b [] = (b ∷ []) ∷ []
onto_first b (line ∷ lines) = (b ∷ line) ∷ lines

-- the lines of the bytes: each ends at a byte 10, and the last one also at the end, where it has a byte
abbrev pub lines_of : List ℕ → List (List ℕ)
lines_of [] = []
lines_of (b ∷ bytes) = cond (b == 10) ([] ∷ lines_of bytes) (onto_first b (lines_of bytes))

-- no byte is a newline
abbrev pub HasNoNewline : List ℕ → Type 0
HasNoNewline bytes = All (λ b. b ≢ 10) bytes

-- lines, each with its newline
abbrev pub joined : List (List ℕ) → List ℕ
joined [] = []
joined (line ∷ lines) = line ++ 10 ∷ joined lines

-- a last line without a newline is one where it has a byte
abbrev pub last_line : List ℕ → List (List ℕ)
last_line [] = []
last_line (b ∷ line) = (b ∷ line) ∷ []

-- lines and what follows the last newline, however they are chosen, are the lines of the bytes that they make
abbrev pub LinesAreCut : Type 0
LinesAreCut =
    (lines : List (List ℕ)) (last : List ℕ) → All HasNoNewline lines → HasNoNewline last
    → lines_of (joined lines ++ last) ≡ lines ++ last_line last
