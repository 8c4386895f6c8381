-- What a reader of lines holds, and what it finds of the lines of its input.
use Rattle.std.specs.Prelude.{◌≡◌, ℕ, ◌+◌, ◌-◌, ◌*◌, ◌^◌, ◌<◌, ◌≤◌, Bool, false, ◌==◌, List, [], ◌∷◌, ◌++◌, length, ⊤, Contains, ◌⊎◌, Option, None, Some}
use Rattle.std.specs.Prelude.{unwrap_or}
use Rattle.std.specs.List.{position_or_len}
use Rattle.std.specs.Io.KnownBytes.{prepend_known}
use Rattle.lines.specs.declared.reader.Found.{Found}
use Rattle.lines.specs.declared.reader.Found.TheVariants.{Line, TooLong}
use Rattle.lines.specs.Lines.{lines_of, HasNoNewline}

-- the offset of the first newline, or the length where there is none
abbrev pub first_newline : List ℕ → ℕ
first_newline bytes = position_or_len (λ b. b == 10) bytes

-- what a reader of lines holds: the bytes that it has read and not given, whether the input has ended, the calls of
-- `read` made so far, how many bytes the last of them gave, if it did not fail, and the line that it gave last
pub record Reading : Type 0 where
  pub pending : List ℕ
  pub ended : Bool
  pub calls : ℕ
  pub last_read : Option ℕ
  pub line : List ℕ

-- nothing was read yet
abbrev pub fresh : Reading
fresh = record { pending = []; ended = false; calls = 0; last_read = None; line = [] }

-- no fewer than the bytes that can still come: those that are pending, and 2^16 for each call of `read` that is left
abbrev pub budget : Reading → ℕ
budget s = (2 ^ 32 - s.calls) * 2 ^ 16 + length s.pending

-- a whole further line was read, with its newline
abbrev pub HasLine : Reading → Type 0
HasLine s = Contains s.pending 10

-- the input that is still to come: what is pending, and then what the reader has left, where that is known
abbrev pub input_left : Reading → Option (List ℕ) → Option (List ℕ)
input_left s known = prepend_known s.pending known

-- known input is the same
abbrev pub SameInput : Option (List ℕ) → Option (List ℕ) → Type 0
SameInput None new = ⊤
SameInput (Some xs) None = ⊥
SameInput (Some xs) (Some ys) = xs ≡ ys

-- The first line of the old input is found, and the new input is what follows it. With nothing found there is no line.
abbrev pub FindsLine : Option (List ℕ) → Option (List ℕ) → Option Found → List ℕ → Type 0
FindsLine None new found line = ⊤
FindsLine (Some xs) None found line = ⊥
FindsLine (Some xs) (Some ys) None line = (lines_of xs ≡ []) × (ys ≡ xs)
FindsLine (Some xs) (Some ys) (Some Line) line = (lines_of xs ≡ line ∷ lines_of ys) × (length line < 2 ^ 16)
FindsLine (Some xs) (Some ys) (Some TooLong) line =
    (long : List ℕ) × (lines_of xs ≡ long ∷ lines_of ys) × (2 ^ 16 ≤ length long)

-- the new input is what follows the first newline of the old one
abbrev pub SkipsLine : Option (List ℕ) → Option (List ℕ) → Type 0
SkipsLine None new = ⊤
SkipsLine (Some xs) None = ⊥
SkipsLine (Some xs) (Some ys) =
    (first : List ℕ) × HasNoNewline first × ((xs ≡ first) × (ys ≡ []) ⊎ (xs ≡ first ++ 10 ∷ ys))

-- what is left is the input but for a beginning of its first line, which is gone
abbrev pub StopsInLine : Option (List ℕ) → Option (List ℕ) → Type 0
StopsInLine None left = ⊤
StopsInLine (Some xs) None = ⊥
StopsInLine (Some xs) (Some ys) = (gone : List ℕ) × HasNoNewline gone × (xs ≡ gone ++ ys)

-- no newline of the input came before its last bytes, so many, and those are followed by what is left
abbrev pub CameWithLast : Option (List ℕ) → Option (List ℕ) → ℕ → Type 0
CameWithLast None left count = ⊤
CameWithLast (Some xs) None count = ⊥
CameWithLast (Some xs) (Some ys) count =
    (first : List ℕ) × (last : List ℕ) × HasNoNewline first × (length last ≡ count) × (xs ≡ first ++ (last ++ ys))

-- the calls of `read`, and what the last of them gave, are the same
pub record SameCalls (old new : Reading) : Type 0 where
  pub ended : new.ended ≡ old.ended
  pub calls : new.calls ≡ old.calls
  pub last_read : new.last_read ≡ old.last_read

-- a call of `read` was made, and it failed
pub record HasFailed (old new : Reading) : Type 0 where
  pub called : old.calls < new.calls
  pub failed : new.last_read ≡ None

-- Calls of `read` were made only while no whole line had come: before the last of them there was no newline. Or there
-- was no call, and what the reader has left is the same.
abbrev pub AsksInNeed : Reading → Option (List ℕ) → Reading → Option (List ℕ) → Type 0
AsksInNeed old before new after =
    (old.calls < new.calls) × CameWithLast (input_left old before) after (unwrap_or new.last_read 0)
    ⊎ (new.calls ≡ old.calls) × (new.last_read ≡ old.last_read) × (after ≡ before)
