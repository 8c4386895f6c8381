-- Many lines in one call: which of them are done, and which replies then stand in a caller's buffer.
use Rattle.std.specs.Prelude.{◌≡◌, ◌⊎◌, ℕ, ◌+◌, ◌<◌, ◌≤◌, nat_le, Bool, true, false, IsTrue, List, [], ◌∷◌, ◌++◌, All, drop, length, Option, None, Some}
use Rattle.std.specs.Prelude.{is_some, option_and_then, option_to_list}
use Rattle.lines.specs.Lines.{lines_of}
use Rattle.session.specs.Replies.{refusal_of}
use Rattle.session.specs.declared.reply.Reply.{Reply}
use Rattle.session_run.specs.Runs.{IsAccepted, output, reply_line}
use Rattle.memory_editor.specs.Buffers.{written}
use Rattle.memory_editor.specs.Counts.{no_lines_done}
use Rattle.memory_editor.specs.Parts.{MemoryEditorParts, StepsTo}
use Rattle.memory_editor.specs.declared.lines_done.LinesDone.{LinesDone}

-- whether the reply is a refusal
abbrev pub is_refusal : Option Reply → Bool
is_refusal reply = is_some (option_and_then refusal_of reply)

-- the reply and a newline, and nothing for a quiet line
abbrev pub reply_bytes : Option Reply → List ℕ
reply_bytes None = []
reply_bytes (Some reply) = reply_line reply

-- the replies that stand in the buffer: the last one where it has room
abbrev pub told : Bool → List Reply → Option Reply → List Reply
told true replies reply = replies ++ option_to_list reply
told false replies reply = replies

-- lines were done, one after another, with these replies
abbrev pub LeadsTo : MemoryEditorParts → List (List ℕ) → List Reply → MemoryEditorParts → Type 0
LeadsTo old [] replies new = (replies ≡ []) × (new ≡ old)
LeadsTo old (line ∷ lines) replies new = (mid : MemoryEditorParts) × (rest : List Reply)
    × StepsTo line old mid × LeadsTo mid lines rest new × (replies ≡ option_to_list mid.reply ++ rest)

-- Lines at the front of the bytes were done, this one last, and the rest of the bytes is as `done` says. Each is done, and the
-- replies are those of the machine.
pub record RunsLinesUpTo (stops : Bool) (bytes buffer : List ℕ) (start : MemoryEditorParts) (done : LinesDone) (now : MemoryEditorParts) (after : List ℕ)
    : Type 0 where
  pub before : List (List ℕ)
  pub line : List ℕ
  pub replies : List Reply
  pub mid : MemoryEditorParts
  pub cut : lines_of bytes ≡ before ++ line ∷ lines_of (drop done.bytes bytes)
  pub within : done.bytes ≤ length bytes
  pub lines : done.lines ≡ length before + 1
  pub run : LeadsTo start before replies mid
  pub step : StepsTo line mid now
  pub accepted : IsTrue stops → All IsAccepted replies
  pub fits : length (output replies) ≤ length buffer
  pub refused : done.is_refused ≡ is_refusal now.reply
  pub room : done.has_room ≡ nat_le (length (output (replies ++ option_to_list now.reply))) (length buffer)
  pub size : done.replies ≡ length (output (told done.has_room replies now.reply))
  pub written : after ≡ written (output (told done.has_room replies now.reply)) buffer

-- all bytes were taken, or the last line was refused and that stops, or its reply has no room
abbrev pub Ends : Bool → List ℕ → LinesDone → Type 0
Ends stops bytes done = (done.bytes ≡ length bytes) ⊎ ((IsTrue stops × IsTrue done.is_refused) ⊎ (done.has_room ≡ false))

-- lines of the bytes were done, of which there are none where there is no byte
pub record RunsLines (stops : Bool) (bytes buffer : List ℕ) (start : MemoryEditorParts) (done : LinesDone) (now : MemoryEditorParts) (after : List ℕ)
    : Type 0 where
  pub none : bytes ≡ [] → (done ≡ no_lines_done) × (now ≡ start) × (after ≡ buffer)
  pub some : 0 < length bytes → RunsLinesUpTo stops bytes buffer start done now after
  pub ended : Ends stops bytes done
