-- Whole runs of the machine, by what the bytes of a line may do.
use Rattle.std.specs.Prelude.{◌≡◌, ℕ, ◌<◌, List, [], ◌∷◌, ◌++◌, length, Option, None, Some, option_to_list}
use Rattle.std.specs.List.{flat_map}
use Rattle.std.specs.Io.KnownBytes.{Appends}
use Rattle.lines.specs.Lines.{lines_of, HasNoNewline}
use Rattle.session.specs.declared.reply.Reply.{Reply}
use Rattle.session.specs.Replies.{refusal_of, reply_text}
use Rattle.document_lines.specs.Acts.{Act}
use Rattle.document_lines.specs.Machine.{Machine, Workspace, workspace}
use Rattle.map_store.specs.Files.{StoreParts}

-- what may be replied to lines, one after another, and where they lead
abbrev pub Run : (List ℕ → Act Workspace) → Workspace → List (List ℕ) → List Reply → Workspace → Type 0
Run StepIn old [] replies new = (replies ≡ []) × (new ≡ old)
Run StepIn old (line ∷ lines) replies new = (mid : Workspace) × (reply : Option Reply) × (rest : List Reply)
    × StepIn line old reply mid × Run StepIn mid lines rest new × (replies ≡ option_to_list reply ++ rest)

-- a reply as it is written, and all replies
abbrev pub reply_line : Reply → List ℕ
reply_line reply = reply_text reply ++ 10 ∷ []

abbrev pub output : List Reply → List ℕ
output replies = flat_map reply_line replies

-- a reply that is no refusal
abbrev pub IsAccepted : Reply → Type 0
IsAccepted reply = refusal_of reply ≡ None

-- the writer took the beginning of the bytes, and not the rest, which is not empty
abbrev pub TakesBeginning : List ℕ → Option (List ℕ) → Option (List ℕ) → Type 0
TakesBeginning bytes before after =
    (beginning : List ℕ) × (rest : List ℕ) × (0 < length rest) × (bytes ≡ beginning ++ rest) × Appends before after beginning

-- Some lines of the input were handled, and these are left. The run began at `start` and stands at `now`, and the writer, whose
-- contents went from `before` to `after`, has the replies to the lines that were handled.
pub record Progress (StepIn : List ℕ → Act Workspace) (start : Workspace) (input : List ℕ) (left : List (List ℕ)) (now : Workspace)
    (before after : Option (List ℕ)) (lines replied : ℕ) : Type 0 where
  pub handled : List (List ℕ)
  pub replies : List Reply
  pub split : lines_of input ≡ handled ++ left
  pub run : Run StepIn start handled replies now
  pub written : Appends before after (output replies)
  pub lines_counted : lines ≡ length handled
  pub replies_counted : replied ≡ length replies

-- all lines were handled, and the store keeps what the run leaves
pub record RunsAll (StepIn : List ℕ → Act Workspace) (start : Workspace) (input : List ℕ) (before after : Option (List ℕ)) (stored : StoreParts)
    (lines replied : ℕ) : Type 0 where
  pub now : Machine
  pub progress : Progress StepIn start input [] (workspace now stored) before after lines replied

-- All whole lines that were taken from the reader were handled: each is done, files and all, and each reply is written whole. What came
-- of a line not whole has no newline, and together with what the reader still has it is the rest of the input.
pub record RunsToUnread (StepIn : List ℕ → Act Workspace) (start : Workspace) (input : List ℕ) (reader before after : Option (List ℕ))
    (stored : StoreParts) : Type 0 where
  pub beginning : List ℕ
  pub rest : List ℕ
  pub unfinished : HasNoNewline beginning
  pub unread : reader ≡ Some rest
  pub now : Machine
  pub lines : ℕ
  pub replied : ℕ
  pub progress : Progress StepIn start input (lines_of (beginning ++ rest)) (workspace now stored) before after lines replied

-- some lines were handled, and one more, whose step is done, files and all, and of the reply to which the beginning is written
pub record RunsToWrite (StepIn : List ℕ → Act Workspace) (start : Workspace) (input : List ℕ) (before after : Option (List ℕ))
    (stored : StoreParts) : Type 0 where
  pub mid : Workspace
  pub line : List ℕ
  pub left : List (List ℕ)
  pub written : Option (List ℕ)
  pub lines : ℕ
  pub replied : ℕ
  pub progress : Progress StepIn start input (line ∷ left) mid before written lines replied
  pub reply : Reply
  pub now : Machine
  pub step : StepIn line mid (Some reply) (workspace now stored)
  pub beginning : TakesBeginning (reply_line reply) written after
