-- Strict runs: what is known of them beyond what is known of each run, and what is told of their end.
use Rattle.std.specs.Prelude.{◌≡◌, ℕ, ◌+◌, nat_lt, List, [], ◌∷◌, ◌++◌, All, IsTrue, length, Option, None, Some, option_to_list, ⊤, if◌then◌else◌}
use Rattle.std.specs.List.{flat_map}
use Rattle.std.specs.Option.{option_map}
use Rattle.std.specs.Str.{is_utf8}
use Rattle.std.specs.Io.KnownBytes.{Appends}
use Rattle.refusals.specs.declared.line_fault.LineFault.TheVariants.{TooLong}
use Rattle.refusals.specs.declared.refusal.Refusal.{Refusal}
use Rattle.refusals.specs.declared.refusal.Refusal.TheVariants.{Line}
use Rattle.session.specs.declared.reply.Reply.{Reply}
use Rattle.session.specs.declared.reply.Reply.TheVariants.{Refused}
use Rattle.undo_stack.specs.History.{History, is_clean}
use Rattle.undo_group.specs.Groups.{OpenDocument}
use Rattle.map_store.specs.Files.{StoreParts}
use Rattle.document_lines.specs.Acts.{Act}
use Rattle.document_lines.specs.Machine.{Machine, Workspace, workspace}
use Rattle.session_run.specs.Runs.{IsAccepted, Progress, RunsAll, RunsToUnread, RunsToWrite, reply_line}
use Rattle.session_run.specs.declared.strict.Unsaved.{Unsaved}
use Rattle.session_run.specs.declared.strict.Unsaved.TheVariants.{Changes, OpenMacro}

-- ---- how a strict run ends
-- no line was refused
abbrev pub AreAccepted : List Reply → Type 0
AreAccepted replies = All IsAccepted replies

-- each document is clean, so none has a macro open
abbrev pub AreClean : List OpenDocument → Type 0
AreClean documents = All (λ d. IsTrue (is_clean d.history)) documents

-- all lines were handled, none was refused, and each document is clean
pub record RunsClean (StepIn : List ℕ → Act Workspace) (start : Workspace) (input : List ℕ) (before after : Option (List ℕ)) (stored : StoreParts)
    (lines replied : ℕ) : Type 0 where
  pub runs : RunsAll StepIn start input before after stored lines replied
  pub accepted : AreAccepted runs.progress.replies
  pub clean : AreClean runs.now.group.documents

-- all lines were handled, none was refused, and not each document is clean
pub record RunsToUnsaved (StepIn : List ℕ → Act Workspace) (start : Workspace) (input : List ℕ) (before after : Option (List ℕ))
    (stored : StoreParts) : Type 0 where
  pub lines : ℕ
  pub replied : ℕ
  pub runs : RunsAll StepIn start input before after stored lines replied
  pub accepted : AreAccepted runs.progress.replies
  pub unsaved : AreClean runs.now.group.documents → ⊥

-- the lines were handled up to and with the first that was refused, and each reply is written whole
pub record RunsToRefused (StepIn : List ℕ → Act Workspace) (start : Workspace) (input : List ℕ) (before after : Option (List ℕ))
    (stored : StoreParts) : Type 0 where
  pub mid : Workspace
  pub line : List ℕ
  pub left : List (List ℕ)
  pub written : Option (List ℕ)
  pub lines : ℕ
  pub replied : ℕ
  pub progress : Progress StepIn start input (line ∷ left) mid before written lines replied
  pub accepted : AreAccepted progress.replies
  pub refusal : Refusal
  pub now : Machine
  pub step : StepIn line mid (Some (Refused refusal)) (workspace now stored)
  pub reply : Appends written after (reply_line (Refused refusal))

-- as each run that a fault ends, and no line before was refused
abbrev pub RunsStrictlyToUnread : (List ℕ → Act Workspace) → Workspace → List ℕ → Option (List ℕ) → Option (List ℕ) → Option (List ℕ) → StoreParts → Type 0
RunsStrictlyToUnread StepIn start input reader before after stored = (runs : RunsToUnread StepIn start input reader before after stored)
    × AreAccepted runs.progress.replies

abbrev pub RunsStrictlyToWrite : (List ℕ → Act Workspace) → Workspace → List ℕ → Option (List ℕ) → Option (List ℕ) → StoreParts → Type 0
RunsStrictlyToWrite StepIn start input before after stored = (runs : RunsToWrite StepIn start input before after stored) × AreAccepted runs.progress.replies

-- ---- what is told of it
-- of a refused line its number, its text, where it has one, and the refusal; and of a document why it is not clean
pub data Told : Type 0 where
  RefusedLine : (number : ℕ) (text : Option (List ℕ)) (refusal : Refusal) → Told
  UnsavedDocument : (name : List ℕ) (unsaved : Unsaved) → Told

-- a report that knows what it was told was told this, too
abbrev pub Tells : Option (List Told) → Option (List Told) → List Told → Type 0
Tells None new more = ⊤
Tells (Some old) None more = ⊥
Tells (Some old) (Some new) more = new ≡ old ++ more

-- the text of a line that is UTF-8
abbrev pub utf8_text_of : List ℕ → Option (List ℕ)
utf8_text_of line = if is_utf8 line then Some line else None

-- the text of a refused line, which one that is too long has not
abbrev pub refused_text : List ℕ → Refusal → Option (List ℕ)
refused_text line (Line TooLong) = None
refused_text line refusal = utf8_text_of line

-- why a document is not clean, where it is not
abbrev pub unsaved_of : History → Option Unsaved
unsaved_of h = if is_clean h then None else Some (if nat_lt 0 (length h.levels) then OpenMacro else Changes)

-- the documents that are not clean, each with the reason, in order of opening
abbrev pub unsaved_told : List OpenDocument → List Told
unsaved_told documents = flat_map (λ d. option_to_list (option_map (UnsavedDocument d.name) (unsaved_of d.history))) documents

-- the refused line is told, by its number from 1 on
pub record TellsRefused (StepIn : List ℕ → Act Workspace) (start : Workspace) (input : List ℕ) (before after : Option (List ℕ)) (stored : StoreParts)
    (old new : Option (List Told)) : Type 0 where
  pub runs : RunsToRefused StepIn start input before after stored
  pub told : Tells old new (RefusedLine (runs.lines + 1) (refused_text runs.line runs.refusal) runs.refusal ∷ [])

-- exactly the documents that are not clean are told
pub record TellsUnsaved (StepIn : List ℕ → Act Workspace) (start : Workspace) (input : List ℕ) (before after : Option (List ℕ)) (stored : StoreParts)
    (old new : Option (List Told)) : Type 0 where
  pub runs : RunsToUnsaved StepIn start input before after stored
  pub told : Tells old new (unsaved_told runs.runs.now.group.documents)

-- one refused line is told, and nothing else
abbrev pub TellsOneLine : Option (List Told) → Option (List Told) → Type 0
TellsOneLine old new = (number : ℕ) × (text : Option (List ℕ)) × (refusal : Refusal) × Tells old new (RefusedLine number text refusal ∷ [])

-- documents that are not clean are told, and nothing else
abbrev pub TellsDocuments : Option (List Told) → Option (List Told) → Type 0
TellsDocuments old new = (documents : List OpenDocument) × (AreClean documents → ⊥) × Tells old new (unsaved_told documents)
