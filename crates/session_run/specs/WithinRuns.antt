-- What the functions within a run promise one another, and what a caller of `step` promises of its closure. The contracts of
-- `run` and `run_strict` cite none of it.
use Rattle.std.specs.Prelude.{◌≡◌, ℕ, ◌+◌, ◌^◌, ◌≤◌, Bool, IsTrue, List, [], ◌⊎◌, length, Option, None, Some, ⊤}
use Rattle.command_api.specs.Law.{Change, IsSame}
use Rattle.lines.specs.declared.reader.Found.{Found}
use Rattle.lines.specs.declared.reader.Found.TheVariants as found
use Rattle.lines.specs.Lines.{lines_of}
use Rattle.refusals.specs.declared.line_fault.LineFault.{LineFault}
use Rattle.refusals.specs.declared.line_fault.LineFault.TheVariants.{UnknownCommand}
use Rattle.refusals.specs.declared.refusal.Refusal.{Refusal}
use Rattle.session.specs.declared.reply.Reply.{Reply}
use Rattle.undo_group.specs.Groups.{OpenDocument}
use Rattle.map_store.specs.Files.{StoreParts}
use Rattle.document_lines.specs.declared.planned.Edit.{Edit}
use Rattle.document_lines.specs.Acts.{Act}
use Rattle.document_lines.specs.Machine.{Workspace}
use Rattle.document_lines.specs.Planning.{edit_change}
use Rattle.session_run.specs.Runs.{Progress, RunsAll, RunsToUnread, RunsToWrite}
use Rattle.session_run.specs.StrictRuns.{AreAccepted, AreClean, RunsToRefused, Tells, TellsDocuments, TellsOneLine, TellsRefused, TellsUnsaved, Told}
use Rattle.session_run.specs.StrictRuns.{refused_text, unsaved_told}
use Rattle.session_run.specs.declared.strict.End.{End}
use Rattle.session_run.specs.declared.strict.End.TheVariants as end

-- ---- lines
-- some lines were handled; in a strict run none was refused
pub record Going (StepIn : List ℕ → Act Workspace) (strict : Bool) (start : Workspace) (input : List ℕ) (left : List (List ℕ)) (now : Workspace)
    (before after : Option (List ℕ)) (lines replied : ℕ) : Type 0 where
  pub progress : Progress StepIn start input left now before after lines replied
  pub accepted : IsTrue strict → AreAccepted progress.replies

-- where the input is known, some lines of it were handled, and those of `left` are left
abbrev pub Goes : (List ℕ → Act Workspace) → Bool → Workspace → Option (List ℕ) → Option (List ℕ) → Workspace → Option (List ℕ) → Option (List ℕ) → ℕ → ℕ
    → Type 0
Goes StepIn strict start None left now before after lines replied = ⊤
Goes StepIn strict start (Some input) None now before after lines replied = ⊥
Goes StepIn strict start (Some input) (Some left) now before after lines replied =
    Going StepIn strict start input (lines_of left) now before after lines replied

-- a fact on the bytes of the line that was found; of a long one only its length is known
abbrev pub OfFound : Found → List ℕ → (List ℕ → Type 0) → Type 0
OfFound found.Line line P = P line
OfFound found.TooLong line P = (long : List ℕ) → 2 ^ 16 ≤ length long → P long

-- the command that an edit was put into, where there is one, does what the edit does
abbrev pub PutsSame : {C : Type 0} → (C → Change) → Edit → Option C → Type 0
PutsSame change edit None = ⊤
PutsSame change edit (Some command) = IsSame (edit_change edit) (change command)

abbrev pub StepFound : (List ℕ → Act Workspace) → Found → List ℕ → Act Workspace
StepFound StepIn found line old reply new = OfFound found line (λ bytes. StepIn bytes old reply new)

-- the fault of a line that has these as a plain one and as one for all edits: the first, where it begins with no word of the latter
abbrev pub fault_of_both : LineFault → LineFault → LineFault
fault_of_both first UnknownCommand = first
fault_of_both first more = more

-- ---- how lines end
-- a strict run stops at a refused line, whose text is that of the line at hand
pub record StopsRefused (StepIn : List ℕ → Act Workspace) (start : Workspace) (input : List ℕ) (refusal : Refusal) (stored : StoreParts) (line : List ℕ)
    (before after : Option (List ℕ)) (lines : ℕ) : Type 0 where
  pub runs : RunsToRefused StepIn start input before after stored
  pub counted : lines ≡ runs.lines + 1
  pub refused : runs.refusal ≡ refusal
  pub text : refused_text runs.line refusal ≡ refused_text line refusal

-- all lines were handled, or those up to a refused one
abbrev pub Stops : (List ℕ → Act Workspace) → Bool → Workspace → List ℕ → Option Refusal → Workspace → List ℕ → Option (List ℕ) → Option (List ℕ) → ℕ → ℕ
    → Type 0
Stops StepIn strict start input None now line before after lines replied = Going StepIn strict start input [] now before after lines replied
Stops StepIn strict start input (Some refusal) now line before after lines replied =
    IsTrue strict × StopsRefused StepIn start input refusal now.stored line before after lines

-- no more could be read
abbrev pub StopsUnread : (List ℕ → Act Workspace) → Bool → Workspace → List ℕ → Option (List ℕ) → Option (List ℕ) → Option (List ℕ) → StoreParts → Type 0
StopsUnread StepIn strict start input reader before after stored = (runs : RunsToUnread StepIn start input reader before after stored)
    × (IsTrue strict → AreAccepted runs.progress.replies)

-- a reply could not be written
abbrev pub StopsUnwritten : (List ℕ → Act Workspace) → Bool → Workspace → List ℕ → Option (List ℕ) → Option (List ℕ) → StoreParts → Type 0
StopsUnwritten StepIn strict start input before after stored = (runs : RunsToWrite StepIn start input before after stored)
    × (IsTrue strict → AreAccepted runs.progress.replies)

-- a reply could not be written, or not be shown
abbrev pub StopsInWrite : (List ℕ → Act Workspace) → Bool → Workspace → List ℕ → Option (List ℕ) → Option (List ℕ) → Option (List ℕ) → StoreParts → Type 0
StopsInWrite StepIn strict start input reader before after stored = StopsUnread StepIn strict start input reader before after stored
    ⊎ StopsUnwritten StepIn strict start input before after stored

-- ---- how runs end
-- why a run ends that has handled all lines, where these documents are open, and what is told then
abbrev pub EndsOver : End → Bool → List OpenDocument → Option (List Told) → Option (List Told) → Type 0
EndsOver end.Input strict documents old new = (IsTrue strict → AreClean documents) × Tells old new []
EndsOver end.Refused strict documents old new = ⊥
EndsOver end.Unsaved strict documents old new = IsTrue strict × (AreClean documents → ⊥) × Tells old new (unsaved_told documents)

-- all lines were handled; in a strict run none was refused, and each document is clean
pub record EndsAll (StepIn : List ℕ → Act Workspace) (strict : Bool) (start : Workspace) (input : List ℕ) (before after : Option (List ℕ))
    (stored : StoreParts) (lines replied : ℕ) : Type 0 where
  pub runs : RunsAll StepIn start input before after stored lines replied
  pub accepted : IsTrue strict → AreAccepted runs.progress.replies
  pub clean : IsTrue strict → AreClean runs.now.group.documents

-- what is known of a run by why it ends
abbrev pub EndsAs : (List ℕ → Act Workspace) → End → Bool → Workspace → List ℕ → Option (List ℕ) → Option (List ℕ) → StoreParts → ℕ → ℕ
    → Option (List Told) → Option (List Told) → Type 0
EndsAs StepIn end.Input strict start input before after stored lines replied old new = EndsAll StepIn strict start input before after stored lines replied
EndsAs StepIn end.Refused strict start input before after stored lines replied old new =
    IsTrue strict × TellsRefused StepIn start input before after stored old new
EndsAs StepIn end.Unsaved strict start input before after stored lines replied old new =
    IsTrue strict × TellsUnsaved StepIn start input before after stored old new

-- what is told by why a run ends
abbrev pub TellsEnd : End → Option (List Told) → Option (List Told) → Type 0
TellsEnd end.Input old new = Tells old new []
TellsEnd end.Refused old new = TellsOneLine old new
TellsEnd end.Unsaved old new = TellsDocuments old new

-- what is known of a run that a write fault ends
abbrev pub EndsInWrite : (List ℕ → Act Workspace) → Bool → Workspace → List ℕ → Option (List ℕ) → Option (List ℕ) → Option (List ℕ) → StoreParts → Type 0
EndsInWrite StepIn strict start input reader before after stored = StopsInWrite StepIn strict start input reader before after stored
    ⊎ IsTrue strict × RunsToRefused StepIn start input before after stored
