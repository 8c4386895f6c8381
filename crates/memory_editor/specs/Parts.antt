-- An editor in memory, as contracts see it.
use Rattle.std.specs.Prelude.{◌≡◌, ℕ, List, [], Bool, true, false, Option, None, Some, is_some, slice_get}
use Rattle.std.specs.Ordering.{nat_cmp}
use Rattle.std.specs.Cmp.Lexicographic.{slice_cmp}
use Rattle.std.specs.FinMap.{code, empty}
use Rattle.std.specs.Option.{option_map}
use Rattle.std.specs.Coded.{Coded, coded_ℕ, coded_list}
use Rattle.region.specs.Cells.{set_of}
use Rattle.region.specs.Runs.{IsMaximalRuns}
use Rattle.region.specs.declared.runs.Run.{Run}
use Rattle.undo_stack.specs.History.{History, current}
use Rattle.map_model.specs.declared.parts.MapParts.{MapParts}
use Rattle.undo_stack.specs.Reading.{action_at, text_at}
use Rattle.session.specs.declared.reply.Reply.{Reply}
use Rattle.document_lines.specs.Machine.{Machine, Workspace, active_of, started_machine, workspace}
use Rattle.document_lines.specs.MoreRules.{MachineStepFor}
use Rattle.document_lines.specs.declared.dialect.Dialect.{Dialect}
use Rattle.editor.specs.Kinds.{Kinds, macros_at}
use Rattle.editor.specs.MoreKinds.{StepKindsFor}
use Rattle.map_store.specs.Files.{Files}

-- how files are coded
abbrev pub files_code : Coded Files
files_code = code {R = slice_cmp nat_cmp} (coded_list coded_ℕ) (coded_list coded_ℕ)

-- which lines are read, the machine, of each step of each document whether it is a macro, the files, and the reply to the last line, where it had one
pub record MemoryEditorParts : Type 0 where
  pub dialect : Dialect
  pub machine : Machine
  pub kinds : List Kinds
  pub files : Files
  pub reply : Option Reply

-- an editor with no documents and no files, which reads the lines of a dialect; the limit is the undo limit of each document when it is made
abbrev pub started_editor : Dialect → ℕ → MemoryEditorParts
started_editor dialect limit = record { dialect = dialect; machine = started_machine limit; kinds = []; files = empty; reply = None }

-- the machine over these files, which are stored in memory: no call of their store fails, and each does what it says
abbrev pub workspace_of : MemoryEditorParts → Workspace
workspace_of s = workspace s.machine (record { files = s.files; failures = 0; honest = true })

-- a line leads on: the machine and the files do its step, with the reply to it, and it says which steps are macros then; the same lines are read
pub record StepsTo (line : List ℕ) (old new : MemoryEditorParts) : Type 0 where
  pub step : MachineStepFor old.dialect line (workspace_of old) new.reply (workspace_of new)
  pub kinds : StepKindsFor old.dialect line old.machine new.reply new.machine old.kinds new.kinds
  pub same : new.dialect ≡ old.dialect

-- ---- of the active document, where there is one
-- its map
abbrev pub active_map : Machine → Option MapParts
active_map m = option_map (λ (h : History). (current h).map) (active_of m)

-- the position at which it counts as clean
abbrev pub clean_index_of : Option History → Option ℕ
clean_index_of None = None
clean_index_of (Some h) = h.clean

-- whether it has a step with that number
abbrev pub has_step : Option History → ℕ → Bool
has_step None at = false
has_step (Some h) at = is_some (text_at h at)

-- the text of its step with that number, as lists of steps show it
abbrev pub step_text_of : Option History → ℕ → Option (List ℕ)
step_text_of None at = None
step_text_of (Some h) at = text_at h at

-- the action text of its step with that number
abbrev pub action_text_of : Option History → ℕ → Option (List ℕ)
action_text_of None at = None
action_text_of (Some h) at = action_at h at

-- the runs of its selection, in row order
abbrev pub AreRunsOf : Option History → List Run → Type 0
AreRunsOf None runs = runs ≡ []
AreRunsOf (Some h) runs = IsMaximalRuns runs × (set_of runs ≡ (current h).selection)

-- whether its step with that number is a macro
abbrev pub is_macro_at : ℕ → MemoryEditorParts → Option Bool
is_macro_at at s = slice_get (macros_at s.machine.group.active s.kinds) at
