-- What planning the bytes of a line says, where commands of a caller's kind are committed.
use Rattle.std.specs.Prelude.{◌≡◌, ℕ, List, Option, None, Some, Result, Ok, Err}
use Rattle.command_api.specs.Law.{Change, IsSame}
use Rattle.refusals.specs.declared.refusal.Refusal.{Refusal}
use Rattle.refusals.specs.declared.refusal.Refusal.TheVariants.{NoMemory}
use Rattle.session.specs.declared.reply.Reply.{Reply}
use Rattle.session.specs.declared.reply.Reply.TheVariants.{Refused}
use Rattle.document_lines.specs.declared.dialect.Dialect.{Dialect}
use Rattle.document_lines.specs.declared.planned.Edit.{Edit}
use Rattle.document_lines.specs.declared.planned.Planned.{Planned}
use Rattle.document_lines.specs.declared.planned.Planned.TheVariants as planned
use Rattle.document_lines.specs.Machine.{Machine, Workspace, active_of, workspace}
use Rattle.document_lines.specs.MoreRules.{MachineStepFor}
use Rattle.document_lines.specs.Planning.{edit_change}
use Rattle.editor.specs.Kinds.{CommitKinds, Kinds}
use Rattle.editor.specs.MoreKinds.{StepKindsFor}
use Rattle.editor.specs.Planning.{Commits}

-- the plan that is an edit, or a refusal
abbrev pub plan_or_refusal : Result Edit Refusal → Planned
plan_or_refusal (Ok edit) = planned.Push edit
plan_or_refusal (Err refusal) = planned.Reply (Refused refusal)

-- ---- steps
-- a command that does what the edit does, once it is committed, has done the step of these bytes
abbrev pub CommitsStep : {C : Type 0} → (C → Change) → Dialect → List ℕ → Workspace → Edit → Type 0
CommitsStep {C} change dialect bytes w edit = (command : C) (reply : Reply) (new : Machine) → IsSame (edit_change edit) (change command)
    → Commits (active_of w.machine) (change command) reply w.machine new → MachineStepFor dialect bytes w (Some reply) (workspace new w.stored)

-- the step of the bytes is done, or it is that of an edit, with nothing changed yet
abbrev pub PlansBytes : {C : Type 0} → (C → Change) → Dialect → List ℕ → Workspace → Planned → Workspace → Type 0
PlansBytes change dialect bytes old planned.Quiet new = MachineStepFor dialect bytes old None new
PlansBytes change dialect bytes old (planned.Reply reply) new = MachineStepFor dialect bytes old (Some reply) new
PlansBytes change dialect bytes old (planned.Push edit) new =
    (new ≡ old) × CommitsStep change dialect bytes old edit × MachineStepFor dialect bytes old (Some (Refused NoMemory)) old

-- ---- which steps are macros
abbrev pub CommitsKinds : {C : Type 0} → (C → Change) → Dialect → List ℕ → Machine → List Kinds → Edit → Type 0
CommitsKinds {C} change dialect bytes m ks edit = (command : C) (reply : Reply) (new : Machine) (ns : List Kinds) → IsSame (edit_change edit) (change command)
    → CommitKinds (change command) m reply new ks ns → StepKindsFor dialect bytes m (Some reply) new ks ns

abbrev pub PlansKinds : {C : Type 0} → (C → Change) → Dialect → List ℕ → Machine → Planned → Machine → List Kinds → List Kinds → Type 0
PlansKinds change dialect bytes m planned.Quiet n old new = StepKindsFor dialect bytes m None n old new
PlansKinds change dialect bytes m (planned.Reply reply) n old new = StepKindsFor dialect bytes m (Some reply) n old new
PlansKinds change dialect bytes m (planned.Push edit) n old new =
    (n ≡ m) × (new ≡ old) × CommitsKinds change dialect bytes m old edit × StepKindsFor dialect bytes m (Some (Refused NoMemory)) m old old
