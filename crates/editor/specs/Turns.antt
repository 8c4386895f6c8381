-- What a line may do where steps may be those of free commands: an undo, a redo or a goto may drop such a step.
use Rattle.std.specs.Prelude.{◌≡◌, Some}
use Rattle.command_api.specs.Law.{Change}
use Rattle.undo_stack.specs.Stacks.{history, nestings, Holds, IsReported}
use Rattle.undo_stack.specs.declared.stack.Stack.{Stack}
use Rattle.undo_group.specs.Stacks.{stack_at, IsReplacedAt}
use Rattle.session.specs.declared.line.Line.{Line}
use Rattle.session.specs.declared.reply.Reply.{Reply}
use Rattle.session.specs.declared.reply.Reply.TheVariants.{Refused}
use Rattle.document_lines.specs.Machine.{Workspace, active_of, with_active}
use Rattle.document_lines.specs.Turns.{turning_rule_of}
use Rattle.document_lines.specs.declared.planned.Planned.{Planned}
use Rattle.editor.specs.Editors.{machine_of, stacks_in}
use Rattle.editor.specs.Planning.{PlansBy}
use Rattle.editor.specs.declared.editor.Editor.{Editor}

-- what a plan says of such a line
abbrev pub PlansTurns : Line → Workspace → Planned → Workspace → Type 0
PlansTurns line old plan new = PlansBy (turning_rule_of line) old plan new

-- the editor old has s as its active stack, and the editor new has t in its place, and all else is as it was
pub record PutsActive {C : Type 0} (f : C → Change) (old new : Editor C) (s t : Stack C) : Type 0 where
  pub before : Holds f s
  pub active : active_of (machine_of f old) ≡ Some (history f s)
  pub was : stack_at (machine_of f old).group.active (stacks_in old) ≡ Some s
  pub after : Holds f t
  pub left : machine_of f new ≡ with_active (history f t) (machine_of f old)
  pub is : IsReplacedAt (machine_of f old).group.active (stacks_in old) t (stacks_in new)

-- pushing the command x onto the active stack s left it as t, and its step is gone exactly where its entry reports that it is
-- obsolete
pub record PushesOnto {C : Type 0} (f : C → Change) (x : C) (old new : Editor C) (s t : Stack C) : Type 0 where
  pub put : PutsActive f old new s t
  pub reported : IsReported f x s t

-- after a push that was refused the active stack has the nestings that it had
pub record KeepsNestings {C : Type 0} (f : C → Change) (old new : Editor C) (s t : Stack C) : Type 0 where
  pub put : PutsActive f old new s t
  pub kept : nestings t ≡ nestings s

-- a push that was not refused is reported so, and one that was keeps the nestings
abbrev pub ReportsPush : {C : Type 0} → (C → Change) → C → Reply → Editor C → Editor C → Type 0
ReportsPush {C} f x (Refused refusal) old new = (s : Stack C) × (t : Stack C) × KeepsNestings f old new s t
ReportsPush {C} f x reply old new = (s : Stack C) × (t : Stack C) × PushesOnto f x old new s t
