-- What a line about the active document did with its stack, of the editor: the stack s was lent, and left as t.
use Rattle.std.proofs.Common.{◌≡◌, Some, None, refl, sym, subst}
use Rattle.command_api.specs.Law.{Change}
use Rattle.map_store.specs.Files.{StoreParts}
use Rattle.undo_stack.specs.Stacks.{history, macros, Holds}
use Rattle.undo_stack.specs.Turning.{IsSteady}
use Rattle.undo_stack.specs.declared.stack.Stack.{Stack}
use Rattle.undo_group.specs.Groups.{IsGroup}
use Rattle.undo_group.specs.Lending.{IsLeft}
use Rattle.undo_group.specs.Stacks.{group_of, stack_at}
use Rattle.session.specs.declared.line.Line.{Line}
use Rattle.refusals.specs.declared.refusal.Refusal.TheVariants.{NoActiveDocument}
use Rattle.document_lines.specs.declared.planned.Planned.{Planned}
use Rattle.document_lines.specs.Kinds.{DocumentKinds}
use Rattle.document_lines.specs.Machine.{Machine, active_of, workspace}
use Rattle.document_lines.specs.Planning.{IsOfActive, PlansOn, refused}
use Rattle.document_lines.specs.Rules.{Rule, OnFiles, OnDocuments, OnActive, Edits, rule_of}
use Rattle.document_lines.specs.Turns.{turning_rule_of}
use Rattle.document_lines.proofs.Moving.{steady-PlansOn}
use Rattle.document_lines.proofs.SteadyPlans.{plans-steady}
use Rattle.editor.specs.declared.editor.Editor.{Editor}
use Rattle.editor.specs.Editors.{IsSound, machine_of, stacks_in}
use Rattle.editor.specs.Kinds.{PlanKinds, kinds_in}
use Rattle.editor.specs.Planning.{FitsPlan, KeepsPlan, PlansBy}
use Rattle.editor.proofs.KindLists.{plan_kinds}
use Rattle.editor.proofs.Lent.{active-IsSteady, left-IsSound, left-machine, position-within}
use Rattle.editor.proofs.Lifting.{on-FitsPlan, on-KeepsPlan, on-PlansBy}

module _ {C : Type 0} (f : C → Change) (old new : Editor C) (s t : Stack C) (same : new.limit ≡ old.limit) (left : IsLeft f old.group t new.group)
    (whole : IsGroup (group_of f old.group)) (active : Some (history f s) ≡ active_of (machine_of f old)) (line : Line) (plan : Planned)
    (plans : PlansOn (turning_rule_of line) (history f s) plan (history f t)) where
  by_rule : (rule : Rule) (stored : StoreParts) → PlansOn rule (history f s) plan (history f t)
      → PlansBy rule (workspace (machine_of f old) stored) plan (workspace (machine_of f new) stored)
  by_rule rule stored p =
      let P : Machine → Type 0 = λ m. PlansBy rule (workspace (machine_of f old) stored) plan (workspace m stored) in
      subst P (sym (left-machine f old new t same left))
      (on-PlansBy (history f s) (history f t) (machine_of f old) whole (sym active) rule plan stored p)

  pub line-turns : (stored : StoreParts) → PlansBy (turning_rule_of line) (workspace (machine_of f old) stored) plan (workspace (machine_of f new) stored)
  line-turns stored = by_rule (turning_rule_of line) stored plans

  pub line-unchanged : KeepsPlan plan (machine_of f old) (machine_of f new)
  line-unchanged =
      let P : Machine → Type 0 = λ m. KeepsPlan plan (machine_of f old) m in
      subst P (sym (left-machine f old new t same left))
      (on-KeepsPlan (history f s) (history f t) (machine_of f old) whole (sym active) (turning_rule_of line) plan plans)

  pub line-fits : FitsPlan (machine_of f new) plan
  line-fits =
      let P : Machine → Type 0 = λ m. FitsPlan m plan in
      subst P (sym (left-machine f old new t same left))
      (on-FitsPlan (history f s) (history f t) (machine_of f old) whole (sym active) (turning_rule_of line) plan plans)

  -- ---- where no step is that of a free command
  steady : IsSound f old → IsSteady (history f s)
  steady sound = active-IsSteady f old (history f s) sound active

  steady_plans : Holds f s → IsSound f old → PlansOn (rule_of line) (history f s) plan (history f t)
  steady_plans held sound = steady-PlansOn line (history f s) (history f t) plan (steady sound) (position-within f s held) plans

  pub line-sound : Holds f s → IsSound f old → IsSound f new
  line-sound held sound =
      left-IsSound f old new t same left (plans-steady line (history f s) (history f t) plan (steady sound) (steady_plans held sound)) sound

  pub line-plans : Holds f s → IsSound f old → (stored : StoreParts)
      → PlansBy (rule_of line) (workspace (machine_of f old) stored) plan (workspace (machine_of f new) stored)
  line-plans held sound stored = by_rule (rule_of line) stored (steady_plans held sound)

  pub line-kinds : Holds f s → Some s ≡ stack_at (machine_of f old).group.active (stacks_in old)
      → (IsSteady (history f s) → DocumentKinds line (rule_of line) (history f s) plan (macros s) (macros t)) → IsSound f old
      → PlanKinds line (machine_of f old) plan (machine_of f new) (kinds_in old) (kinds_in new)
  line-kinds held was kinds sound =
      plan_kinds f old new s t same left whole active was line plan (steady_plans held sound) (kinds (steady sound))

-- where no document is active, a line about the active one is refused
pub refused-PlansBy : (rule : Rule) (m : Machine) (stored : StoreParts) → active_of m ≡ None → IsOfActive rule
    → PlansBy rule (workspace m stored) (refused NoActiveDocument) (workspace m stored)
refused-PlansBy (OnFiles act) m stored none about = absurd about
refused-PlansBy (OnDocuments act) m stored none about = absurd about
refused-PlansBy (OnActive act) m stored none about = (rw none (refl, refl), refl)
refused-PlansBy (Edits names edit) m stored none about = (rw none (refl, refl), refl)
