-- From what a line does with the active history to what it does with the machine.
use Rattle.std.proofs.Common.{◌≡◌, ℕ, Option, Some, Result, refl, sym, ap, ◌∙◌, subst, inl, inr}
use Rattle.map_store.specs.Files.{StoreParts}
use Rattle.undo_stack.specs.History.{History, Step, current}
use Rattle.undo_group.specs.Groups.{GroupParts, IsGroup}
use Rattle.undo_group.specs.Groups as groups
use Rattle.undo_group.proofs.Documents.{with_active-same}
use Rattle.refusals.specs.declared.refusal.Refusal.{Refusal}
use Rattle.session.specs.declared.reply.Reply.{Reply}
use Rattle.session.specs.declared.reply.Reply.TheVariants.{Refused}
use Rattle.document_lines.specs.declared.planned.Edit.{Edit}
use Rattle.document_lines.specs.declared.planned.Planned.{Planned}
use Rattle.document_lines.specs.declared.planned.Planned.TheVariants as planned
use Rattle.document_lines.specs.Acts.{Act, FileAct, IfActive, OfActive, OrNoMemory, Pushes, WithActive, answer_of, moved_to}
use Rattle.document_lines.specs.Machine.{Machine, active_of, with_active, workspace}
use Rattle.document_lines.specs.Planning.{KeepsReply, PlansEdit, PlansOn, edit_change}
use Rattle.document_lines.specs.Rules.{Allows, Edits, OnActive, OnDocuments, OnFiles, Rule}
use Rattle.editor.specs.Planning.{FitsActive, FitsPlan, IsEditOf, KeepsPlan, PlansBy}

-- a machine with this group
abbrev pub machine_at : ℕ → GroupParts → Machine
machine_at limit group = record { limit = limit; group = group }

-- with the history that is there, the machine is as it was
pub with_active-unchanged : (h n : History) (old : Machine) → IsGroup old.group → active_of old ≡ Some h → n ≡ h → with_active n old ≡ old
with_active-unchanged h n old w e k =
    ap (machine_at old.limit) (ap (λ x. groups.with_active x old.group) k ∙ with_active-same h old.group w e)

pub with_active-moved_to : (reply : Reply) (h n : History) (old : Machine) → IsGroup old.group → active_of old ≡ Some h → KeepsReply reply h n
    → with_active n old ≡ moved_to (Some reply) n old
with_active-moved_to (Refused refusal) h n old w e k = with_active-unchanged h n old w e k
with_active-moved_to reply h n old w e k = refl

-- what was done with the active history was done with the machine
with_active-done : (act : Act History) (h n : History) (reply : Reply) (old : Machine) → IsGroup old.group → active_of old ≡ Some h → act h (Some reply) n
    → KeepsReply reply h n
    → WithActive act (active_of old) old (Some reply) (with_active n old)
with_active-done act h n reply old w e p k =
    let Q : Option History → Type 0 = λ o. WithActive act o old (Some reply) (with_active n old) in
    subst Q (sym e) (n, p, with_active-moved_to reply h n old w e k)

-- ---- plans
-- an edit that is refused was done so
refused_edit : (answer : Result Step Refusal) (h : History) (reply : Reply) → PlansEdit answer (current h) (planned.Reply reply)
    → OrNoMemory (Pushes answer) h (Some reply) h × KeepsReply reply h h
refused_edit answer h reply (inl e) = rw e (inr (refl, refl), refl)
refused_edit answer h reply (inr p) = rw (p.1, p.2) (inl (refl, refl), refl)

-- a refusal has left the history as it was
replied-unchanged : (rule : Rule) (h n : History) (reply : Reply) → PlansOn rule h (planned.Reply reply) n → KeepsReply reply h n
replied-unchanged (OnFiles act) h n reply p = absurd p
replied-unchanged (OnDocuments act) h n reply p = absurd p
replied-unchanged (OnActive act) h n reply p = p.1
replied-unchanged (Edits names edit) h n reply p =
    let R : History → Type 0 = λ k. KeepsReply reply h k in
    subst R (sym p.1) (refused_edit (answer_of names (edit (current h))) h reply p.0).1

-- what a plan says of the active document, it says of the machine
module _ (h n : History) (old : Machine) (whole : IsGroup old.group) (active : active_of old ≡ Some h) where
  replied : (rule : Rule) (reply : Reply) (stored : StoreParts) → PlansOn rule h (planned.Reply reply) n
      → Allows rule (workspace old stored) (Some reply) (workspace (with_active n old) stored)
  replied (OnFiles act) reply stored p = absurd p
  replied (OnDocuments act) reply stored p = absurd p
  replied (OnActive act) reply stored p = (with_active-done act h n reply old whole active p.0 p.1, refl)
  replied (Edits names edit) reply stored p =
      let act : Act History = OrNoMemory (λ k. Pushes (answer_of names (edit (current k))) k) in
      let R : History → Type 0 = λ k. act h (Some reply) k in
      let done = refused_edit (answer_of names (edit (current h))) h reply p.0 in
      (with_active-done act h n reply old whole active (subst R (sym p.1) done.0) (replied-unchanged (Edits names edit) h n reply p), refl)

  pushed : (rule : Rule) (e : Edit) → PlansOn rule h (planned.Push e) n
      → (n ≡ h) × IsEditOf rule (Some h) (edit_change e) × (edit_change e).fits_redo (current h)
  pushed (OnFiles act) e p = absurd p
  pushed (OnDocuments act) e p = absurd p
  pushed (OnActive act) e p = absurd p
  pushed (Edits names edit) e p = (p.1, p.0.0, p.0.1)

  quiet : (rule : Rule) → PlansOn rule h planned.Quiet n → ⊥
  quiet (OnFiles act) p = p
  quiet (OnDocuments act) p = p
  quiet (OnActive act) p = p
  quiet (Edits names edit) p = p.0

  pub on-PlansBy : (rule : Rule) (plan : Planned) (stored : StoreParts) → PlansOn rule h plan n
      → PlansBy rule (workspace old stored) plan (workspace (with_active n old) stored)
  on-PlansBy rule planned.Quiet stored p = absurd (quiet rule p)
  on-PlansBy rule (planned.Reply reply) stored p = replied rule reply stored p
  on-PlansBy rule (planned.Push e) stored p =
      let is = pushed rule e p in
      let Q : Option History → Type 0 = λ o. IsEditOf rule o (edit_change e) in
      (ap (λ m. workspace m stored) (with_active-unchanged h n old whole active is.0), subst Q (sym active) is.1)

  pub on-KeepsReply : (reply : Reply) → KeepsReply reply h n → KeepsReply reply old (with_active n old)
  on-KeepsReply (Refused refusal) k = with_active-unchanged h n old whole active k
  on-KeepsReply reply k = tt

  pub on-KeepsPlan : (rule : Rule) (plan : Planned) → PlansOn rule h plan n → KeepsPlan plan old (with_active n old)
  on-KeepsPlan rule planned.Quiet p = absurd (quiet rule p)
  on-KeepsPlan rule (planned.Reply reply) p = on-KeepsReply reply (replied-unchanged rule h n reply p)
  on-KeepsPlan rule (planned.Push e) p = with_active-unchanged h n old whole active (pushed rule e p).0

  pub on-FitsPlan : (rule : Rule) (plan : Planned) → PlansOn rule h plan n → FitsPlan (with_active n old) plan
  on-FitsPlan rule planned.Quiet p = tt
  on-FitsPlan rule (planned.Reply reply) p = tt
  on-FitsPlan rule (planned.Push e) p =
      let is = pushed rule e p in
      let Q : Machine → Type 0 = λ m. FitsActive (active_of m) (edit_change e) in
      let R : Option History → Type 0 = λ o. FitsActive o (edit_change e) in
      subst Q (sym (with_active-unchanged h n old whole active is.0)) (subst R (sym active) is.2)

-- a document was saved, or not
pub saves : (act : FileAct History) (h n : History) (reply : Reply) (old new : Machine) (before after : StoreParts) → IsGroup old.group → active_of old ≡ Some h
    → act before after h (Some reply) n
    → KeepsReply reply h n → new ≡ with_active n old → OfActive act before after old (Some reply) new
saves act h n reply old new before after w e p k left =
    let Q : Option History → Type 0 = λ o. IfActive act o before after old (Some reply) new in
    subst Q (sym e) (n, p, left ∙ with_active-moved_to reply h n old w e k)
