-- The step of a line for all edits, which was planned as an edit.
use Rattle.std.proofs.Common.{◌≡◌, List, Bool, Option, Some, None, Result, refl, sym, subst, inl, inr}
use Rattle.fractions.specs.declared.lines.Fractions.{Fractions}
use Rattle.map_model.specs.Document.{DocumentParts}
use Rattle.map_store.specs.Files.{StoreParts}
use Rattle.command_api.specs.Law.{Change, IsSame}
use Rattle.undo_stack.specs.History.{History, Step, current}
use Rattle.undo_stack.specs.Pushing.{step_of}
use Rattle.refusals.specs.declared.refusal.Refusal.{Refusal}
use Rattle.refusals.specs.declared.refusal.Refusal.TheVariants.{NoActiveDocument, NoMemory}
use Rattle.session.specs.declared.more_line.MoreLine.{MoreLine}
use Rattle.session.specs.declared.reply.Reply.{Reply}
use Rattle.session.specs.declared.reply.Reply.TheVariants.{Refused}
use Rattle.document_lines.specs.declared.planned.Edit.{Edit}
use Rattle.document_lines.specs.declared.planned.Planned.{Planned}
use Rattle.document_lines.specs.declared.planned.Planned.TheVariants as planned
use Rattle.document_lines.specs.Acts.{OrNoMemory, Pushes, WithActive}
use Rattle.document_lines.specs.Kinds.{EditsKinds, PushesKind}
use Rattle.document_lines.specs.Machine.{Machine, active_of, workspace}
use Rattle.document_lines.specs.MoreRules.{MoreStep, answer_of_more}
use Rattle.document_lines.specs.Planning.{PlansEdit, edit_change}
use Rattle.editor.specs.Kinds.{ActiveKinds, CommitKinds, Kinds}
use Rattle.editor.specs.MoreKinds.{MoreStepKinds}
use Rattle.editor.specs.MorePlanning.{PlansMoreIn}
use Rattle.editor.specs.Planning.{Commits, FitsPlan}
use Rattle.editor.proofs.Committing.{committed-WithActive, step_of-same}
use Rattle.editor.proofs.KindLists.{weaker-ActiveKinds, weaker-UnlessRefused}

-- ---- plans
-- a planned edit fits
edit-FitsPlan : (answer : Result Step Refusal) (h : History) (m : Machine) (plan : Planned) → active_of m ≡ Some h → PlansEdit answer (current h) plan
    → FitsPlan m plan
edit-FitsPlan answer h m planned.Quiet at p = absurd p
edit-FitsPlan answer h m (planned.Reply reply) at p = tt
edit-FitsPlan answer h m (planned.Push edit) at p = rw at p.1

pub more-FitsPlan : (fractions : Fractions) (line : MoreLine) (h : History) (m : Machine) (plan : Planned) → active_of m ≡ Some h
    → PlansEdit (answer_of_more fractions line (current h)) (current h) plan → FitsPlan m plan
more-FitsPlan fractions line h m plan at p = edit-FitsPlan (answer_of_more fractions line (current h)) h m plan at p

-- a plan always replies, or is an edit
pub more_quiet : (fractions : Fractions) (line : MoreLine) (active : Option History) → PlansMoreIn fractions line active planned.Quiet → ⊥
more_quiet fractions line None p = absurd cc
more_quiet fractions line (Some h) p = p

-- one with a reply is refused
pub replied-refusal : (fractions : Fractions) (line : MoreLine) (active : Option History) (reply : Reply)
    → PlansMoreIn fractions line active (planned.Reply reply) → (refusal : Refusal) × (reply ≡ Refused refusal)
replied-refusal fractions line None reply p = (NoActiveDocument, cc p)
replied-refusal fractions line (Some h) reply (inl e) = (NoMemory, e)
replied-refusal fractions line (Some h) reply (inr p) = (p.0, p.2)

-- ---- steps
-- a refusal
refused-WithActive : (answer : DocumentParts → Result Step Refusal) (h : History) (old : Machine) (reply : Reply)
    → PlansEdit (answer (current h)) (current h) (planned.Reply reply)
    → WithActive (OrNoMemory (λ k. Pushes (answer (current k)) k)) (Some h) old (Some reply) old
refused-WithActive answer h old reply (inl e) = rw e (h, inr (refl, refl), refl)
refused-WithActive answer h old reply (inr p) = rw p.2 (h, inl (rw p.1 (refl, refl)), refl)

refused_by : (fractions : Fractions) (line : MoreLine) (active : Option History) (old : Machine) (stored : StoreParts) (reply : Reply)
    → active_of old ≡ active → PlansMoreIn fractions line active (planned.Reply reply)
    → MoreStep fractions line (workspace old stored) (Some reply) (workspace old stored)
refused_by fractions line None old stored reply at p =
    let is : reply ≡ Refused NoActiveDocument = cc p in
    rw (at, is) ((refl, refl), refl)
refused_by fractions line (Some h) old stored reply at p = rw at (refused-WithActive (answer_of_more fractions line) h old reply p, refl)

pub more_refused : (fractions : Fractions) (line : MoreLine) (old new : Machine) (stored : StoreParts) (reply : Reply) → new ≡ old
    → PlansMoreIn fractions line (active_of old) (planned.Reply reply)
    → MoreStep fractions line (workspace old stored) (Some reply) (workspace new stored)
more_refused fractions line old new stored reply left p =
    let Q : Machine → Type 0 = λ m. MoreStep fractions line (workspace old stored) (Some reply) (workspace m stored) in
    subst Q (sym left) (refused_by fractions line (active_of old) old stored reply refl p)

-- an edit for which there was no memory
unput_by : (fractions : Fractions) (line : MoreLine) (active : Option History) (old : Machine) (stored : StoreParts) (edit : Edit)
    → active_of old ≡ active → PlansMoreIn fractions line active (planned.Push edit)
    → MoreStep fractions line (workspace old stored) (Some (Refused NoMemory)) (workspace old stored)
unput_by fractions line None old stored edit at p = absurd cc
unput_by fractions line (Some h) old stored edit at p = rw at ((h, inr (refl, refl), refl), refl)

pub more_uncommitted : (fractions : Fractions) (line : MoreLine) (old new : Machine) (stored : StoreParts) (edit : Edit) → new ≡ old
    → PlansMoreIn fractions line (active_of old) (planned.Push edit)
    → MoreStep fractions line (workspace old stored) (Some (Refused NoMemory)) (workspace new stored)
more_uncommitted fractions line old new stored edit left p =
    let Q : Machine → Type 0 = λ m. MoreStep fractions line (workspace old stored) (Some (Refused NoMemory)) (workspace m stored) in
    subst Q (sym left) (unput_by fractions line (active_of old) old stored edit refl p)

-- an edit that was committed, where the command w that it was put into does the same
commit_by : (fractions : Fractions) (line : MoreLine) (active : Option History) (old new : Machine) (stored : StoreParts) (edit : Edit) (w : Change)
    (reply : Reply) → active_of old ≡ active → PlansMoreIn fractions line active (planned.Push edit) → IsSame (edit_change edit) w → Commits active w reply old new
    → MoreStep fractions line (workspace old stored) (Some reply) (workspace new stored)
commit_by fractions line None old new stored edit w reply at p same done = absurd done
commit_by fractions line (Some h) old new stored edit w reply at p same done =
    rw at (committed-WithActive (answer_of_more fractions line) h old new (edit_change edit) w reply p.0 same done, refl)

pub more_commit_step : (fractions : Fractions) (line : MoreLine) (old mid new : Machine) (stored : StoreParts) (edit : Edit) (w : Change) (reply : Reply)
    → mid ≡ old → PlansMoreIn fractions line (active_of old) (planned.Push edit) → IsSame (edit_change edit) w → Commits (active_of mid) w reply mid new
    → MoreStep fractions line (workspace old stored) (Some reply) (workspace new stored)
more_commit_step fractions line old mid new stored edit w reply kept p same done =
    let P : Machine → Type 0 = λ m. Commits (active_of m) w reply m new in
    commit_by fractions line (active_of old) old new stored edit w reply refl p same (subst P kept done)

-- ---- which steps are macros
pub more_refused_kinds : (fractions : Fractions) (line : MoreLine) (old new : Machine) (reply : Reply) (os ns : List Kinds)
    → PlansMoreIn fractions line (active_of old) (planned.Reply reply) → ns ≡ os → MoreStepKinds fractions line old (Some reply) new os ns
more_refused_kinds fractions line old new reply os ns p still =
    let refused = replied-refusal fractions line (active_of old) reply p in
    let Q : Reply → Type 0 = λ r. MoreStepKinds fractions line old (Some r) new os ns in
    subst Q (sym refused.1) still

committed : (fractions : Fractions) (line : MoreLine) (old new : Machine) (edit : Edit) (w : Change) (reply : Reply) (os ns : List Kinds)
    → PlansMoreIn fractions line (active_of old) (planned.Push edit) → IsSame (edit_change edit) w → CommitKinds w old reply new os ns
    → MoreStepKinds fractions line old (Some reply) new os ns
committed fractions line old new edit w reply os ns p same k =
    let P : History → History → List Bool → List Bool → Type 0 = λ h n xs ys. PushesKind h (step_of w (current h)) n xs ys in
    let Q : History → History → List Bool → List Bool → Type 0 = λ h n xs ys. EditsKinds (answer_of_more fractions line (current h)) h n xs ys in
    weaker-UnlessRefused reply (ActiveKinds P old.group.active (active_of old) (active_of new))
    (ActiveKinds Q old.group.active (active_of old) (active_of new)) os ns
    (weaker-ActiveKinds P Q old.group.active (active_of old) (active_of new) os ns pushed) k
  where
    pushed : (h n : History) (xs ys : List Bool) → active_of old ≡ Some h → PushesKind h (step_of w (current h)) n xs ys
        → EditsKinds (answer_of_more fractions line (current h)) h n xs ys
    pushed h n xs ys at pushes =
        let E : Option History → Type 0 = λ o. PlansMoreIn fractions line o (planned.Push edit) in
        let R : Result Step Refusal → Type 0 = λ a. EditsKinds a h n xs ys in
        let S : Step → Type 0 = λ s. PushesKind h s n xs ys in
        let planned = subst E at p in
        subst R (sym planned.0) (subst S (step_of-same (edit_change edit) w (current h) same) pushes)

pub more_commit_kinds : (fractions : Fractions) (line : MoreLine) (old mid new : Machine) (edit : Edit) (w : Change) (reply : Reply) (os ms ns : List Kinds)
    → mid ≡ old → ms ≡ os → PlansMoreIn fractions line (active_of old) (planned.Push edit) → IsSame (edit_change edit) w → CommitKinds w mid reply new ms ns
    → MoreStepKinds fractions line old (Some reply) new os ns
more_commit_kinds fractions line old mid new edit w reply os ms ns kept still p same k =
    let P : Machine → Type 0 = λ m. CommitKinds w m reply new ms ns in
    let Q : List Kinds → Type 0 = λ ks. CommitKinds w old reply new ks ns in
    committed fractions line old new edit w reply os ns p same (subst Q still (subst P kept k))
