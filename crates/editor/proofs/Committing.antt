-- The step of a line that was planned as an edit.
use Rattle.std.proofs.Common.{◌≡◌, Option, Some, None, Result, Ok, refl, sym, subst, inl, inr}
use Rattle.map_model.specs.Document.{DocumentParts}
use Rattle.map_store.specs.Files.{StoreParts}
use Rattle.command_api.specs.Law.{Change, IsSame}
use Rattle.undo_stack.specs.History as histories
use Rattle.undo_stack.specs.History.{History, current}
use Rattle.undo_stack.specs.Pushing.{IsPushed, step_of}
use Rattle.session.specs.declared.line.Line.{Line}
use Rattle.refusals.specs.declared.refusal.Refusal.{Refusal}
use Rattle.refusals.specs.declared.refusal.Refusal.TheVariants.{NoMemory}
use Rattle.session.specs.declared.reply.Reply.{Reply}
use Rattle.session.specs.declared.reply.Reply.TheVariants.{Refused}
use Rattle.document_lines.specs.Acts.{OrNoMemory, Pushes, WithActive, answer_of}
use Rattle.document_lines.specs.Answers.{state_reply}
use Rattle.document_lines.specs.Machine.{Machine, active_of, with_active, workspace}
use Rattle.document_lines.specs.Rules.{Allows, Edits, OnActive, OnDocuments, OnFiles, Rule, MachineStep, rule_of}
use Rattle.editor.specs.Planning.{Commits, IsEditOf}

-- commands that do the same make the same step
pub step_of-same : (c w : Change) (d : DocumentParts) → IsSame c w → step_of w d ≡ step_of c d
step_of-same c w d same = rw (same.names, same.redone d) refl

-- an edit with this answer that was committed, where the command that it was put into does the same
pub committed-WithActive : (answer : DocumentParts → Result histories.Step Refusal) (h : History) (old new : Machine) (c w : Change) (reply : Reply)
    → answer (current h) ≡ Ok (step_of c (current h)) → IsSame c w → Commits (Some h) w reply old new
    → WithActive (OrNoMemory (λ k. Pushes (answer (current k)) k)) (Some h) old (Some reply) new
committed-WithActive answer h old new c w reply asks same (inl p) =
    let Q : histories.Step → Type 0 = λ s. IsPushed h s p.0 in
    let P : Result histories.Step Refusal → Type 0 = λ a. Pushes a h (Some (state_reply p.0)) p.0 in
    rw p.2 (p.0, inl (subst P (sym asks) (subst Q (step_of-same c w (current h) same) p.1, refl)), p.3)
committed-WithActive answer h old new c w reply asks same (inr p) =
    let Q : Option Reply → Type 0 = λ r. WithActive (OrNoMemory (λ k. Pushes (answer (current k)) k)) (Some h) old r new in
    subst Q (sym p.0) (rw p.1 (h, inr (refl, refl), refl))

commit_by : (rule : Rule) (active : Option History) (old new : Machine) (stored : StoreParts) (c w : Change) (reply : Reply) → active_of old ≡ active
    → IsEditOf rule active c → IsSame c w → Commits active w reply old new → Allows rule (workspace old stored) (Some reply) (workspace new stored)
commit_by (OnFiles act) active old new stored c w reply e asks same p = absurd asks
commit_by (OnDocuments act) active old new stored c w reply e asks same p = absurd asks
commit_by (OnActive act) active old new stored c w reply e asks same p = absurd asks
commit_by (Edits names edit) None old new stored c w reply e asks same p = absurd p
commit_by (Edits names edit) (Some h) old new stored c w reply e asks same p =
    rw e (committed-WithActive (λ d. answer_of names (edit d)) h old new c w reply asks same p, refl)

-- a command that was pushed
pub Commits-pushed : (c : Change) (h n : History) (old new : Machine) (reply : Reply) → active_of old ≡ Some h → IsPushed h (step_of c (current h)) n
    → reply ≡ state_reply n → new ≡ with_active n old
    → Commits (active_of old) c reply old new
Commits-pushed c h n old new reply e pushed is left =
    let Q : Option History → Type 0 = λ o. Commits o c reply old new in
    subst Q (sym e) (inl (n, pushed, is, left))

-- one for which there was no memory
pub Commits-refused : (c : Change) (h : History) (old new : Machine) → active_of old ≡ Some h → new ≡ old → Commits (active_of old) c (Refused NoMemory) old new
Commits-refused c h old new e left =
    let Q : Option History → Type 0 = λ o. Commits o c (Refused NoMemory) old new in
    subst Q (sym e) (inr (refl, left))

pub commit_step : (line : Line) (old new : Machine) (stored : StoreParts) (c w : Change) (reply : Reply) → IsEditOf (rule_of line) (active_of old) c
    → IsSame c w → Commits (active_of old) w reply old new
    → MachineStep line (workspace old stored) (Some reply) (workspace new stored)
commit_step line old new stored c w reply asks same p = commit_by (rule_of line) (active_of old) old new stored c w reply refl asks same p

-- an edit for which there was no memory
no_memory : (rule : Rule) (active : Option History) (old : Machine) (stored : StoreParts) (c : Change) → active_of old ≡ active → IsEditOf rule active c
    → Allows rule (workspace old stored) (Some (Refused NoMemory)) (workspace old stored)
no_memory (OnFiles act) active old stored c e asks = absurd asks
no_memory (OnDocuments act) active old stored c e asks = absurd asks
no_memory (OnActive act) active old stored c e asks = absurd asks
no_memory (Edits names edit) None old stored c e asks = absurd asks
no_memory (Edits names edit) (Some h) old stored c e asks = rw e ((h, inr (refl, refl), refl), refl)

pub uncommitted : (line : Line) (old : Machine) (stored : StoreParts) (c : Change) → IsEditOf (rule_of line) (active_of old) c
    → MachineStep line (workspace old stored) (Some (Refused NoMemory)) (workspace old stored)
uncommitted line old stored c asks = no_memory (rule_of line) (active_of old) old stored c refl asks
