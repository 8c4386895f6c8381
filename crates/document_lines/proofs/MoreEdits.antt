-- Planned edits of the lines for all edits.
use Rattle.std.proofs.Common.{◌≡◌, Result, Ok, Err, Bool, inl, inr, refl, sym, ap, ◌∙◌, subst}
use Rattle.std.specs.Prelude.{IfOk, IfErr, IsOkAnd, MatchResult}
use Rattle.map_model.specs.Document.{DocumentParts}
use Rattle.refusals.specs.declared.edit_fault.EditFault.{EditFault}
use Rattle.refusals.specs.declared.edit_fault.EditFault.TheVariants.{NoMemory}
use Rattle.refusals.specs.declared.more_fault.MoreFault.{MoreFault}
use Rattle.refusals.specs.declared.more_fault.MoreFault.TheVariants as faults
use Rattle.refusals.specs.declared.refusal.Refusal.TheVariants as refusals
use Rattle.refusals.specs.Layers.{refusal_of_more}
use Rattle.command_api.specs.Law.{Change}
use Rattle.command_api.specs.Names.{Names}
use Rattle.command_api.specs.Making.{Makes}
use Rattle.member_commands.specs.Edits.{IsMoreRefusalOf}
use Rattle.undo_stack.specs.History.{step_named}
use Rattle.document_lines.specs.declared.planned.Edit.{Edit}
use Rattle.document_lines.specs.declared.planned.Planned.{Planned}
use Rattle.document_lines.specs.declared.planned.Planned.TheVariants as planned
use Rattle.document_lines.specs.Acts.{answer_of}
use Rattle.document_lines.specs.GivenEdits.{made}
use Rattle.document_lines.specs.MoreRules.{more_answer_of}
use Rattle.document_lines.specs.Planning.{PlansCommand, PlansEdit, PlansMade, edit_change, more_plan_of, refused}
use Rattle.document_lines.proofs.SameChanges.{same-IsSame}

-- an edit that was refused is planned so
refused-PlansEdit : (names : Names) (d : DocumentParts) (early : MoreFault → Bool) (after : Result DocumentParts MoreFault) (fault : MoreFault)
    → IsMoreRefusalOf early after fault → PlansEdit (more_answer_of names after) d (refused (refusal_of_more fault))
refused-PlansEdit names d early after (faults.Edit NoMemory) r = inl refl
refused-PlansEdit names d early after fault r = inr (refusal_of_more fault, ap (more_answer_of names) r, refl)

no_memory-PlansEdit : (names : Names) (d : DocumentParts) (after : Result DocumentParts MoreFault)
    → PlansEdit (more_answer_of names after) d (refused refusals.NoMemory)
no_memory-PlansEdit names d after = inl refl

-- a command that was made is planned so
command-PlansEdit : (names : Names) (d : DocumentParts) (after : Result DocumentParts MoreFault) (c : Change) (plan : Planned) → Makes names d after c
    → PlansCommand c plan → PlansEdit (more_answer_of names after) d plan
command-PlansEdit names d after c (planned.Push edit) is h =
    let named = ap (λ n. Ok (step_named n ((edit_change edit).redone d))) (h.names ∙ is.names) in
    let done = ap (λ x. Ok (step_named names x)) (h.redone d) in
    (ap (more_answer_of names) is.document ∙ sym (named ∙ done), (h.fits_redo d).0 is.fits)
command-PlansEdit names d after c planned.Quiet is h = subst (PlansEdit (more_answer_of names after) d) (sym h) (no_memory-PlansEdit names d after)
command-PlansEdit names d after c (planned.Reply reply) is h = subst (PlansEdit (more_answer_of names after) d) (sym h) (no_memory-PlansEdit names d after)

-- and so is one that was made or refused
pub made-PlansEdit : {C : Type 0} (change : C → Change) (names : Names) (d : DocumentParts) (early : MoreFault → Bool) (after : Result DocumentParts MoreFault)
    (command : Result C MoreFault) (plan : Planned)
    → IfOk command (λ c. Makes names d after (change c)) → IfErr command (IsMoreRefusalOf early after)
    → PlansMade change command plan → PlansEdit (more_answer_of names after) d plan
made-PlansEdit change names d early after (Ok c) plan is r h = command-PlansEdit names d after (change c) plan is h
made-PlansEdit change names d early after (Err fault) plan is r h =
    subst (PlansEdit (more_answer_of names after) d) (sym h) (refused-PlansEdit names d early after fault r)

-- a command that was made, or refused, and then put into an edit
pub mapped-PlansEdit : {K : Type 0} (wrap : K → Edit) (names : Names) (d : DocumentParts) (early : MoreFault → Bool) (after : Result DocumentParts MoreFault)
    (made : Result K MoreFault) (edit : Result Edit MoreFault)
    → IfOk made (λ k. Makes names d after (edit_change (wrap k))) → IfErr made (IsMoreRefusalOf early after)
    → MatchResult made (λ k. IsOkAnd edit (λ e. e ≡ wrap k)) (λ e. edit ≡ Err e) → PlansEdit (more_answer_of names after) d (more_plan_of edit)
mapped-PlansEdit wrap names d early after (Ok k) (Ok e) is r m =
    command-PlansEdit names d after (edit_change (wrap k)) (planned.Push e) is (same-IsSame (edit_change (wrap k)) (edit_change e) (ap edit_change m))
mapped-PlansEdit wrap names d early after (Ok k) (Err e) is r m = absurd m
mapped-PlansEdit wrap names d early after (Err fault) edit is r m =
    let P : Result Edit MoreFault → Type 0 = λ x. PlansEdit (more_answer_of names after) d (more_plan_of x) in
    subst P (sym m) (refused-PlansEdit names d early after fault r)

-- the answer of an edit that no text of the line refuses
pub edit-answer : (names : Names) (after : Result DocumentParts EditFault) → more_answer_of names (made after) ≡ answer_of names after
edit-answer names (Ok d) = refl
edit-answer names (Err fault) = refl
