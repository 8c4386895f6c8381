-- An accepted line that is replayed.
use Rattle.std.proofs.Common.{◌≡◌, ℕ, List, length, IsTrue, Option, Some, None, Result, Ok, Err, refl, sym, ap, subst, ◌∙◌, inl, inr, arith}
use Rattle.std.proofs.Common.{rules}
use Rattle.std.specs.Prelude.{⊤, codes}
use Rattle.std.specs.FinMap.{get, insert}
use Rattle.map_store.proofs.Stored.{stored_kept}
use Rattle.map_json.specs.Trees.{text_of}
use Rattle.map_store.specs.Files.{Files, IsCalled, SameOthers, StoreParts}
use Rattle.refusals.specs.declared.line_fault.LineFault.{LineFault}
use Rattle.refusals.specs.declared.refusal.Refusal.{Refusal}
use Rattle.undo_stack.specs.History.{History, current}
use Rattle.undo_stack.specs.Moving.{Answer, MarksClean, clean_answer}
use Rattle.undo_group.specs.Groups.{history_named}
use Rattle.session.specs.declared.line.Line.{Line}
use Rattle.session.specs.declared.line.Line.TheVariants.{Clean, Open, Save}
use Rattle.session.specs.declared.reply.Reply.{Reply}
use Rattle.session.specs.declared.reply.Reply.TheVariants as replies
use Rattle.session.specs.Grammar.{line_of}
use Rattle.session.proofs.Laws.{spelled_is_read}
use Rattle.document_lines.specs.Acts.{Calls, FilesStay, IfActive, IfNewName, IfOutside, Loads, OrNoMemoryForFile, OrStoreFails, OutsideMacros, Reads, Saves}
use Rattle.document_lines.specs.Acts.{WithActive, moved_to}
use Rattle.document_lines.specs.Answers.{state_reply}
use Rattle.document_lines.specs.Machine.{Machine, Workspace, active_of, with_active, workspace}
use Rattle.document_lines.specs.Rules.{Allows, Edits, MachineStep, MachineStepIn, MachineStepOf, OnActive, OnDocuments, OnFiles, Rule, rule_of}
use Rattle.session_run.specs.Runs.{IsAccepted}
use Rattle.session_run.specs.Journals.{Entry, IsReplayedAs, IsNotedAs, having}

refused : {A : Type 0} (reply : Reply) (refusal : Refusal) → IsAccepted reply → Some reply ≡ Some (replies.Refused refusal) → A
refused reply refusal accepted is =
    let same : reply ≡ replies.Refused refusal = cc in
    let none = subst IsAccepted same accepted in
    absurd cc

-- the entry is replayed, and leads to the machine
abbrev pub CanBeReplayed : Machine → Reply → Machine → Entry → Type 0
CanBeReplayed old reply new entry = (replayed : Reply) × (after : StoreParts)
    × MachineStepIn entry.line (workspace old (having entry.files)) (Some replayed) (workspace new after) × IsReplayedAs reply replayed × IsAccepted replayed

-- ---- a line that calls no store
abbrev CallsNoStore : Rule → Type 0
CallsNoStore (OnFiles act) = ⊥
CallsNoStore rule = ⊤

over_other-files : (rule : Rule) (old new : Workspace) (reply : Option Reply) (stored : StoreParts) → CallsNoStore rule → Allows rule old reply new
    → Allows rule (workspace old.machine stored) reply (workspace new.machine stored)
over_other-files (OnFiles act) old new reply stored alone a = absurd alone
over_other-files (OnDocuments act) old new reply stored alone a = (a.0, refl)
over_other-files (OnActive act) old new reply stored alone a = (a.0, refl)
over_other-files (Edits names edit) old new reply stored alone a = (a.0, refl)

replayed-same : (reply : Reply) → IsReplayedAs reply reply
replayed-same (replies.Saved file size) = tt
replayed-same reply = refl

-- ---- a file that was opened
-- what is read of bytes is read of them wherever they are found
abbrev OpensAgain : Line → List ℕ → Workspace → Reply → Machine → Type 0
OpensAgain line file old reply new = (bytes : List ℕ) × (IsTrue old.stored.honest → get old.stored.files file ≡ Some bytes)
    × ((files : Files) → get files file ≡ Some bytes → MachineStep line (workspace old.machine (having files)) (Some reply) (workspace new (having files)))

stays-called : (files : Files) → IsCalled FilesStay (having files) (having files)
stays-called files = record { count = omega arith; honest = λ honest. honest; files = λ honest. refl }

opened-again : (name file : List ℕ) (named : Option History) (before after : StoreParts) (old new : Machine) (reply : Reply) → IsAccepted reply
    → IfNewName (OrStoreFails FilesStay (OrNoMemoryForFile (Loads name file))) named before after old (Some reply) new
    → (bytes : List ℕ) × (IsTrue before.honest → get before.files file ≡ Some bytes)
    × ((files : Files) → get files file ≡ Some bytes
    → IfNewName (OrStoreFails FilesStay (OrNoMemoryForFile (Loads name file))) named (having files) (having files) old (Some reply) new)
opened-again name file None before after old new reply accepted (inl (inl a)) = by_found a.1 a.2 a.3
  where
    by_found : (found : Option (List ℕ)) → (IsTrue before.honest → found ≡ get before.files file) → Reads name found old (Some reply) new
        → (bytes : List ℕ) × (IsTrue before.honest → get before.files file ≡ Some bytes)
        × ((files : Files) → get files file ≡ Some bytes
        → OrStoreFails FilesStay (OrNoMemoryForFile (Loads name file)) (having files) (having files) old (Some reply) new)
    by_found None is r = refused reply _ accepted r.0
    by_found (Some bytes) is (inl r) =
        (bytes, λ honest. sym (is honest), λ files at. inl (inl (stays-called files, Some bytes, λ honest. sym at, inl r)))
    by_found (Some bytes) is (inr r) = refused reply _ accepted r.2.0
opened-again name file None before after old new reply accepted (inl (inr a)) = refused reply _ accepted a.1.0
opened-again name file None before after old new reply accepted (inr a) = refused reply _ accepted a.2.0
opened-again name file (Some h) before after old new reply accepted a = refused reply _ accepted a.0.0

-- ---- a map that was saved
clean-read : line_of (codes "clean") ≡ Ok Clean
clean-read = spelled_is_read Clean (search rules)

saved-clean : (file : List ℕ) (answer : Answer) (before after : StoreParts) (h n : History) (reply : Reply) → IsAccepted reply → answer ≡ clean_answer h
    → IfOutside (OrStoreFails (SameOthers file) (OrNoMemoryForFile (Saves file))) answer before after h (Some reply) n
    → MarksClean h (Ok tt) n × ((size : ℕ) × (reply ≡ replies.Saved file size))
saved-clean file (Ok done) before after h n reply accepted is (inl (inl a)) =
    let said = a.1 in
    (record { answered = is; leads = a.2 }, (length (text_of (current h).map), cc))
saved-clean file (Ok done) before after h n reply accepted is (inl (inr a)) = refused reply _ accepted a.1.0
saved-clean file (Ok done) before after h n reply accepted is (inr a) = refused reply _ accepted a.2.0
saved-clean file (Err fault) before after h n reply accepted is a = refused reply _ accepted a.0.0

replayed-any : (reply replayed : Reply) (file : List ℕ) (size : ℕ) → reply ≡ replies.Saved file size → IsReplayedAs reply replayed
replayed-any reply replayed file size is = rw is tt

saved-again : (file : List ℕ) (active : Option History) (before after stored : StoreParts) (old new : Machine) (reply : Reply) → IsAccepted reply
    → IfActive (OutsideMacros (OrStoreFails (SameOthers file) (OrNoMemoryForFile (Saves file)))) active before after old (Some reply) new
    → (replayed : Reply) × WithActive (Calls MarksClean) active old (Some replayed) new × IsReplayedAs reply replayed × IsAccepted replayed
saved-again file None before after stored old new reply accepted a = refused reply _ accepted a.0.0
saved-again file (Some h) before after stored old new reply accepted a =
    let cleaned = saved-clean file (clean_answer h) before after h a.0 reply accepted refl a.1 in
    let size = cleaned.1.0 in
    let said = cleaned.1.1 in
    let left : new ≡ with_active a.0 old = subst (λ r. new ≡ moved_to (Some r) a.0 old) said a.2 in
    (state_reply a.0, (a.0, (Ok tt, cleaned.0, refl), left), replayed-any reply (state_reply a.0) file size said, refl)

-- ---- lines
-- one that is replayed as it was
same-again : (line : List ℕ) (read : Line) (old new : Workspace) (reply : Reply) → line_of line ≡ Ok read → IsAccepted reply → CallsNoStore (rule_of read)
    → MachineStep read old (Some reply) new → (entry : Entry) → entry.line ≡ line → CanBeReplayed old.machine reply new.machine entry
same-again line read old new reply is accepted alone a entry same =
    let stored = having entry.files in
    let step = over_other-files (rule_of read) old new (Some reply) stored alone a in
    let Step : Result Line LineFault → Type 0 = λ r. MachineStepOf r (workspace old.machine stored) (Some reply) (workspace new.machine stored) in
    (reply, stored, subst Step (sym (ap line_of same ∙ is)) step, replayed-same reply, accepted)

-- whatever it is: some entry is noted of it and can be replayed, and over an honest store each that is noted
pub record IsHeardAgain (read : Result Line LineFault) (line : List ℕ) (old new : Workspace) (reply : Reply) : Type 0 where
  pub noted : (entry : Entry) × IsNotedAs read line old.stored entry × CanBeReplayed old.machine reply new.machine entry
  pub each : IsTrue old.stored.honest → (entry : Entry) → IsNotedAs read line old.stored entry → CanBeReplayed old.machine reply new.machine entry

-- an `open`
opened-replayed : (name file line : List ℕ) (old new : Workspace) (reply : Reply) → line_of line ≡ Ok (Open name file) → IsAccepted reply
    → MachineStep (Open name file) old (Some reply) new → IsHeardAgain (Ok (Open name file)) line old new reply
opened-replayed name file line old new reply is accepted a = record {
  noted = (entry, (refl, λ honest. at ∙ sym (opened.1 honest)), each entry refl at);
  each = λ honest entry noted. each entry noted.0 (noted.1 honest ∙ opened.1 honest);
}
  where
    opened : (bytes : List ℕ) × (IsTrue old.stored.honest → get old.stored.files file ≡ Some bytes)
        × ((files : Files) → get files file ≡ Some bytes
        → MachineStep (Open name file) (workspace old.machine (having files)) (Some reply) (workspace new.machine (having files)))
    opened = opened-again name file (history_named name old.machine.group.documents) old.stored new.stored old.machine new.machine reply accepted a

    entry : Entry
    entry = record { line = line; files = insert old.stored.files file opened.0 }

    at : get entry.files file ≡ Some opened.0
    at = stored_kept old.stored.files entry.files file opened.0 refl

    each : (e : Entry) → e.line ≡ line → get e.files file ≡ Some opened.0 → CanBeReplayed old.machine reply new.machine e
    each e same found =
        let stored = having e.files in
        let Step : Result Line LineFault → Type 0 = λ r. MachineStepOf r (workspace old.machine stored) (Some reply) (workspace new.machine stored) in
        (reply, stored, subst Step (sym (ap line_of same ∙ is)) (opened.2 e.files found), replayed-same reply, accepted)

-- a `save`
saved-replayed : (file line : List ℕ) (old new : Workspace) (reply : Reply) → IsAccepted reply → MachineStep (Save file) old (Some reply) new
    → IsHeardAgain (Ok (Save file)) line old new reply
saved-replayed file line old new reply accepted a = record {
  noted = (entry, refl, each entry refl);
  each = λ honest entry noted. each entry noted;
}
  where
    entry : Entry
    entry = record { line = codes "clean"; files = old.stored.files }

    each : (e : Entry) → e.line ≡ codes "clean" → CanBeReplayed old.machine reply new.machine e
    each e same =
        let stored = having e.files in
        let again = saved-again file (active_of old.machine) old.stored new.stored stored old.machine new.machine reply accepted a in
        let Step : Result Line LineFault → Type 0 = λ r. MachineStepOf r (workspace old.machine stored) (Some again.0) (workspace new.machine stored) in
        (again.0, stored, subst Step (sym (ap line_of same ∙ clean-read)) (again.1, refl), again.2, again.3)

-- any other line
other-replayed : (read : Line) (line : List ℕ) (old new : Workspace) (reply : Reply) → line_of line ≡ Ok read → IsAccepted reply → CallsNoStore (rule_of read)
    → ((entry : Entry) → IsNotedAs (Ok read) line old.stored entry → entry.line ≡ line)
    → ((entry : Entry) → entry.line ≡ line → IsNotedAs (Ok read) line old.stored entry)
    → MachineStep read old (Some reply) new → IsHeardAgain (Ok read) line old new reply
other-replayed read line old new reply is accepted alone said noted a = record {
  noted = (entry, noted entry refl, same-again line read old new reply is accepted alone a entry refl);
  each = λ honest e so. same-again line read old new reply is accepted alone a e (said e so);
}
  where
    entry : Entry
    entry = record { line = line; files = old.stored.files }

read-replayed : (read : Result Line LineFault) (line : List ℕ) (old new : Workspace) (reply : Reply) → line_of line ≡ read → IsAccepted reply
    → MachineStepOf read old (Some reply) new → IsHeardAgain read line old new reply
read-replayed (Ok (Open name file)) line old new reply is accepted a = opened-replayed name file line old new reply is accepted a
read-replayed (Ok (Save file)) line old new reply is accepted a = saved-replayed file line old new reply accepted a
read-replayed (Ok read) line old new reply is accepted a = other-replayed read line old new reply is accepted tt (λ e so. so) (λ e so. so) a
read-replayed (Err fault) line old new reply is accepted a = refused reply _ accepted a.0

pub line-replayed : (line : List ℕ) (old new : Workspace) (reply : Reply) → IsAccepted reply → MachineStepIn line old (Some reply) new
    → IsHeardAgain (line_of line) line old new reply
line-replayed line old new reply accepted a = read-replayed (line_of line) line old new reply refl accepted a
