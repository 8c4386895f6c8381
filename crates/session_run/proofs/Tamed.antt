-- No line brings a step of a free command into a machine, and an honest store stays honest.
use Rattle.std.proofs.Common.{◌≡◌, ℕ, List, Bool, true, false, IsTrue, Option, Some, None, Result, Ok, Err, zero, suc, leb, refl}
use Rattle.std.proofs.Common.{◌⊎◌, inl, inr}
use Rattle.map_model.specs.Document.{DocumentParts, document_of}
use Rattle.command_api.specs.Names.{Names, is_free}
use Rattle.map_store.specs.Files.{SameOthers, StoreParts}
use Rattle.refusals.specs.declared.edit_fault.EditFault.{EditFault}
use Rattle.refusals.specs.declared.line_fault.LineFault.{LineFault}
use Rattle.refusals.specs.declared.refusal.Refusal.{Refusal}
use Rattle.refusals.specs.declared.refusal.Refusal.TheVariants as refusals
use Rattle.undo_stack.specs.History.{History, count, current, is_clean, new_history}
use Rattle.undo_stack.specs.Moving.{Answer, clean_answer}
use Rattle.undo_stack.specs.Reading.{redo_text_of, undo_text_of}
use Rattle.undo_stack.specs.declared.limits.TheConstants.{MAX_LIMIT}
use Rattle.undo_group.specs.Groups.{chosen, history_named, removed}
use Rattle.session.specs.declared.line.Line.{Line}
use Rattle.session.specs.declared.line.Line.TheVariants.{Quiet, New, Open, Save, Close, Discard, Use, Documents, Tile}
use Rattle.session.specs.declared.line.Line.TheVariants.{Undo, Redo, Goto, Clean, Begin, End, Limit, Dirty, Clear, Show, Status, UndoText, RedoText, StepText}
use Rattle.session.specs.declared.reply.Reply.{Reply}
use Rattle.session.specs.declared.reply.Reply.TheVariants as replies
use Rattle.session.specs.Grammar.{line_of}
use Rattle.document_lines.specs.Acts.{Act, ClosesBy, Creates, FileAct, FilesStay, GoesOn, IfActive, IfFree, IfNamed, IfNewName, IfOutside, LimitsAt, Loads}
use Rattle.document_lines.specs.Acts.{Opens}
use Rattle.document_lines.specs.Acts.{OrNoMemory, OrNoMemoryForFile, OrStoreFails, OutsideMacros, Pushes, Reads, Refuses, Saves, TellsText, WithActive}
use Rattle.document_lines.specs.Acts.{action_or}
use Rattle.document_lines.specs.Acts.{answer_of, moved_to}
use Rattle.document_lines.specs.Machine.{Machine, Workspace, active_of, started}
use Rattle.document_lines.specs.Rules.{Allows, Edits, MachineStepIn, MachineStepOf, OnActive, OnDocuments, OnFiles, Rule, rule_of}
use Rattle.session_run.proofs.Tame.{IsTame, begins-tame, clears-tame, ends-tame, goes_to-tame, marks_clean-tame, new_history-tame, pushed-tame, sets_limit-tame}
use Rattle.session_run.proofs.Tame.{steps_back-tame, steps_on-tame, unmarks_clean-tame}
use Rattle.editor.proofs.Histories.{active-has, added-have, with_active-have, without-have}
use Rattle.session_run.proofs.Lines.{IsTameMachine}

-- ---- the active document
abbrev KeepsTame : Act History → Type 0
KeepsTame act = (h n : History) (reply : Option Reply) → IsTame h → act h reply n → IsTame n

same-tame : (h n : History) (P : Type 0) → IsTame h → P × (n ≡ h) → IsTame n
same-tame h n P tame a = rw a.1 tame

same_or-tame : (h n : History) (P Q : Type 0) → IsTame h → (P × (n ≡ h)) ⊎ (Q × (n ≡ h)) → IsTame n
same_or-tame h n P Q tame (inl a) = rw a.1 tame
same_or-tame h n P Q tame (inr a) = rw a.1 tame

limits-tame : (steps : ℕ) (within : Bool) (limit : ℕ) → KeepsTame (LimitsAt steps within limit)
limits-tame (suc steps) within limit h n reply tame a = rw a.1 tame
limits-tame zero true limit h n reply tame a = sets_limit-tame limit h a.0 n tame a.1
limits-tame zero false limit h n reply tame a = rw a.1 tame

pushes-tame : (names : Names) (edited : Result DocumentParts EditFault) → is_free names.vanishing ≡ false
    → KeepsTame (OrNoMemory (Pushes (answer_of names edited)))
pushes-tame names (Ok d) free h n reply tame (inl a) = pushed-tame h _ n free tame a.0
pushes-tame names (Err fault) free h n reply tame (inl a) = rw a.1 tame
pushes-tame names edited free h n reply tame (inr a) = rw a.1 tame

-- ---- the open documents
moved-tame : (reply : Option Reply) (n : History) (m : Machine) → IsTame n → IsTameMachine m → IsTameMachine (moved_to reply n m)
moved-tame (Some (replies.Refused refusal)) n m new old = old
moved-tame reply n m new old = with_active-have IsTame n m.group new old

with_active-tame : (act : Act History) (active : Option History) (old new : Machine) (reply : Option Reply)
    → ((h n : History) → active ≡ Some h → IsTame h → act h reply n → IsTame n)
    → IsTameMachine old → ((h : History) → active ≡ Some h → IsTame h) → WithActive act active old reply new → IsTameMachine new
with_active-tame act None old new reply keeps tame at a = rw a.1 tame
with_active-tame act (Some h) old new reply keeps tame at a = rw a.2 (moved-tame reply a.0 old (keeps h a.0 refl (at h refl) a.1) tame)

abbrev KeepsMachine : Act Machine → Type 0
KeepsMachine act = (old new : Machine) (reply : Option Reply) → IsTameMachine old → act old reply new → IsTameMachine new

refuses-machine : (refusal : Refusal) → KeepsMachine (Refuses refusal)
refuses-machine refusal old new reply tame a = rw a.1 tame

or_memory-machine : (act : Act Machine) → KeepsMachine act → KeepsMachine (OrNoMemory act)
or_memory-machine act keeps old new reply tame (inl a) = keeps old new reply tame a
or_memory-machine act keeps old new reply tame (inr a) = rw a.1 tame

chosen-machine : (choice : Option (List ℕ)) → KeepsMachine (GoesOn (chosen choice))
chosen-machine choice old new reply tame a = rw a.1 tame

removed-machine : (name : List ℕ) → KeepsMachine (GoesOn (removed name))
removed-machine name old new reply tame a = rw a.1 (without-have IsTame name old.group.documents tame)

if_named-machine : (act : History → Act Machine) (named : Option History) → ((h : History) → KeepsMachine (act h)) → KeepsMachine (IfNamed act named)
if_named-machine act None keeps = refuses-machine refusals.NoSuchDocument
if_named-machine act (Some h) keeps = keeps h

closes-machine : (clean : Bool) (name : List ℕ) → KeepsMachine (ClosesBy clean name)
closes-machine true name = removed-machine name
closes-machine false name = refuses-machine refusals.UnsavedChanges

opens-machine : (name : List ℕ) (h : History) → IsTame h → KeepsMachine (Opens name h)
opens-machine name h new_tame old new reply tame a = rw a.1 (added-have IsTame name h old.group.documents new_tame tame)

if_free-machine : (act : Act Machine) (named : Option History) → KeepsMachine act → KeepsMachine (IfFree act named)
if_free-machine act None keeps = keeps
if_free-machine act (Some h) keeps = refuses-machine refusals.NameTaken

-- ---- the files
abbrev KeepsOver : FileAct Machine → Type 0
KeepsOver act = (before after : StoreParts) (old new : Machine) (reply : Option Reply) → IsTameMachine old → act before after old reply new
    → IsTameMachine new × (IsTrue before.honest → IsTrue after.honest)

alone-honest : (before after : StoreParts) → after ≡ before → IsTrue before.honest → IsTrue after.honest
alone-honest before after is honest = rw is honest

reads-machine : (name : List ℕ) (found : Option (List ℕ)) (old new : Machine) (reply : Option Reply) → IsTameMachine old → Reads name found old reply new
    → IsTameMachine new
reads-machine name None old new reply tame a = rw a.1 tame
reads-machine name (Some bytes) old new reply tame (inl a) =
    opens-machine name (new_history (document_of a.0) old.limit) (new_history-tame _ _) old new reply tame a.2
reads-machine name (Some bytes) old new reply tame (inr a) = rw a.2.1 tame

loads-over : (name file : List ℕ) → KeepsOver (OrStoreFails FilesStay (OrNoMemoryForFile (Loads name file)))
loads-over name file before after old new reply tame (inl (inl a)) = (reads-machine name a.1 old new reply tame a.3, a.0.honest)
loads-over name file before after old new reply tame (inl (inr a)) = (rw a.1.1 tame, a.0.honest)
loads-over name file before after old new reply tame (inr a) = (rw a.2.1 tame, a.1.honest)

opens-over : (name file : List ℕ) (named : Option History) → KeepsOver (IfNewName (OrStoreFails FilesStay (OrNoMemoryForFile (Loads name file))) named)
opens-over name file None before after old new reply tame a = loads-over name file before after old new reply tame a
opens-over name file (Some h) before after old new reply tame a = (rw a.0.1 tame, alone-honest before after a.1)

saves-over : (file : List ℕ) (answer : Answer) (before after : StoreParts) (h n : History) (reply : Option Reply) → IsTame h
    → IfOutside (OrStoreFails (SameOthers file) (OrNoMemoryForFile (Saves file))) answer before after h reply n
    → IsTame n × (IsTrue before.honest → IsTrue after.honest)
saves-over file (Ok done) before after h n reply tame (inl (inl a)) = (rw a.2 (record { steps = tame.steps; levels = tame.levels }), a.0.honest)
saves-over file (Ok done) before after h n reply tame (inl (inr a)) = (rw a.1.1 tame, a.0.honest)
saves-over file (Ok done) before after h n reply tame (inr a) = (rw a.2.1 tame, a.1.honest)
saves-over file (Err fault) before after h n reply tame a = (rw a.0.1 tame, alone-honest before after a.1)

of_active-over : (file : List ℕ) (active : Option History) (before after : StoreParts) (old new : Machine) (reply : Option Reply) → IsTameMachine old
    → ((h : History) → active ≡ Some h → IsTame h)
    → IfActive (OutsideMacros (OrStoreFails (SameOthers file) (OrNoMemoryForFile (Saves file)))) active before after old reply new
    → IsTameMachine new × (IsTrue before.honest → IsTrue after.honest)
of_active-over file None before after old new reply tame at a = (rw a.0.1 tame, alone-honest before after a.1)
of_active-over file (Some h) before after old new reply tame at a =
    let kept = saves-over file (clean_answer h) before after h a.0 reply (at h refl) a.1 in
    (rw a.2 (moved-tame reply a.0 old kept.0 tame), kept.1)

creates-machine : (name : List ℕ) (width height tile_width tile_height : ℕ) (source : List ℕ)
    → KeepsMachine (Creates name width height tile_width tile_height source)
creates-machine name width height tile_width tile_height source old new reply tame (inl a) =
    opens-machine name (started old.limit width height tile_width tile_height source) (new_history-tame _ _) old new reply tame a.2
creates-machine name width height tile_width tile_height source old new reply tame (inr a) = rw a.1.1 tame

same_machine_or : (old new : Machine) (P Q : Type 0) → IsTameMachine old → (P × (new ≡ old)) ⊎ (Q × (new ≡ old)) → IsTameMachine new
same_machine_or old new P Q tame (inl a) = rw a.1 tame
same_machine_or old new P Q tame (inr a) = rw a.1 tame

tells-machine : (text : History → List ℕ) → KeepsMachine (TellsText text)
tells-machine text old new reply tame (inl a) = rw a.1 tame
tells-machine text old new reply tame (inr a) = rw a.1.1 tame

-- ---- lines
abbrev RuleKeeps : Rule → Type 0
RuleKeeps (OnFiles act) = KeepsOver act
RuleKeeps (OnDocuments act) = KeepsMachine act
RuleKeeps (OnActive act) = KeepsTame act
RuleKeeps (Edits names edit) = is_free names.vanishing ≡ false

rule_of-keeps : (line : Line) → RuleKeeps (rule_of line)
rule_of-keeps Quiet = λ old new reply tame a. rw a.1 tame
rule_of-keeps (New name width height tile_width tile_height source) = λ old new reply tame a.
    let creates : Act Machine = Creates name width height tile_width tile_height source in
    if_free-machine (OrNoMemory creates) (history_named name old.group.documents)
    (or_memory-machine creates (creates-machine name width height tile_width tile_height source)) old new reply tame a
rule_of-keeps (Open name file) = λ before after old new reply tame a.
    opens-over name file (history_named name old.group.documents) before after old new reply tame a
rule_of-keeps (Save file) = λ before after old new reply tame a.
    of_active-over file (active_of old) before after old new reply tame (λ h at. active-has IsTame h old.group tame at) a
rule_of-keeps (Close name) = λ old new reply tame a.
    if_named-machine (λ h. ClosesBy (is_clean h) name) (history_named name old.group.documents) (λ h. closes-machine (is_clean h) name) old new reply tame a
rule_of-keeps (Discard name) = λ old new reply tame a.
    if_named-machine (λ h. GoesOn (removed name)) (history_named name old.group.documents) (λ h. removed-machine name) old new reply tame a
rule_of-keeps (Use None) = chosen-machine None
rule_of-keeps (Use (Some name)) = λ old new reply tame a.
    if_named-machine (λ h. GoesOn (chosen (Some name))) (history_named name old.group.documents) (λ h. chosen-machine (Some name)) old new reply tame a
rule_of-keeps Documents = λ old new reply tame a. same_machine_or old new _ _ tame a
rule_of-keeps Status = λ old new reply tame a. rw a.1 tame
rule_of-keeps UndoText = tells-machine undo_text_of
rule_of-keeps RedoText = tells-machine redo_text_of
rule_of-keeps (Tile layer x y) = λ h n reply tame a. same-tame h n _ tame a
rule_of-keeps Undo = λ h n reply tame a. steps_back-tame h a.0 n tame a.1
rule_of-keeps Redo = λ h n reply tame a. steps_on-tame h a.0 n tame a.1
rule_of-keeps (Goto index) = λ h n reply tame a. goes_to-tame index h a.0 n tame a.1
rule_of-keeps Clean = λ h n reply tame a. marks_clean-tame h a.0 n tame a.1
rule_of-keeps (Begin text action) = λ h n reply tame a. begins-tame text (action_or text action) h a.0 n tame a.1
rule_of-keeps End = λ h n reply tame a. ends-tame h a.0 n tame a.1
rule_of-keeps (Limit limit) = λ h n reply tame a. limits-tame (count h) (leb limit MAX_LIMIT) limit h n reply tame a
rule_of-keeps Dirty = λ h n reply tame a. unmarks_clean-tame h n tame a.0
rule_of-keeps Clear = λ h n reply tame a. clears-tame h n a.0
rule_of-keeps Show = λ h n reply tame a. same_or-tame h n _ _ tame a
rule_of-keeps (StepText i) = λ h n reply tame a. same_or-tame h n _ _ tame a
rule_of-keeps other = refl

allows-keeps : (rule : Rule) (old new : Workspace) (reply : Option Reply) → RuleKeeps rule → IsTameMachine old.machine → Allows rule old reply new
    → IsTameMachine new.machine × (IsTrue old.stored.honest → IsTrue new.stored.honest)
allows-keeps (OnFiles act) old new reply keeps tame a = keeps old.stored new.stored old.machine new.machine reply tame a
allows-keeps (OnDocuments act) old new reply keeps tame a =
    (keeps old.machine new.machine reply tame a.0, alone-honest old.stored new.stored a.1)
allows-keeps (OnActive act) old new reply keeps tame a = (
  with_active-tame act (active_of old.machine) old.machine new.machine reply (λ h n at old_tame b. keeps h n reply old_tame b) tame
      (λ h at. active-has IsTame h old.machine.group tame at) a.0,
  alone-honest old.stored new.stored a.1,
)
allows-keeps (Edits names edit) old new reply free tame a = (
  with_active-tame (OrNoMemory (λ h. Pushes (answer_of names (edit (current h))) h)) (active_of old.machine) old.machine new.machine reply
      (λ h n at old_tame b. pushes-tame names (edit (current h)) free h n reply old_tame b) tame
      (λ h at. active-has IsTame h old.machine.group tame at) a.0,
  alone-honest old.stored new.stored a.1,
)

step_of-keeps : (read : Result Line LineFault) (old new : Workspace) (reply : Option Reply) → IsTameMachine old.machine → MachineStepOf read old reply new
    → IsTameMachine new.machine × (IsTrue old.stored.honest → IsTrue new.stored.honest)
step_of-keeps (Ok line) old new reply tame a = allows-keeps (rule_of line) old new reply (rule_of-keeps line) tame a
step_of-keeps (Err fault) old new reply tame a = rw a.1 (tame, λ honest. honest)

pub step-keeps : (line : List ℕ) (old new : Workspace) (reply : Option Reply) → IsTameMachine old.machine → MachineStepIn line old reply new
    → IsTameMachine new.machine × (IsTrue old.stored.honest → IsTrue new.stored.honest)
step-keeps line old new reply tame a = step_of-keeps (line_of line) old new reply tame a
