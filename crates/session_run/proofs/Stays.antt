-- A line that has no reply, or is refused, leaves the machine as it was.
use Rattle.std.proofs.Common.{◌≡◌, ℕ, List, Bool, true, false, Option, Some, None, Result, Ok, Err, zero, suc, leb, refl, ap, subst, ◌∙◌, inl, inr}
use Rattle.std.specs.Prelude.{⊤}
use Rattle.map_model.specs.Document.{DocumentParts}
use Rattle.command_api.specs.Names.{Names}
use Rattle.map_json.specs.Trees.{text_of}
use Rattle.map_store.specs.Files.{SameOthers, StoreParts}
use Rattle.refusals.specs.declared.edit_fault.EditFault.{EditFault}
use Rattle.refusals.specs.declared.line_fault.LineFault.{LineFault}
use Rattle.undo_stack.specs.History.{History, count, current, is_clean}
use Rattle.undo_stack.specs.Moving.{Answer, clean_answer}
use Rattle.undo_stack.specs.Reading.{redo_text_of, text_at, undo_text_of}
use Rattle.undo_stack.specs.declared.limits.TheConstants.{MAX_LIMIT}
use Rattle.undo_group.specs.Groups.{GroupParts, active_history, chosen, history_named, removed}
use Rattle.session.specs.declared.line.Line.{Line}
use Rattle.session.specs.declared.line.Line.TheVariants.{Quiet, New, Open, Save, Close, Discard, Use, Documents, Tile}
use Rattle.session.specs.declared.line.Line.TheVariants.{Undo, Redo, Goto, Clean, Begin, End, Limit, Dirty, Clear, Show, Status, UndoText, RedoText, StepText}
use Rattle.session.specs.declared.reply.Reply.{Reply}
use Rattle.session.specs.declared.reply.Reply.TheVariants as replies
use Rattle.session.specs.Grammar.{line_of}
use Rattle.document_lines.specs.Acts.{Act, Answers, ClosesBy, Creates, FilesStay, GoesOn, IfActive, IfFree, IfNamed, IfNewName, IfOutside, LimitsAt, Loads}
use Rattle.document_lines.specs.Acts.{Opens}
use Rattle.document_lines.specs.Acts.{OrNoMemory, OrNoMemoryForFile, OrStoreFails, OutsideMacros, Pushes, Reads, Saves, TellsText, WithActive, answer_of}
use Rattle.document_lines.specs.Acts.{moved_to}
use Rattle.document_lines.specs.Answers.{documents_text, status_reply, step_text_reply}
use Rattle.document_lines.specs.Machine.{Machine, Workspace, active_of}
use Rattle.document_lines.specs.Rules.{Allows, Edits, MachineStepIn, MachineStepOf, OnActive, OnDocuments, OnFiles, Rule, rule_of}

-- no reply, or a refusal
abbrev pub IsNoNews : Option Reply → Type 0
IsNoNews None = ⊤
IsNoNews (Some (replies.Refused refusal)) = ⊤
IsNoNews (Some reply) = ⊥

news : {A : Type 0} (reply said : Option Reply) → IsNoNews reply → reply ≡ said → (IsNoNews said → ⊥) → A
news reply said none is tells = absurd (tells (subst IsNoNews is none))

status-news : (active : Option History) → IsNoNews (Some (status_reply active)) → ⊥
status-news None none = none
status-news (Some h) none = none

-- ---- the active document
-- each has a reply
abbrev Replies : Act History → Type 0
Replies act = (h n : History) → act h None n → ⊥

limits-replies : (steps : ℕ) (within : Bool) (limit : ℕ) → Replies (LimitsAt steps within limit)
limits-replies (suc steps) within limit h n a = let no = a.0 in absurd cc
limits-replies zero true limit h n a = let no = a.2 in absurd cc
limits-replies zero false limit h n a = let no = a.0 in absurd cc

or_memory-replies : (act : Act History) → Replies act → Replies (OrNoMemory act)
or_memory-replies act tells h n (inl a) = tells h n a
or_memory-replies act tells h n (inr a) = let no = a.0 in absurd cc

pushes-replies : (names : Names) (edited : Result DocumentParts EditFault) → Replies (Pushes (answer_of names edited))
pushes-replies names (Ok d) h n a = let no = a.1 in absurd cc
pushes-replies names (Err fault) h n a = let no = a.0 in absurd cc

saves-replies : (file : List ℕ) (answer : Answer) (before after : StoreParts) (h n : History)
    → IfOutside (OrStoreFails (SameOthers file) (OrNoMemoryForFile (Saves file))) answer before after h None n → ⊥
saves-replies file (Ok done) before after h n (inl (inl a)) = let no = a.1 in absurd cc
saves-replies file (Ok done) before after h n (inl (inr a)) = let no = a.1.0 in absurd cc
saves-replies file (Ok done) before after h n (inr a) = let no = a.2.0 in absurd cc
saves-replies file (Err fault) before after h n a = let no = a.0.0 in absurd cc

moved-stays : (reply : Option Reply) (n : History) (m : Machine) → (reply ≡ None → ⊥) → IsNoNews reply → moved_to reply n m ≡ m
moved-stays None n m replied none = absurd (replied refl)
moved-stays (Some (replies.Refused refusal)) n m replied none = refl
moved-stays (Some reply) n m replied none = absurd none

with_active-stays : (act : Act History) (active : Option History) (old new : Machine) (reply : Option Reply)
    → ((h n : History) → active ≡ Some h → act h None n → ⊥) → IsNoNews reply → WithActive act active old reply new → new ≡ old
with_active-stays act None old new reply tells none a = a.1
with_active-stays act (Some h) old new reply tells none a =
    a.2 ∙ moved-stays reply a.0 old (λ is. tells h a.0 refl (subst (λ r. act h r a.0) is a.1)) none

-- ---- the open documents
abbrev Stays : Act Machine → Type 0
Stays act = (old new : Machine) (reply : Option Reply) → IsNoNews reply → act old reply new → new ≡ old

goes_on-stays : (change : GroupParts → GroupParts) → Stays (GoesOn change)
goes_on-stays change old new reply none a = news reply _ none a.0 (status-news (active_history (change old.group)))

if_named-stays : (act : History → Act Machine) (named : Option History) → ((h : History) → Stays (act h)) → Stays (IfNamed act named)
if_named-stays act None stays old new reply none a = a.1
if_named-stays act (Some h) stays old new reply none a = stays h old new reply none a

closes-stays : (clean : Bool) (name : List ℕ) → Stays (ClosesBy clean name)
closes-stays true name old new reply none a = goes_on-stays (removed name) old new reply none a
closes-stays false name old new reply none a = a.1

opens-stays : (name : List ℕ) (h : History) → Stays (Opens name h)
opens-stays name h old new reply none a = news reply _ none a.0 (λ n. n)

if_free-stays : (act : Act Machine) (named : Option History) → Stays act → Stays (IfFree act named)
if_free-stays act None stays old new reply none a = stays old new reply none a
if_free-stays act (Some h) stays old new reply none a = a.1

creates-stays : (name : List ℕ) (width height tile_width tile_height : ℕ) (source : List ℕ)
    → Stays (OrNoMemory (Creates name width height tile_width tile_height source))
creates-stays name width height tile_width tile_height source old new reply none (inl (inl a)) = news reply _ none a.2.0 (λ n. n)
creates-stays name width height tile_width tile_height source old new reply none (inl (inr a)) = a.1.1
creates-stays name width height tile_width tile_height source old new reply none (inr a) = a.1

tells-stays : (text : History → List ℕ) → Stays (TellsText text)
tells-stays text old new reply none (inl a) = a.1
tells-stays text old new reply none (inr a) = a.1.1

documents-stays : (answer : Machine → Reply) → Stays (OrNoMemory (Answers answer))
documents-stays answer old new reply none (inl a) = a.1
documents-stays answer old new reply none (inr a) = a.1

-- ---- the files
reads-stays : (name : List ℕ) (found : Option (List ℕ)) → Stays (Reads name found)
reads-stays name None old new reply none a = a.1
reads-stays name (Some bytes) old new reply none (inl a) = news reply _ none a.2.0 (λ n. n)
reads-stays name (Some bytes) old new reply none (inr a) = a.2.1

opens_file-stays : (name file : List ℕ) (named : Option History) (before after : StoreParts) (old new : Machine) (reply : Option Reply) → IsNoNews reply
    → IfNewName (OrStoreFails FilesStay (OrNoMemoryForFile (Loads name file))) named before after old reply new → new ≡ old
opens_file-stays name file None before after old new reply none (inl (inl a)) = reads-stays name a.1 old new reply none a.3
opens_file-stays name file None before after old new reply none (inl (inr a)) = a.1.1
opens_file-stays name file None before after old new reply none (inr a) = a.2.1
opens_file-stays name file (Some h) before after old new reply none a = a.0.1

saves_file-stays : (file : List ℕ) (active : Option History) (before after : StoreParts) (old new : Machine) (reply : Option Reply) → IsNoNews reply
    → IfActive (OutsideMacros (OrStoreFails (SameOthers file) (OrNoMemoryForFile (Saves file)))) active before after old reply new → new ≡ old
saves_file-stays file None before after old new reply none a = a.0.1
saves_file-stays file (Some h) before after old new reply none a =
    let act : Act History = OutsideMacros (OrStoreFails (SameOthers file) (OrNoMemoryForFile (Saves file))) before after in
    a.2 ∙ moved-stays reply a.0 old (λ is. saves-replies file (clean_answer h) before after h a.0 (subst (λ r. act h r a.0) is a.1)) none

-- ---- lines
abbrev RuleStays : Rule → Type 0
RuleStays (OnFiles act) = (before after : StoreParts) (old new : Machine) (reply : Option Reply) → IsNoNews reply → act before after old reply new → new ≡ old
RuleStays (OnDocuments act) = Stays act
RuleStays (OnActive act) = Replies act
RuleStays (Edits names edit) = ⊤

rule_of-stays : (line : Line) → RuleStays (rule_of line)
rule_of-stays Quiet = λ old new reply none a. a.1
rule_of-stays (New name width height tile_width tile_height source) = λ old new reply none a.
    if_free-stays (OrNoMemory (Creates name width height tile_width tile_height source)) (history_named name old.group.documents)
    (creates-stays name width height tile_width tile_height source) old new reply none a
rule_of-stays (Open name file) = λ before after old new reply none a.
    opens_file-stays name file (history_named name old.group.documents) before after old new reply none a
rule_of-stays (Save file) = λ before after old new reply none a. saves_file-stays file (active_of old) before after old new reply none a
rule_of-stays (Close name) = λ old new reply none a.
    if_named-stays (λ h. ClosesBy (is_clean h) name) (history_named name old.group.documents) (λ h. closes-stays (is_clean h) name) old new reply none a
rule_of-stays (Discard name) = λ old new reply none a.
    if_named-stays (λ h. GoesOn (removed name)) (history_named name old.group.documents) (λ h. goes_on-stays (removed name)) old new reply none a
rule_of-stays (Use None) = goes_on-stays (chosen None)
rule_of-stays (Use (Some name)) = λ old new reply none a.
    if_named-stays (λ h. GoesOn (chosen (Some name))) (history_named name old.group.documents) (λ h. goes_on-stays (chosen (Some name))) old new reply none a
rule_of-stays Documents = documents-stays (λ m. replies.Documents (documents_text m.group))
rule_of-stays Status = λ old new reply none a. a.1
rule_of-stays UndoText = tells-stays undo_text_of
rule_of-stays RedoText = tells-stays redo_text_of
rule_of-stays (Tile layer x y) = λ h n a. let no = a.0 in absurd cc
rule_of-stays Undo = λ h n a. let no = a.2 in absurd cc
rule_of-stays Redo = λ h n a. let no = a.2 in absurd cc
rule_of-stays (Goto index) = λ h n a. let no = a.2 in absurd cc
rule_of-stays Clean = λ h n a. let no = a.2 in absurd cc
rule_of-stays (Begin text action) = λ h n a. let no = a.2 in absurd cc
rule_of-stays End = λ h n a. let no = a.2 in absurd cc
rule_of-stays (Limit limit) = λ h n a. limits-replies (count h) (leb limit MAX_LIMIT) limit h n a
rule_of-stays Dirty = λ h n a. let no = a.1 in absurd cc
rule_of-stays Clear = λ h n a. let no = a.1 in absurd cc
rule_of-stays Show = or_memory-replies (Answers λ k. replies.Map (text_of (current k).map)) (λ h n a. let no = a.0 in absurd cc)
rule_of-stays (StepText i) = or_memory-replies (Answers λ k. step_text_reply (text_at k i)) (λ h n a. let no = a.0 in absurd cc)
rule_of-stays other = tt

allows-stays : (rule : Rule) (old new : Workspace) (reply : Option Reply) → RuleStays rule → IsNoNews reply → Allows rule old reply new
    → new.machine ≡ old.machine
allows-stays (OnFiles act) old new reply stays none a = stays old.stored new.stored old.machine new.machine reply none a
allows-stays (OnDocuments act) old new reply stays none a = stays old.machine new.machine reply none a.0
allows-stays (OnActive act) old new reply tells none a =
    with_active-stays act (active_of old.machine) old.machine new.machine reply (λ h n at b. tells h n b) none a.0
allows-stays (Edits names edit) old new reply stays none a =
    with_active-stays (OrNoMemory (λ h. Pushes (answer_of names (edit (current h))) h)) (active_of old.machine) old.machine new.machine reply
    (λ h n at b. or_memory-replies (Pushes (answer_of names (edit (current h)))) (pushes-replies names (edit (current h))) h n b) none a.0

step_of-stays : (read : Result Line LineFault) (old new : Workspace) (reply : Option Reply) → IsNoNews reply → MachineStepOf read old reply new
    → new.machine ≡ old.machine
step_of-stays (Ok line) old new reply none a = allows-stays (rule_of line) old new reply (rule_of-stays line) none a
step_of-stays (Err fault) old new reply none a = ap (λ w. w.machine) a.1

pub step-stays : (line : List ℕ) (old new : Workspace) (reply : Option Reply) → IsNoNews reply → MachineStepIn line old reply new → new.machine ≡ old.machine
step-stays line old new reply none a = step_of-stays (line_of line) old new reply none a
