-- Acts: what may be done, from one state to another, with this reply or none.
use Rattle.std.specs.Prelude.{◌≡◌, ℕ, zero, suc, leb, List, length, Bool, true, false, IsTrue, Option, None, Some, IsSome, Result, Ok, Err, ◌⊎◌}
use Rattle.std.specs.FinMap.{get, insert}
use Rattle.map_model.specs.Document.{DocumentParts, document_of}
use Rattle.map_model.specs.declared.parts.MapParts.{MapParts}
use Rattle.map_model.specs.WellFormed.{IsSize, IsTileSize}
use Rattle.map_json.specs.Maps.{Says}
use Rattle.map_json.specs.Trees.{text_of}
use Rattle.map_values.specs.declared.fault.MapFault.TheVariants.{Refused}
use Rattle.refusals.specs.declared.map_refusal.MapRefusal.{MapRefusal}
use Rattle.map_store.specs.Files.{Files, StoreParts, IsCalled, HasFailed}
use Rattle.refusals.specs.declared.edit_fault.EditFault.{EditFault}
use Rattle.command_api.specs.Names.{Names}
use Rattle.undo_stack.specs.History.{Step, History, step_named, current, new_history, is_clean, count}
use Rattle.undo_stack.specs.Moving.{Answer, clean_answer, SetsLimit}
use Rattle.undo_stack.specs.declared.limits.TheConstants.{MAX_LIMIT}
use Rattle.undo_stack.specs.Pushing.{IsPushed}
use Rattle.undo_group.specs.Groups.{GroupParts, active_history, chosen, history_named, removed, text_of_active}
use Rattle.refusals.specs.declared.refusal.Refusal.{Refusal}
use Rattle.refusals.specs.declared.refusal.Refusal.TheVariants as refusals
use Rattle.refusals.specs.Layers.{refusal_of_edit, refusal_of_stack, no_such_file, out_of_range, stack_not_empty, store_failed}
use Rattle.session.specs.declared.reply.Reply.{Reply}
use Rattle.session.specs.declared.reply.Reply.TheVariants as replies
use Rattle.document_lines.specs.Answers.{state_reply, status_reply, call_reply}
use Rattle.document_lines.specs.Machine.{Machine, active_of, with_active, opened, started}

abbrev pub Act : Type 0 → Type 1
Act S = S → Option Reply → S → Type 0

-- a refused line changes nothing
abbrev pub Refuses : {S : Type 0} → Refusal → Act S
Refuses refusal old reply new = (reply ≡ Some (replies.Refused refusal)) × (new ≡ old)

-- the reply tells of what there is, and nothing changes
abbrev pub Answers : {S : Type 0} → (S → Reply) → Act S
Answers answer old reply new = (reply ≡ Some (answer old)) × (new ≡ old)

-- no reply, and nothing changes
abbrev pub Passes : {S : Type 0} → Act S
Passes old reply new = (reply ≡ None) × (new ≡ old)

-- an act, or out of memory
abbrev pub OrNoMemory : {S : Type 0} → Act S → Act S
OrNoMemory act old reply new = act old reply new ⊎ Refuses refusals.NoMemory old reply new

-- ---- over the active document
-- a call of the stack that may be refused, and then leaves the history as it was
abbrev pub Calls : (History → Answer → History → Type 0) → Act History
Calls Call h reply n = (answer : Answer) × Call h answer n × (reply ≡ Some (call_reply answer n))

-- the action text of a macro: the one that was given, or else its text
abbrev pub action_or : List ℕ → Option (List ℕ) → List ℕ
action_or text None = text
action_or text (Some action) = action

-- the undo limit is set: where there are steps that is the refusal, and else the limit must be in its range
abbrev pub LimitsAt : ℕ → Bool → ℕ → Act History
LimitsAt (suc steps) within limit h reply n = Refuses stack_not_empty h reply n
LimitsAt zero true limit h reply n = Calls (SetsLimit limit) h reply n
LimitsAt zero false limit h reply n = Refuses out_of_range h reply n

abbrev pub LimitsTo : ℕ → Act History
LimitsTo limit h reply n = LimitsAt (count h) (leb limit MAX_LIMIT) limit h reply n

-- a call of the stack that nothing refuses
abbrev pub Becomes : (History → History → Type 0) → Act History
Becomes Call h reply n = Call h n × (reply ≡ Some (state_reply n))

-- the step of an edit with these names, or the edit's refusal
abbrev pub answer_of : Names → Result DocumentParts EditFault → Result Step Refusal
answer_of names (Ok d) = Ok (step_named names d)
answer_of names (Err fault) = Err (refusal_of_edit fault)

-- an accepted edit is pushed
abbrev pub Pushes : Result Step Refusal → Act History
Pushes (Ok s) h reply n = IsPushed h s n × (reply ≡ Some (state_reply n))
Pushes (Err refusal) h reply n = Refuses refusal h reply n

-- where a reply leaves the machine whose active history has become n: a refusal leaves it as it was
abbrev pub moved_to : Option Reply → History → Machine → Machine
moved_to (Some (replies.Refused refusal)) n m = m
moved_to reply n m = with_active n m

-- what is done with the active history, where there is one
abbrev pub WithActive : Act History → Option History → Act Machine
WithActive act None old reply new = Refuses refusals.NoActiveDocument old reply new
WithActive act (Some h) old reply new = (n : History) × act h reply n × (new ≡ moved_to reply n old)

-- ---- over the open documents
-- the machine goes on with this group, and the reply says how that stands
abbrev pub GoesOn : (GroupParts → GroupParts) → Act Machine
GoesOn change old reply new = (reply ≡ Some (status_reply (active_history (change old.group)))) × (new ≡ record old { group = change old.group })

-- a document that must be there
abbrev pub IfNamed : (History → Act Machine) → Option History → Act Machine
IfNamed act None = Refuses refusals.NoSuchDocument
IfNamed act (Some h) = act h

abbrev pub Named : List ℕ → (History → Act Machine) → Act Machine
Named name act old reply new = IfNamed act (history_named name old.group.documents) old reply new

-- a document is closed where it is clean: where it was the active one, none is
abbrev pub ClosesBy : Bool → List ℕ → Act Machine
ClosesBy true name = GoesOn (removed name)
ClosesBy false name = Refuses refusals.UnsavedChanges

abbrev pub Closes : List ℕ → History → Act Machine
Closes name h = ClosesBy (is_clean h) name

-- the document goes last, and is the active one
abbrev pub Opens : List ℕ → History → Act Machine
Opens name h old reply new = (reply ≡ Some (state_reply h)) × (new ≡ record old { group = opened name h old.group })

-- a name that must be free
abbrev pub IfFree : Act Machine → Option History → Act Machine
IfFree act None = act
IfFree act (Some h) = Refuses refusals.NameTaken

abbrev pub NotTaken : List ℕ → Act Machine → Act Machine
NotTaken name act old reply new = IfFree act (history_named name old.group.documents) old reply new

-- a new document, where its sizes are within the limits
abbrev pub Creates : List ℕ → ℕ → ℕ → ℕ → ℕ → List ℕ → Act Machine
Creates name width height tile_width tile_height source old reply new =
    (IsSize width height × IsTileSize tile_width tile_height × Opens name (started old.limit width height tile_width tile_height source) old reply new)
    ⊎ ((IsSize width height × IsTileSize tile_width tile_height → ⊥) × Refuses out_of_range old reply new)

-- a document becomes the active one, or none does
abbrev pub Uses : Option (List ℕ) → Act Machine
Uses None = GoesOn (chosen None)
Uses (Some name) = Named name (λ h. GoesOn (chosen (Some name)))

-- a text of the active document, or an empty one, for which no memory is wanted
abbrev pub TellsText : (History → List ℕ) → Act Machine
TellsText text old reply new =
    Answers (λ m. replies.Text (text_of_active text (active_of m))) old reply new ⊎ (IsSome (active_of old) × Refuses refusals.NoMemory old reply new)

-- ---- over the files
-- an act, and what the store keeps before and after it
abbrev pub FileAct : Type 0 → Type 1
FileAct S = StoreParts → StoreParts → Act S

-- an act for which no store is called
abbrev pub Alone : {S : Type 0} → Act S → FileAct S
Alone act before after old reply new = act old reply new × (after ≡ before)

-- the name must be free, before the store is called
abbrev pub IfNewName : FileAct Machine → Option History → FileAct Machine
IfNewName act None = act
IfNewName act (Some h) = Alone (Refuses refusals.NameTaken)

abbrev pub NewName : List ℕ → FileAct Machine → FileAct Machine
NewName name act before after old reply new = IfNewName act (history_named name old.group.documents) before after old reply new

-- a document must be active
abbrev pub IfActive : FileAct History → Option History → FileAct Machine
IfActive act None before after old reply new = Alone (Refuses refusals.NoActiveDocument) before after old reply new
IfActive act (Some h) before after old reply new = (n : History) × act before after h reply n × (new ≡ moved_to reply n old)

abbrev pub OfActive : FileAct History → FileAct Machine
OfActive act before after old reply new = IfActive act (active_of old) before after old reply new

-- no macro may be open
abbrev pub IfOutside : FileAct History → Answer → FileAct History
IfOutside act (Ok done) = act
IfOutside act (Err fault) = Alone (Refuses (refusal_of_stack fault))

abbrev pub OutsideMacros : FileAct History → FileAct History
OutsideMacros act before after h reply n = IfOutside act (clean_answer h) before after h reply n

-- no file changes
abbrev pub FilesStay : Files → Files → Type 0
FilesStay before after = after ≡ before

-- an act, or the store failed
abbrev pub OrStoreFails : {S : Type 0} → (Files → Files → Type 0) → FileAct S → FileAct S
OrStoreFails Leaves act before after old reply new =
    act before after old reply new
    ⊎ (HasFailed before after × IsCalled Leaves before after × Refuses store_failed old reply new)

-- an act, or out of memory, whether the store was called or not
abbrev pub OrNoMemoryForFile : {S : Type 0} → FileAct S → FileAct S
OrNoMemoryForFile act before after old reply new =
    act before after old reply new
    ⊎ (IsCalled FilesStay before after × Refuses refusals.NoMemory old reply new)

-- what a file says becomes a document, or is refused
abbrev pub Reads : List ℕ → Option (List ℕ) → Act Machine
Reads name None old reply new = Refuses no_such_file old reply new
Reads name (Some bytes) old reply new =
    ((m : MapParts) × Says bytes (Ok m) × Opens name (new_history (document_of m) old.limit) old reply new)
    ⊎ ((refusal : MapRefusal) × Says bytes (Err (Refused refusal)) × Refuses (refusals.Map refusal) old reply new)

-- what the store finds is read: where it is honest, what is there
abbrev pub Loads : List ℕ → List ℕ → FileAct Machine
Loads name file before after old reply new =
    IsCalled FilesStay before after
    × (found : Option (List ℕ)) × (IsTrue before.honest → found ≡ get before.files file) × Reads name found old reply new

-- the file has these bytes, and no other file has changed
abbrev pub HasBytes : List ℕ → List ℕ → Files → Files → Type 0
HasBytes file bytes before after = after ≡ insert before file bytes

-- the position is the clean one
abbrev pub marked_clean : History → History
marked_clean h = record h { clean = Some h.position }

-- the map's text is put into the file, and then the position is the clean one
abbrev pub Saves : List ℕ → FileAct History
Saves file before after h reply n =
    IsCalled (HasBytes file (text_of (current h).map)) before after
    × (reply ≡ Some (replies.Saved file (length (text_of (current h).map))))
    × (n ≡ marked_clean h)
