-- What a line does is one thing, unless memory ran out or the store failed.
use Rattle.std.proofs.Common.{◌≡◌, ℕ, List, Bool, true, false, IsTrue, Option, Some, None, Result, Ok, Err, zero, suc, refl, sym, ap, ◌∙◌}
use Rattle.std.proofs.Common.{subst, inl, inr, ap₂, IfOk}
use Rattle.std.specs.Prelude.{⊤}
use Rattle.std.specs.FinMap.{get, insert}
use Rattle.map_model.specs.Document.{DocumentParts, document_of}
use Rattle.map_model.specs.declared.parts.MapParts.{MapParts}
use Rattle.map_json.specs.Maps.{IsRefusedAs, Says}
use Rattle.map_json.specs.Trees.{text_of}
use Rattle.command_api.specs.Names.{Names, is_free}
use Rattle.map_store.specs.Files.{Files, SameOthers, StoreParts}
use Rattle.refusals.specs.declared.edit_fault.EditFault.{EditFault}
use Rattle.refusals.specs.declared.map_refusal.MapRefusal.{MapRefusal}
use Rattle.refusals.specs.declared.refusal.Refusal.{Refusal}
use Rattle.refusals.specs.declared.refusal.Refusal.TheVariants as refusals
use Rattle.refusals.specs.Layers.{refusal_of_stack, store_failed}
use Rattle.undo_stack.specs.History.{Step, History, current, is_clean, new_history}
use Rattle.undo_stack.specs.Moving.{Answer, Leads, StepsBack, StepsOn, GoesTo, MarksClean, SetsLimit, clean_answer}
use Rattle.undo_stack.specs.Macros.{Begins, BeginAnswers, Ends}
use Rattle.undo_group.specs.Groups.{GroupParts, chosen, history_named, removed}
use Rattle.session.specs.declared.reply.Reply.{Reply}
use Rattle.session.specs.declared.reply.Reply.TheVariants as replies
use Rattle.document_lines.specs.Acts.{Act, Alone, Answers, Becomes, Calls, Closes, ClosesBy, Creates, FileAct, FilesStay, GoesOn, IfActive, IfFree, IfNamed}
use Rattle.document_lines.specs.Acts.{IfNewName}
use Rattle.document_lines.specs.Acts.{IfOutside, LimitsAt, Loads, Named, NewName, NotTaken, OfActive, Opens, OrNoMemory, OrNoMemoryForFile, OrStoreFails}
use Rattle.document_lines.specs.Acts.{OutsideMacros}
use Rattle.document_lines.specs.Acts.{Pushes, Reads, answer_of, moved_to, Refuses, Saves, TellsText, Uses, WithActive, marked_clean}
use Rattle.document_lines.specs.Answers.{call_reply, state_reply}
use Rattle.document_lines.specs.Machine.{Machine, active_of}
use Rattle.session_run.proofs.Tame.{IsTame}
use Rattle.session_run.proofs.Once.{leads-once, pushed-once}
use Rattle.session_run.specs.Journals.{IsSure}

-- no reply, or one that is neither for want of memory nor of a store that failed
abbrev pub AllSure : Option Reply → Type 0
AllSure None = ⊤
AllSure (Some reply) = IsSure reply

-- one reply, and one state
abbrev pub AreSame : {S : Type 0} → Option Reply → S → Option Reply → S → Type 0
AreSame reply n other m = (reply ≡ other) × (n ≡ m)

-- from this state an act is one thing
abbrev pub IsOnce : {S : Type 0} → Act S → S → Type 0
IsOnce {S} act old = (reply other : Option Reply) (n m : S) → AllSure reply → AllSure other → act old reply n → act old other m → AreSame reply n other m

-- honest stores with the same files
pub record AreAlike (one other : StoreParts) : Type 0 where
  pub files : one.files ≡ other.files
  pub honest : IsTrue one.honest
  pub also : IsTrue other.honest

-- so is one over files, where the stores are honest and have the same files
abbrev pub IsOnceOver : {S : Type 0} → FileAct S → S → Type 0
IsOnceOver {S} act old = (reply other : Option Reply) (n m : S) (before since after then : StoreParts) → AllSure reply → AllSure other → AreAlike before since
    → act before after old reply n → act since then old other m → AreSame reply n other m × (after.files ≡ then.files)

no_memory : {A : Type 0} (reply : Option Reply) → AllSure reply → reply ≡ Some (replies.Refused refusals.NoMemory) → A
no_memory reply sure is = absurd ((subst AllSure is sure).0 refl)

no_store : {A : Type 0} (reply : Option Reply) → AllSure reply → reply ≡ Some (replies.Refused store_failed) → A
no_store reply sure is = absurd ((subst AllSure is sure).1 refl)

-- both are the one that is named
named-same : {S : Type 0} (r reply other : Option Reply) (s n m : S) → (reply ≡ r) × (n ≡ s) → (other ≡ r) × (m ≡ s) → AreSame reply n other m
named-same r reply other s n m x y = (x.0 ∙ sym y.0, x.1 ∙ sym y.1)

pub refuses-once : {S : Type 0} (refusal : Refusal) (old : S) → IsOnce (Refuses refusal) old
refuses-once refusal old reply other n m sure also x y = named-same _ reply other old n m x y

pub or_memory-once : {S : Type 0} (act : Act S) (old : S) → IsOnce act old → IsOnce (OrNoMemory act) old
or_memory-once act old once reply other n m sure also (inl x) (inl y) = once reply other n m sure also x y
or_memory-once act old once reply other n m sure also (inl x) (inr y) = no_memory other also y.0
or_memory-once act old once reply other n m sure also (inr x) y = no_memory reply sure x.0

pub answers-once : {S : Type 0} (answer : S → Reply) (old : S) → IsOnce (Answers answer) old
answers-once answer old reply other n m sure also x y = named-same _ reply other old n m x y

pub answers_or_memory-once : {S : Type 0} (answer : S → Reply) (old : S) → IsOnce (OrNoMemory (Answers answer)) old
answers_or_memory-once answer old = or_memory-once (Answers answer) old (answers-once answer old)

-- ---- calls of the active stack
abbrev IsOneCall : (History → Answer → History → Type 0) → History → Type 0
IsOneCall Call h = (a b : Answer) (n m : History) → IsSure (call_reply a n) → IsSure (call_reply b m) → Call h a n → Call h b m → (a ≡ b) × (n ≡ m)

pub calls-once : (Call : History → Answer → History → Type 0) (h : History) → IsOneCall Call h → IsOnce (Calls Call) h
calls-once Call h once reply other n m sure also x y =
    let same = once x.0 y.0 n m (subst AllSure x.2 sure) (subst AllSure y.2 also) x.1 y.1 in
    (x.2 ∙ ap₂ (λ a k. Some (call_reply a k)) same.0 same.1 ∙ sym y.2, same.1)

led-once : (f a b : Answer) (h next n m : History) → a ≡ f → b ≡ f → Leads a h next n → Leads b h next m → (a ≡ b) × (n ≡ m)
led-once f a b h next n m is so x y =
    let same = is ∙ sym so in
    (same, leads-once b h next n m (subst (λ c. Leads c h next n) same x) y)

pub back-once : (h : History) → IsOneCall StepsBack h
back-once h a b n m sure also x y = led-once _ a b h _ n m x.answered y.answered x.leads y.leads

pub on-once : (h : History) → IsOneCall StepsOn h
on-once h a b n m sure also x y = led-once _ a b h _ n m x.answered y.answered x.leads y.leads

pub goto-once : (i : ℕ) (h : History) → IsOneCall (GoesTo i) h
goto-once i h a b n m sure also x y = led-once _ a b h _ n m x.answered y.answered x.leads y.leads

pub clean-once : (h : History) → IsOneCall MarksClean h
clean-once h a b n m sure also x y = led-once _ a b h _ n m x.answered y.answered x.leads y.leads

limit-once : (limit : ℕ) (h : History) → IsOneCall (SetsLimit limit) h
limit-once limit h a b n m sure also x y = led-once _ a b h _ n m x.answered y.answered x.leads y.leads

pub ends-once : (h : History) → IsOneCall Ends h
ends-once h a b n m sure also x y = led-once _ a b h _ n m x.answered y.answered x.leads y.leads

-- a macro that begins; a stack that wants memory is not sure
begun-once : (room : Bool) (a b : Answer) (n m : History) → IsSure (call_reply a n) → IsSure (call_reply b m) → BeginAnswers room a → BeginAnswers room b
    → a ≡ b
begun-once true a b n m sure also (inl x) (inl y) = x ∙ sym y
begun-once true a b n m sure also (inl x) (inr y) = absurd ((subst (λ c. IsSure (call_reply c m)) y also).0 refl)
begun-once true a b n m sure also (inr x) y = absurd ((subst (λ c. IsSure (call_reply c n)) x sure).0 refl)
begun-once false a b n m sure also x y = x ∙ sym y

pub begins-once : (text action : List ℕ) (h : History) → IsOneCall (Begins text action) h
begins-once text action h a b n m sure also x y =
    led-once b a b h _ n m (begun-once _ a b n m sure also x.answered y.answered) refl x.leads y.leads

pub limits-once : (steps : ℕ) (within : Bool) (limit : ℕ) (h : History) → IsOnce (LimitsAt steps within limit) h
limits-once (suc steps) within limit h reply other n m sure also x y = refuses-once _ h reply other n m sure also x y
limits-once zero true limit h reply other n m sure also x y = calls-once (SetsLimit limit) h (limit-once limit h) reply other n m sure also x y
limits-once zero false limit h reply other n m sure also x y = refuses-once _ h reply other n m sure also x y

pub becomes-once : (next : History → History) (h : History) → IsOnce (Becomes (λ k n. n ≡ next k)) h
becomes-once next h reply other n m sure also x y =
    let same = x.0 ∙ sym y.0 in
    (x.1 ∙ ap (λ k. Some (state_reply k)) same ∙ sym y.1, same)

-- ---- edits
pushes-once : (answer : Result Step Refusal) (h : History) → IsTame h → (IfOk answer (λ s. is_free s.names.vanishing ≡ false)) → IsOnce (Pushes answer) h
pushes-once (Ok s) h tame bound reply other n m sure also x y =
    let same = pushed-once h s n m tame bound x.0 y.0 in
    (x.1 ∙ ap (λ k. Some (state_reply k)) same ∙ sym y.1, same)
pushes-once (Err refusal) h tame bound reply other n m sure also x y = refuses-once refusal h reply other n m sure also x y

answer-bound : (names : Names) (edited : Result DocumentParts EditFault) → is_free names.vanishing ≡ false
    → IfOk (answer_of names edited) (λ s. is_free s.names.vanishing ≡ false)
answer-bound names (Ok d) bound = bound
answer-bound names (Err fault) bound = tt

pub edit-once : (names : Names) (edited : Result DocumentParts EditFault) (h : History) → IsTame h → is_free names.vanishing ≡ false
    → IsOnce (OrNoMemory (Pushes (answer_of names edited))) h
edit-once names edited h tame bound =
    or_memory-once (Pushes (answer_of names edited)) h (pushes-once (answer_of names edited) h tame (answer-bound names edited bound))

-- with the active history, where there is one
pub active-once : (act : Act History) (active : Option History) (old : Machine) → ((h : History) → active ≡ Some h → IsOnce act h)
    → IsOnce (WithActive act active) old
active-once act None old once reply other n m sure also x y = refuses-once _ old reply other n m sure also x y
active-once act (Some h) old once reply other n m sure also x y =
    let same = once h refl reply other x.0 y.0 sure also x.1 y.1 in
    (same.0, x.2 ∙ ap₂ (λ r k. moved_to r k old) same.0 same.1 ∙ sym y.2)

-- ---- the open documents
pub goes_on-once : (change : GroupParts → GroupParts) (old : Machine) → IsOnce (GoesOn change) old
goes_on-once change old reply other n m sure also x y = named-same _ reply other _ n m x y

if_named-once : (act : History → Act Machine) (named : Option History) (old : Machine) → ((h : History) → IsOnce (act h) old) → IsOnce (IfNamed act named) old
if_named-once act None old once = refuses-once _ old
if_named-once act (Some h) old once = once h

pub named-once : (name : List ℕ) (act : History → Act Machine) (old : Machine) → ((h : History) → IsOnce (act h) old) → IsOnce (Named name act) old
named-once name act old once reply other n m sure also x y =
    if_named-once act (history_named name old.group.documents) old once reply other n m sure also x y

closes-once : (clean : Bool) (name : List ℕ) (old : Machine) → IsOnce (ClosesBy clean name) old
closes-once true name old = goes_on-once (removed name) old
closes-once false name old = refuses-once _ old

opens-once : (name : List ℕ) (h : History) (old : Machine) → IsOnce (Opens name h) old
opens-once name h old reply other n m sure also x y = named-same _ reply other _ n m x y

if_free-once : (act : Act Machine) (named : Option History) (old : Machine) → IsOnce act old → IsOnce (IfFree act named) old
if_free-once act None old once = once
if_free-once act (Some h) old once = refuses-once _ old

not_taken-once : (name : List ℕ) (act : Act Machine) (old : Machine) → IsOnce act old → IsOnce (NotTaken name act) old
not_taken-once name act old once reply other n m sure also x y =
    if_free-once act (history_named name old.group.documents) old once reply other n m sure also x y

creates-once : (name : List ℕ) (width height tile_width tile_height : ℕ) (source : List ℕ) (old : Machine)
    → IsOnce (Creates name width height tile_width tile_height source) old
creates-once name width height tile_width tile_height source old reply other n m sure also (inl x) (inl y) = named-same _ reply other _ n m x.2 y.2
creates-once name width height tile_width tile_height source old reply other n m sure also (inl x) (inr y) = absurd (y.0 (x.0, x.1))
creates-once name width height tile_width tile_height source old reply other n m sure also (inr x) (inl y) = absurd (x.0 (y.0, y.1))
creates-once name width height tile_width tile_height source old reply other n m sure also (inr x) (inr y) = named-same _ reply other old n m x.1 y.1

pub new-once : (name : List ℕ) (width height tile_width tile_height : ℕ) (source : List ℕ) (old : Machine)
    → IsOnce (NotTaken name (OrNoMemory (Creates name width height tile_width tile_height source))) old
new-once name width height tile_width tile_height source old =
    let creates : Act Machine = Creates name width height tile_width tile_height source in
    not_taken-once name (OrNoMemory creates) old (or_memory-once creates old (creates-once name width height tile_width tile_height source old))

pub close-once : (name : List ℕ) (old : Machine) → IsOnce (Named name (Closes name)) old
close-once name old = named-once name (Closes name) old (λ h. closes-once (is_clean h) name old)

pub uses-once : (choice : Option (List ℕ)) (old : Machine) → IsOnce (Uses choice) old
uses-once None old = goes_on-once (chosen None) old
uses-once (Some name) old = named-once name (λ h. GoesOn (chosen (Some name))) old (λ h. goes_on-once (chosen (Some name)) old)

pub tells-once : (text : History → List ℕ) (old : Machine) → IsOnce (TellsText text) old
tells-once text old reply other n m sure also (inl x) (inl y) = named-same _ reply other old n m x y
tells-once text old reply other n m sure also (inl x) (inr y) = no_memory other also y.1.0
tells-once text old reply other n m sure also (inr x) y = no_memory reply sure x.1.0

-- ---- the files
alone-once : {S : Type 0} (act : Act S) (old : S) → IsOnce act old → IsOnceOver (Alone act) old
alone-once act old once reply other n m before since after then sure also alike x y =
    (once reply other n m sure also x.0 y.0, ap (λ s. s.files) x.1 ∙ alike.files ∙ sym (ap (λ s. s.files) y.1))

or_store-once : {S : Type 0} (Leaves : Files → Files → Type 0) (act : FileAct S) (old : S) → IsOnceOver act old
    → IsOnceOver (OrStoreFails Leaves act) old
or_store-once Leaves act old once reply other n m before since after then sure also alike (inl x) (inl y) =
    once reply other n m before since after then sure also alike x y
or_store-once Leaves act old once reply other n m before since after then sure also alike (inl x) (inr y) = no_store other also y.2.0
or_store-once Leaves act old once reply other n m before since after then sure also alike (inr x) y = no_store reply sure x.2.0

or_file_memory-once : {S : Type 0} (act : FileAct S) (old : S) → IsOnceOver act old
    → IsOnceOver (OrNoMemoryForFile act) old
or_file_memory-once act old once reply other n m before since after then sure also alike (inl x) (inl y) =
    once reply other n m before since after then sure also alike x y
or_file_memory-once act old once reply other n m before since after then sure also alike (inl x) (inr y) = no_memory other also y.1.0
or_file_memory-once act old once reply other n m before since after then sure also alike (inr x) y = no_memory reply sure x.1.0

-- what bytes say
says-once : (bytes : List ℕ) (p q : MapParts) → Says bytes (Ok p) → Says bytes (Ok q) → p ≡ q
says-once bytes p q x y = let one = x.1.1 in let other = y.1.1 in let says = x.2 in let also = y.2 in cc

not_both : {A : Type 0} (bytes : List ℕ) (p : MapParts) (f : MapRefusal) → Says bytes (Ok p) → IsRefusedAs bytes f → A
not_both bytes p f x (inl y) = let never = y.1 x.1.0 in absurd cc
not_both bytes p f x (inr y) = let one = x.1.1 in let other = y.1.1 in let says = x.2 in let refused = y.2 in absurd cc

refused-once : (bytes : List ℕ) (f g : MapRefusal) → IsRefusedAs bytes f → IsRefusedAs bytes g → f ≡ g
refused-once bytes f g (inl x) (inl y) = x.0 ∙ sym y.0
refused-once bytes f g (inl x) (inr y) = let none = x.1 y.1.0 in let some = y.1.1 in absurd cc
refused-once bytes f g (inr x) (inl y) = let none = y.1 x.1.0 in let some = x.1.1 in absurd cc
refused-once bytes f g (inr x) (inr y) = let one = x.1.1 in let other = y.1.1 in let says = x.2 in let refused = y.2 in cc

bytes-once : (name bytes : List ℕ) (old : Machine) → IsOnce (Reads name (Some bytes)) old
bytes-once name bytes old reply other n m sure also (inl x) (inl y) =
    let same = says-once bytes x.0 y.0 x.1 y.1 in
    let Opened : MapParts → Type 0 = λ p. Opens name (new_history (document_of p) old.limit) old reply n in
    opens-once name (new_history (document_of y.0) old.limit) old reply other n m sure also (subst Opened same x.2) y.2
bytes-once name bytes old reply other n m sure also (inl x) (inr y) = not_both bytes x.0 y.0 x.1 y.1
bytes-once name bytes old reply other n m sure also (inr x) (inl y) = not_both bytes y.0 x.0 y.1 x.1
bytes-once name bytes old reply other n m sure also (inr x) (inr y) =
    let same = refused-once bytes x.0 y.0 x.1 y.1 in
    let Refused : MapRefusal → Type 0 = λ f. Refuses (refusals.Map f) old reply n in
    refuses-once (refusals.Map y.0) old reply other n m sure also (subst Refused same x.2) y.2

reads-once : (name : List ℕ) (found : Option (List ℕ)) (old : Machine) → IsOnce (Reads name found) old
reads-once name None old = refuses-once _ old
reads-once name (Some bytes) old = bytes-once name bytes old

loads-once : (name file : List ℕ) (old : Machine) → IsOnceOver (Loads name file) old
loads-once name file old reply other n m before since after then sure also alike x y =
    let found = x.2 alike.honest ∙ ap (λ f. get f file) alike.files ∙ sym (y.2 alike.also) in
    let Reading : Option (List ℕ) → Type 0 = λ f. Reads name f old reply n in (
      reads-once name y.1 old reply other n m sure also (subst Reading found x.3) y.3,
      x.0.files alike.honest ∙ alike.files ∙ sym (y.0.files alike.also),
    )

saves-once : (file : List ℕ) (h : History) → IsOnceOver (Saves file) h
saves-once file h reply other n m before since after then sure also alike x y = (
  named-same _ reply other (marked_clean h) n m (x.1, x.2) (y.1, y.2),
  x.0.files alike.honest ∙ ap (λ f. insert f file (text_of (current h).map)) alike.files ∙ sym (y.0.files alike.also),
)

loads_or_fails-once : (name file : List ℕ) (old : Machine)
    → IsOnceOver (OrStoreFails FilesStay (OrNoMemoryForFile (Loads name file))) old
loads_or_fails-once name file old =
    or_store-once FilesStay (OrNoMemoryForFile (Loads name file)) old (or_file_memory-once (Loads name file) old (loads-once name file old))

if_new-once : (act : FileAct Machine) (named : Option History) (old : Machine) → IsOnceOver act old
    → IsOnceOver (IfNewName act named) old
if_new-once act None old once = once
if_new-once act (Some h) old once = alone-once (Refuses refusals.NameTaken) old (refuses-once refusals.NameTaken old)

pub open-once : (name file : List ℕ) (old : Machine)
    → IsOnceOver (NewName name (OrStoreFails FilesStay (OrNoMemoryForFile (Loads name file)))) old
open-once name file old =
    if_new-once (OrStoreFails FilesStay (OrNoMemoryForFile (Loads name file))) (history_named name old.group.documents) old
    (loads_or_fails-once name file old)

saves_or_fails-once : (file : List ℕ) (h : History)
    → IsOnceOver (OrStoreFails (SameOthers file) (OrNoMemoryForFile (Saves file))) h
saves_or_fails-once file h =
    or_store-once (SameOthers file) (OrNoMemoryForFile (Saves file)) h (or_file_memory-once (Saves file) h (saves-once file h))

if_outside-once : (act : FileAct History) (answer : Answer) (h : History) → IsOnceOver act h
    → IsOnceOver (IfOutside act answer) h
if_outside-once act (Ok done) h once = once
if_outside-once act (Err fault) h once = alone-once (Refuses (refusal_of_stack fault)) h (refuses-once (refusal_of_stack fault) h)

if_active-once : (act : FileAct History) (active : Option History) (old : Machine) → ((h : History) → IsOnceOver act h)
    → IsOnceOver (IfActive act active) old
if_active-once act None old once reply other n m before since after then sure also alike x y =
    alone-once (Refuses refusals.NoActiveDocument) old (refuses-once refusals.NoActiveDocument old) reply other n m before since after then sure also alike x y
if_active-once act (Some h) old once reply other n m before since after then sure also alike x y =
    let same = once h reply other x.0 y.0 before since after then sure also alike x.1 y.1 in
    ((same.0.0, x.2 ∙ ap₂ (λ r k. moved_to r k old) same.0.0 same.0.1 ∙ sym y.2), same.1)

pub save-once : (file : List ℕ) (old : Machine)
    → IsOnceOver (OfActive (OutsideMacros (OrStoreFails (SameOthers file) (OrNoMemoryForFile (Saves file))))) old
save-once file old =
    let act : FileAct History = OrStoreFails (SameOthers file) (OrNoMemoryForFile (Saves file)) in
    if_active-once (OutsideMacros act) (active_of old) old
    (λ h. if_outside-once act (clean_answer h) h (saves_or_fails-once file h))
