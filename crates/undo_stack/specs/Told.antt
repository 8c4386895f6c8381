-- What a push, or the end of a macro, tells of itself.
use Rattle.std.specs.Prelude.{◌≡◌, ◌↔◌, ◌<◌, ◌+◌, Bool, true, false, List, [], ◌∷◌, Option, Result, Ok, Err}
use Rattle.map_model.specs.Document.{DocumentParts}
use Rattle.command_api.specs.Law.{Change}
use Rattle.refusals.specs.declared.stack_fault.StackFault.{StackFault}
use Rattle.undo_stack.specs.History.{Open, History}
use Rattle.undo_stack.specs.Moving.{Answer}
use Rattle.undo_stack.specs.Nestings.{Shape}
use Rattle.undo_stack.specs.Reporting.{IsReportedAt, reports}
use Rattle.undo_stack.specs.declared.entry.Entry.{Entry}
use Rattle.undo_stack.specs.declared.pushed.Pushed.{Pushed}
use Rattle.undo_stack.specs.declared.pushed.Pushed.TheVariants.{Added, AddedAndDropped, Merged, Gone, Nothing}

-- whether the target took the command in
abbrev pub says_merged : Pushed → Bool
says_merged Added = false
says_merged AddedAndDropped = false
says_merged Merged = true
says_merged Gone = true
says_merged Nothing = false

-- whether no step is left of it
abbrev pub says_gone : Pushed → Bool
says_gone Added = false
says_gone AddedAndDropped = false
says_gone Merged = false
says_gone Gone = true
says_gone Nothing = true

-- a step was added
abbrev pub IsAdded : Pushed → Type 0
IsAdded p = (says_merged p ≡ false) × (says_gone p ≡ false)

-- of a step that is added, by whether the first one is dropped
abbrev pub added_as : Bool → Pushed
added_as true = AddedAndDropped
added_as false = Added

-- of a command that is merged, by whether no step is left of it
abbrev pub merged_as : Bool → Pushed
merged_as true = Gone
merged_as false = Merged

-- with these levels open, a step that is added is one more than the limit allows: none is open, and the position with the step
-- is past a limit other than 0
abbrev pub IsFull : List Open → History → Type 0
IsFull [] h = (0 < h.limit) × (h.limit < h.position + 1)
IsFull (l ∷ ls) h = ⊥

-- p tells whether the first step is dropped, with these levels open: exactly where a step is added that is one too many
abbrev pub TellsDrop : Pushed → List Open → History → Type 0
TellsDrop p ls h = p ≡ AddedAndDropped ↔ IsAdded p × IsFull ls h

-- pushing the command x gave what is reported, and p tells of that whether it is merged, and whether its step is gone
pub record IsToldAt {C : Type 0} (f : C → Change) (x : C) (d : DocumentParts) (v : Option (Entry C)) (a : Shape) (e : DocumentParts) (n : Shape)
    (p : Pushed) : Type 0 where
  pub report : IsReportedAt f x d v a e n
  pub merged : says_merged p ≡ report.merged
  pub gone : says_gone p ≡ reports f report.entry

-- whether a call is done or refused, without what it tells
abbrev pub answer_of : Result Pushed StackFault → Answer
answer_of (Ok p) = Ok tt
answer_of (Err fault) = Err fault
