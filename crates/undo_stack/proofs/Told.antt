-- What is told of a push, or of the end of a macro.
use Rattle.std.proofs.Common.{◌≡◌, Bool, true, false, List, [], ◌∷◌, refl}
use Rattle.std.specs.Prelude.{◌↔◌}
use Rattle.command_api.specs.Law.{Change}
use Rattle.undo_stack.specs.History.{Open, History, current}
use Rattle.undo_stack.specs.Pushing.{cut, next_of, step_of}
use Rattle.undo_stack.specs.Stacks.{history, IsTold}
use Rattle.undo_stack.specs.Told.{added_as, merged_as, says_gone, says_merged, IsAdded, IsFull, TellsDrop}
use Rattle.undo_stack.specs.declared.pushed.Pushed.{Pushed}
use Rattle.undo_stack.specs.declared.pushed.Pushed.TheVariants.{Added, AddedAndDropped}
use Rattle.undo_stack.specs.declared.stack.Stack.{Stack}
use Rattle.undo_stack.proofs.Turnings.{false-true}

-- ---- a step that is added, and a command that is merged
pub IsAdded-added_as : (dropped : Bool) → IsAdded (added_as dropped)
IsAdded-added_as true = (refl, refl)
IsAdded-added_as false = (refl, refl)

pub says_merged-merged_as : (gone : Bool) → says_merged (merged_as gone) ≡ true
says_merged-merged_as true = refl
says_merged-merged_as false = refl

pub says_gone-merged_as : (gone : Bool) → says_gone (merged_as gone) ≡ gone
says_gone-merged_as true = refl
says_gone-merged_as false = refl

-- ---- the drop
pub added_as-TellsDrop : (dropped : Bool) (ls : List Open) (h : History) → dropped ≡ true ↔ IsFull ls h → TellsDrop (added_as dropped) ls h
added_as-TellsDrop true ls h where_full = ((λ _. ((refl, refl), where_full.0 refl)), (λ _. refl))
added_as-TellsDrop false ls h where_full = (
  (λ p. absurd (let bad : Added ≡ AddedAndDropped = p in let worse : ⊥ = cc in worse)),
  (λ full. false-true (where_full.1 full.1)),
)

-- where no step is added, none is dropped
pub unadded-TellsDrop : (p : Pushed) (ls : List Open) (h : History) → (IsAdded p → ⊥) → TellsDrop p ls h
unadded-TellsDrop p ls h unadded = (
  (λ is. absurd (unadded (rw is (refl, refl)))),
  (λ full. absurd (unadded full.0)),
)

-- it is told by the limit and the position alone
pub IsFull-as : (ls : List Open) (h n : History) → h.limit ≡ n.limit → h.position ≡ n.position → IsFull ls h → IsFull ls n
IsFull-as [] h n limit position full = rw (← limit, ← position) full
IsFull-as (l ∷ ls) h n limit position full = full

pub TellsDrop-as : (p : Pushed) (ls ms : List Open) (h n : History) → IsFull ls h ↔ IsFull ms n → TellsDrop p ls h → TellsDrop p ms n
TellsDrop-as p ls ms h n same tells = (
  (λ is. let full = tells.0 is in (full.0, same.0 full.1)),
  (λ full. tells.1 (full.0, same.1 full.1)),
)

-- ---- the history that follows from what is told
pub told-next : {C : Type 0} (f : C → Change) (x : C) (p : Pushed) (s t : Stack C) → IsTold f x p s t
    → history f t ≡ next_of (says_merged p) (says_gone p) (step_of (f x) (current (history f s))) (cut (history f s))
told-next f x p s t told = rw (told.merged, told.gone) told.report.next
