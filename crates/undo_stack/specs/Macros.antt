-- Macros: a level that opens and closes.
--
-- begin: where as many levels are open as can be, it is refused. Else, with no level open, the steps past the position go,
-- and a clean position past it is lost; then a level opens, inside those that are open, at the current document.
-- end: where no level is open, it is refused. Else the innermost level closes, and a step with its two texts and its last
-- document is added as that of an edit is, also where the level has no inner steps.
use Rattle.std.specs.Prelude.{◌≡◌, ℕ, List, [], ◌∷◌, ◌++◌, length, nat_lt, Bool, true, false, ◌⊎◌, Ok, Err}
use Rattle.command_api.specs.Names.{untagged, Never}
use Rattle.undo_stack.specs.History.{Step, step_named, Open, History, last_after, innermost, current}
use Rattle.undo_stack.specs.Pushing.{cut, without_last, with_added}
use Rattle.undo_stack.specs.Moving.{Answer, Leads}
use Rattle.undo_stack.specs.declared.limits.TheConstants.{MAX_DEPTH}
use Rattle.refusals.specs.declared.stack_fault.StackFault.TheVariants.{NoMacroOpen, TooDeep, NoMemory}

-- the level that begins at h, with no inner steps
abbrev pub level_at : List ℕ → List ℕ → History → Open
level_at text action h = record { text = text; action = action; start = current h; steps = [] }

-- with no level open the steps past the position go; then a level opens inside those that are open
abbrev pub begun : List ℕ → List ℕ → History → History
begun text action h = record (cut h) { levels = h.levels ++ level_at text action h ∷ [] }

-- where as many levels are open as can be, begin is refused; else it is done, or memory is wanting
abbrev pub BeginAnswers : Bool → Answer → Type 0
BeginAnswers true answer = answer ≡ Ok tt ⊎ answer ≡ Err NoMemory
BeginAnswers false answer = answer ≡ Err TooDeep

-- begin: a level opens
pub record Begins (text action : List ℕ) (h : History) (answer : Answer) (n : History) : Type 0 where
  pub answered : BeginAnswers (nat_lt (length h.levels) MAX_DEPTH) answer
  pub leads : Leads answer h (begun text action h) n

-- the step of a level that ends: its two texts, no tag, never vanishing, and its last document
abbrev pub step_of_level : Open → Step
step_of_level l = step_named (untagged l.text l.action Never) (last_after l.start l.steps)

-- the innermost level closes, and its step is added as that of an edit is
abbrev pub ended_in : List Open → History → History
ended_in [] h = h
ended_in (l ∷ ls) h = with_added (step_of_level (innermost l ls)) (without_last (l ∷ ls)) (record h { levels = without_last (l ∷ ls) })

-- end has nothing to close where no level is open
abbrev pub end_answer_in : List Open → Answer
end_answer_in [] = Err NoMacroOpen
end_answer_in (l ∷ ls) = Ok tt

-- end: the innermost level closes
pub record Ends (h : History) (answer : Answer) (n : History) : Type 0 where
  pub answered : answer ≡ end_answer_in h.levels
  pub leads : Leads answer h (ended_in h.levels h) n
