-- The calls that move in a history, mark its position as the clean one, set its limit, and clear it, as relations between
-- the history before, the answer and the history after. All but clearing and unmarking are refused while a level is open.
use Rattle.std.specs.Prelude.{◌≡◌, ℕ, ◌+◌, ◌-◌, min, length, List, [], ◌∷◌, Some, None, Result, Ok, Err, zero, suc, nat_lt, if◌then◌else◌}
use Rattle.undo_stack.specs.History.{History, Open, current, count}
use Rattle.refusals.specs.declared.stack_fault.StackFault.{StackFault}
use Rattle.refusals.specs.declared.stack_fault.StackFault.TheVariants.{MacroOpen, NothingToUndo, NothingToRedo, NotEmpty}

-- done, or refused
abbrev pub Answer : Type 0
Answer = Result (Unit {0}) StackFault

-- while a level is open the answer is that
abbrev pub outside : List Open → Answer → Answer
outside [] answer = answer
outside (l ∷ ls) answer = Err MacroOpen

-- undo has nothing to undo at the position 0
abbrev pub undo_answer_at : ℕ → Answer
undo_answer_at zero = Err NothingToUndo
undo_answer_at (suc n) = Ok tt

abbrev pub undo_answer : History → Answer
undo_answer h = outside h.levels (undo_answer_at h.position)

-- redo has nothing to make again at the last position
abbrev pub redo_answer : History → Answer
redo_answer h = outside h.levels (if nat_lt h.position (length h.steps) then Ok tt else Err NothingToRedo)

abbrev pub goto_answer : History → Answer
goto_answer h = outside h.levels (Ok tt)

abbrev pub clean_answer : History → Answer
clean_answer h = outside h.levels (Ok tt)

-- the position alone becomes n
abbrev pub positioned : ℕ → History → History
positioned n h = record h { position = n }

-- a refused call leaves the history as it was
abbrev pub Leads : Answer → History → History → History → Type 0
Leads (Ok done) h next n = n ≡ next
Leads (Err fault) h next n = n ≡ h

-- undo: one step back
pub record StepsBack (h : History) (answer : Answer) (n : History) : Type 0 where
  pub answered : answer ≡ undo_answer h
  pub leads : Leads answer h (positioned (h.position - 1) h) n

-- redo: one step on
pub record StepsOn (h : History) (answer : Answer) (n : History) : Type 0 where
  pub answered : answer ≡ redo_answer h
  pub leads : Leads answer h (positioned (h.position + 1) h) n

-- set index: the position becomes i, or that of the last step, where there are fewer
pub record GoesTo (i : ℕ) (h : History) (answer : Answer) (n : History) : Type 0 where
  pub answered : answer ≡ goto_answer h
  pub leads : Leads answer h (positioned (min i (length h.steps)) h) n

-- set clean: the position becomes the clean one
pub record MarksClean (h : History) (answer : Answer) (n : History) : Type 0 where
  pub answered : answer ≡ clean_answer h
  pub leads : Leads answer h (record h { clean = Some h.position }) n

-- reset clean: no position is the clean one
abbrev pub UnmarksClean : History → History → Type 0
UnmarksClean h n = n ≡ record h { clean = None }

-- set the undo limit: it is refused where there are steps, of which an open level is one
abbrev pub limit_answer_at : ℕ → Answer
limit_answer_at zero = Ok tt
limit_answer_at (suc n) = Err NotEmpty

pub record SetsLimit (limit : ℕ) (h : History) (answer : Answer) (n : History) : Type 0 where
  pub answered : answer ≡ limit_answer_at (count h)
  pub leads : Leads answer h (record h { limit = limit }) n

-- clear: the current document becomes the base, with no steps and no levels, and is clean; the limit stays
abbrev pub cleared : History → History
cleared h = record { base = current h; steps = []; position = 0; clean = Some 0; limit = h.limit; levels = [] }

abbrev pub Clears : History → History → Type 0
Clears h n = n ≡ cleared h
