-- Turns of steps where commands may be free.
--
-- A free command says itself when it is obsolete. Where a turn leaves it so, its step goes: the documents on its two sides
-- are equal then. The position becomes the number of the step that went, and a clean position above it is lost. A macro
-- stays, whatever is in it.
use Rattle.std.specs.Prelude.{◌≡◌, ℕ, ◌+◌, ◌-◌, min, length, Option, Some, None, Ok, Err, zero, suc, true, false, ◌⊎◌, List, [], ◌∷◌, slice_get}
use Rattle.std.specs.List.{remove}
use Rattle.command_api.specs.Names.{is_free}
use Rattle.undo_stack.specs.History.{Step, History, document_at}
use Rattle.undo_stack.specs.Pushing.{up_to}
use Rattle.undo_stack.specs.Moving.{Answer, undo_answer, redo_answer, goto_answer, positioned}

-- the step is that of a free command
abbrev pub IsFreeStep : Option Step → Type 0
IsFreeStep None = ⊥
IsFreeStep (Some s) = is_free s.names.vanishing ≡ true

-- the step at a number may go: its command is free, and the documents on its two sides are equal
pub record MayGo (at : ℕ) (h : History) : Type 0 where
  pub free : IsFreeStep (slice_get h.steps at)
  pub equal : document_at h (at + 1) ≡ document_at h at

-- the step at a number is gone, and that number is the position; a clean position above it is lost
abbrev pub without_step : ℕ → History → History
without_step at h = record h { steps = remove h.steps at; position = at; clean = up_to at h.clean }

-- the step at a number goes, or the history is next
abbrev pub Drops : ℕ → History → History → History → Type 0
Drops at h next n = (n ≡ next) ⊎ (MayGo at h × (n ≡ without_step at h))

-- one step is undone, and one is made again
abbrev pub TurnsBack : History → History → Type 0
TurnsBack h n = Drops (h.position - 1) h (positioned (h.position - 1) h) n

abbrev pub TurnsOn : History → History → Type 0
TurnsOn h n = Drops h.position h (positioned (h.position + 1) h) n

-- so many steps, one after the other
abbrev pub TurnBy : (History → History → Type 0) → ℕ → History → History → Type 0
TurnBy R zero = λ h n. n ≡ h
TurnBy R (suc k) = λ h n. (m : History) × R h m × TurnBy R k m n

-- back to the number i, and on to it. One of the two is no turn at all
pub record TurnsTo (i : ℕ) (h n : History) : Type 0 where
  pub between : History
  pub back : TurnBy TurnsBack (h.position - i) h between
  pub on : TurnBy TurnsOn (min i (length h.steps) - h.position) between n

-- a refused call leaves the history as it was
abbrev pub LeadsSo : (History → History → Type 0) → Answer → History → History → Type 0
LeadsSo R (Ok done) h n = R h n
LeadsSo R (Err fault) h n = n ≡ h

-- undo: one step back
pub record Undoes (h : History) (answer : Answer) (n : History) : Type 0 where
  pub answered : answer ≡ undo_answer h
  pub leads : LeadsSo TurnsBack answer h n

-- redo: one step on
pub record Redoes (h : History) (answer : Answer) (n : History) : Type 0 where
  pub answered : answer ≡ redo_answer h
  pub leads : LeadsSo TurnsOn answer h n

-- set index: as many steps back, or on, as would lead to the position i, or to the last one, if none of them went
pub record SetsIndex (i : ℕ) (h : History) (answer : Answer) (n : History) : Type 0 where
  pub answered : answer ≡ goto_answer h
  pub leads : LeadsSo (TurnsTo i) answer h n

-- none of these steps is that of a free command
abbrev pub AreBound : List Step → Type 0
AreBound [] = Unit {0}
AreBound (s ∷ ss) = (is_free s.names.vanishing ≡ false) × AreBound ss

-- no step of the history is that of a free command
abbrev pub IsSteady : History → Type 0
IsSteady h = AreBound h.steps
