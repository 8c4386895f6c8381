-- The texts of a history: for undo, for redo, for lists, and those that name actions.
use Rattle.std.specs.Prelude.{ℕ, List, [], ◌∷◌, ◌++◌, Option, Some, None, zero, suc, map, slice_get}
use Rattle.undo_stack.specs.History.{Step, Open, History}

-- the action text of a step, empty where there is no step
abbrev pub action_of : Option Step → List ℕ
action_of None = []
action_of (Some s) = s.names.action

-- the step just below a position, and none below 0
abbrev pub step_below : ℕ → List Step → Option Step
step_below zero ss = None
step_below (suc n) ss = slice_get ss n

-- the text for undo is the action text of the step below the position, and empty while a level is open
abbrev pub undo_text_in : List Open → History → List ℕ
undo_text_in [] h = action_of (step_below h.position h.steps)
undo_text_in (l ∷ ls) h = []

abbrev pub undo_text_of : History → List ℕ
undo_text_of h = undo_text_in h.levels h

-- the text for redo is the action text of the step at the position, and empty while a level is open
abbrev pub redo_text_in : List Open → History → List ℕ
redo_text_in [] h = action_of (slice_get h.steps h.position)
redo_text_in (l ∷ ls) h = []

abbrev pub redo_text_of : History → List ℕ
redo_text_of h = redo_text_in h.levels h

-- the texts for lists are those of the steps, and last that of the outermost level where one is open
abbrev pub texts_in : List Open → List Step → List (List ℕ)
texts_in [] ss = map (λ s. s.names.text) ss
texts_in (l ∷ ls) ss = map (λ s. s.names.text) ss ++ l.text ∷ []

-- the text for lists at a number, and none past the last one
abbrev pub text_at : History → ℕ → Option (List ℕ)
text_at h at = slice_get (texts_in h.levels h.steps) at

-- the action texts are those of the steps, and last that of the outermost level where one is open
abbrev pub actions_in : List Open → List Step → List (List ℕ)
actions_in [] ss = map (λ s. s.names.action) ss
actions_in (l ∷ ls) ss = map (λ s. s.names.action) ss ++ l.action ∷ []

-- the action text at a number, and none past the last one
abbrev pub action_at : History → ℕ → Option (List ℕ)
action_at h at = slice_get (actions_in h.levels h.steps) at
