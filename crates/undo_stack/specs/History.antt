-- Histories: whole documents with their names, and a position among them. Nothing here turns a document back.
use Rattle.std.specs.Prelude.{ℕ, ◌+◌, ◌==◌, List, [], ◌∷◌, Option, Some, None, Bool, false, take, length}
use Rattle.map_model.specs.Document.{DocumentParts}
use Rattle.command_api.specs.Names.{Names}

-- a step: the names of its command, and the document after it
pub record Step : Type 0 where
  pub names : Names
  pub after : DocumentParts

abbrev pub step_named : Names → DocumentParts → Step
step_named names d = record { names = names; after = d }

-- an open level: its texts, its document at the beginning, and its inner steps
pub record Open : Type 0 where
  pub text : List ℕ
  pub action : List ℕ
  pub start : DocumentParts
  pub steps : List Step

-- a history: a base document, steps, a position, a clean position or none, a limit, and the open levels, outermost first
pub record History : Type 0 where
  pub base : DocumentParts
  pub steps : List Step
  pub position : ℕ
  pub clean : Option ℕ
  pub limit : ℕ
  pub levels : List Open

-- a new history has no steps and no levels, and is clean
abbrev pub new_history : DocumentParts → ℕ → History
new_history d limit = record { base = d; steps = []; position = 0; clean = Some 0; limit = limit; levels = [] }

-- the document after these steps, and d where there are none
abbrev pub last_after : DocumentParts → List Step → DocumentParts
last_after d [] = d
last_after d (s ∷ ss) = last_after s.after ss

-- the document at a number of steps: the one after that many of them, and at 0 the base
abbrev pub document_at : History → ℕ → DocumentParts
document_at h n = last_after h.base (take n h.steps)

-- the document at the position, where the levels begin
abbrev pub at_position : History → DocumentParts
at_position h = document_at h h.position

-- the innermost of the levels l, ls
abbrev pub innermost : Open → List Open → Open
innermost l [] = l
innermost l (m ∷ ls) = innermost m ls

-- the current document, which a stack holds: with no level open the one at the position, else the last one of the
-- innermost level
abbrev pub current_in : List Open → History → DocumentParts
current_in [] h = at_position h
current_in (l ∷ ls) h = last_after (innermost l ls).start (innermost l ls).steps

abbrev pub current : History → DocumentParts
current h = current_in h.levels h

-- the count of steps, and one more while a level is open
abbrev pub count_in : List Open → History → ℕ
count_in [] h = length h.steps
count_in (l ∷ ls) h = length h.steps + 1

abbrev pub count : History → ℕ
count h = count_in h.levels h

-- the clean position is n
abbrev pub is_clean_at : Option ℕ → ℕ → Bool
is_clean_at None n = false
is_clean_at (Some k) n = k == n

-- a history is clean where its position is the clean one and no level is open
abbrev pub is_clean_in : List Open → History → Bool
is_clean_in [] h = is_clean_at h.clean h.position
is_clean_in (l ∷ ls) h = false

abbrev pub is_clean : History → Bool
is_clean h = is_clean_in h.levels h
