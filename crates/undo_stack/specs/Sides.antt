-- The documents on the two sides of a step.
use Rattle.std.specs.Prelude.{◌≡◌, ◌⊎◌, ℕ, ◌-◌, List, [], ◌∷◌, take, length}
use Rattle.map_model.specs.Document.{DocumentParts}
use Rattle.command_api.specs.Law.{Change}
use Rattle.undo_stack.specs.History.{Open, History, document_at, innermost, last_after}

-- a change stands between two documents: it fits the first one, and makes the second one of it; or it fits the second one to be
-- turned back, and makes the first one of it
abbrev pub StandsBetween : Change → DocumentParts → DocumentParts → Type 0
StandsBetween c d e = (c.fits_redo d × (c.redone d ≡ e)) ⊎ (c.fits_undo e × (c.undone e ≡ d))

-- the document of an open level at a number of its inner steps: the one after that many of them
abbrev pub inner_document_at : Open → ℕ → DocumentParts
inner_document_at l n = last_after l.start (take n l.steps)

-- the document before what was done last: the step below the position, or the last inner step of the innermost level
abbrev pub before_last_in : List Open → History → DocumentParts
before_last_in [] h = document_at h (h.position - 1)
before_last_in (l ∷ ls) h = inner_document_at (innermost l ls) (length (innermost l ls).steps - 1)

abbrev pub before_last : History → DocumentParts
before_last h = before_last_in h.levels h
