-- What a sequence of changes means at a document: the documents before it, its steps, and where it fits.
-- A sequence is a list of things x, of which f x is the change.
use Rattle.std.specs.Prelude.{◌≡◌, ℕ, List, [], ◌∷◌, ◌++◌, map, take, drop, length, Bool, false, not, ◌&&◌}
use Rattle.map_model.specs.Document.{DocumentParts}
use Rattle.command_api.specs.Law.{Change}
use Rattle.command_api.specs.Names.{untagged, is_free, Never}
use Rattle.undo_stack.specs.History.{Step, step_named}

-- the document before a sequence that led to d
abbrev pub before : {B : Type 0} → (B → Change) → List B → DocumentParts → DocumentParts
before f [] = λ d. d
before f (x ∷ xs) = λ d. (f x).undone (before f xs d)

-- the document after a sequence that leads on from d
abbrev pub after : {B : Type 0} → (B → Change) → List B → DocumentParts → DocumentParts
after f [] = λ d. d
after f (x ∷ xs) = λ d. after f xs ((f x).redone d)

-- the steps of a sequence that led to d
abbrev pub steps_down : {B : Type 0} → (B → Change) → List B → DocumentParts → List Step
steps_down f [] d = []
steps_down f (x ∷ xs) d = step_named (f x).names (before f xs d) ∷ steps_down f xs d

-- the steps of a sequence that leads on from d
abbrev pub steps_up : {B : Type 0} → (B → Change) → List B → DocumentParts → List Step
steps_up f [] d = []
steps_up f (x ∷ xs) d = step_named (f x).names ((f x).redone d) ∷ steps_up f xs ((f x).redone d)

-- each change of a sequence that led to d fits for undo
abbrev pub FitsDown : {B : Type 0} → (B → Change) → List B → DocumentParts → Type 0
FitsDown f [] = λ d. Unit {0}
FitsDown f (x ∷ xs) = λ d. (f x).fits_undo (before f xs d) × FitsDown f xs d

-- each change of a sequence that leads on from d fits for redo
abbrev pub FitsUp : {B : Type 0} → (B → Change) → List B → DocumentParts → Type 0
FitsUp f [] = λ d. Unit {0}
FitsUp f (x ∷ xs) = λ d. (f x).fits_redo d × FitsUp f xs ((f x).redone d)

-- a sequence as one change, with these texts: redone first to last, undone last to first. It has no tag, follows nothing, and
-- never vanishes
abbrev pub sequence_change : {B : Type 0} → List ℕ → List ℕ → (B → Change) → List B → Change
sequence_change text action f xs = record {
  names = untagged text action Never;
  obsolete = false;
  redone = after f xs;
  undone = before f xs;
  fits_redo = FitsUp f xs;
  fits_undo = FitsDown f xs;
}

-- a sequence of which the first n changes led to d: it fits, and stands between these two documents
pub record Between {B : Type 0} (f : B → Change) (xs : List B) (n : ℕ) (d first last : DocumentParts) : Type 0 where
  pub down : FitsDown f (take n xs) d
  pub up : FitsUp f (drop n xs) d
  pub starts : before f (take n xs) d ≡ first
  pub ends : after f (drop n xs) d ≡ last

-- the steps of a sequence of which the first n led to d
abbrev pub steps_of : {B : Type 0} → (B → Change) → List B → ℕ → DocumentParts → List Step
steps_of f xs n d = steps_down f (take n xs) d ++ steps_up f (drop n xs) d

-- whether a change is not free, and is obsolete
abbrev pub is_stale : Change → Bool
is_stale c = not (is_free c.names.vanishing) && c.obsolete

-- a sequence at the number i and the document d became another one, at j and e, with the same documents and steps, and no
-- change that is not free became obsolete
pub record IsMoved {B : Type 0} (f : B → Change) (xs : List B) (i : ℕ) (d : DocumentParts) (ys : List B) (j : ℕ) (e : DocumentParts) : Type 0 where
  pub same_length : length ys ≡ length xs
  pub down : FitsDown f (take j ys) e
  pub up : FitsUp f (drop j ys) e
  pub base : before f (take j ys) e ≡ before f (take i xs) d
  pub steps : steps_of f ys j e ≡ steps_of f xs i d
  pub stale : map (λ y. is_stale (f y)) ys ≡ map (λ x. is_stale (f x)) xs
