-- Sequences of changes that grow and shrink at their end.
use Rattle.std.proofs.Common.{◌≡◌, ℕ, ◌+◌, ◌<◌, ◌≤◌, List, [], ◌∷◌, ◌++◌, take, drop, length, map, set, get_or, zero, suc, refl, sym, ◌∙◌, ap, arith}
use Rattle.std.proofs.lemmas.List.{drop_at, take_more, drop-set-lt, drop_more, length-append, length-take-le, take_at, take-append-drop}
use Rattle.std.specs.List.{remove}
use Rattle.map_model.specs.Document.{DocumentParts}
use Rattle.command_api.specs.Law.{Change}
use Rattle.undo_stack.specs.History.{step_named, last_after}
use Rattle.undo_stack.specs.Sequence.{before, steps_down, steps_up, steps_of, FitsDown}

pub before-append : {B : Type 0} (f : B → Change) (xs : List B) (x : B) (d : DocumentParts) → before f (xs ++ x ∷ []) d ≡ before f xs ((f x).undone d)
before-append f [] x d = refl
before-append f (y ∷ xs) x d = ap (f y).undone (before-append f xs x d)

pub steps_down-append : {B : Type 0} (f : B → Change) (xs : List B) (x : B) (d : DocumentParts)
    → steps_down f (xs ++ x ∷ []) d ≡ steps_down f xs ((f x).undone d) ++ step_named (f x).names d ∷ []
steps_down-append f [] x d = refl
steps_down-append f (y ∷ xs) x d = rw (before-append f xs x d, steps_down-append f xs x d) refl

pub FitsDown-pop : {B : Type 0} (f : B → Change) (xs : List B) (x : B) (d : DocumentParts) → FitsDown f (xs ++ x ∷ []) d
    → FitsDown f xs ((f x).undone d) × (f x).fits_undo d
FitsDown-pop f [] x d h = (tt, h.0)
FitsDown-pop f (y ∷ xs) x d h =
    let rest = FitsDown-pop f xs x d h.1 in
    ((rw (before-append f xs x d) at h.0, rest.0), rest.1)

pub FitsDown-push : {B : Type 0} (f : B → Change) (xs : List B) (x : B) (d : DocumentParts) → FitsDown f xs ((f x).undone d) → (f x).fits_undo d
    → FitsDown f (xs ++ x ∷ []) d
FitsDown-push f [] x d h g = (g, tt)
FitsDown-push f (y ∷ xs) x d h g = (rw (before-append f xs x d) h.0, FitsDown-push f xs x d h.1 g)

-- the documents of a sequence lead to the document after it
pub last_after-down : {B : Type 0} (f : B → Change) (xs : List B) (d : DocumentParts) → last_after (before f xs d) (steps_down f xs d) ≡ d
last_after-down f [] d = refl
last_after-down f (x ∷ xs) d = last_after-down f xs d

pub length-down : {B : Type 0} (f : B → Change) (xs : List B) (d : DocumentParts) → length (steps_down f xs d) ≡ length xs
length-down f [] d = refl
length-down f (x ∷ xs) d = let h = length-down f xs d in omega arith

pub length-up : {B : Type 0} (f : B → Change) (xs : List B) (d : DocumentParts) → length (steps_up f xs d) ≡ length xs
length-up f [] d = refl
length-up f (x ∷ xs) d = let h = length-up f xs ((f x).redone d) in omega arith

pub length-steps : {B : Type 0} (f : B → Change) (xs : List B) (n : ℕ) (d : DocumentParts) → length (steps_of f xs n d) ≡ length xs
length-steps f xs n d =
    length-append (steps_down f (take n xs) d) (steps_up f (drop n xs) d)
    ∙ rw (length-down f (take n xs) d, length-up f (drop n xs) d, ← length-append (take n xs) (drop n xs), take-append-drop n xs) refl

-- the steps that are done
pub take-steps : {B : Type 0} (f : B → Change) (xs : List B) (n : ℕ) (d : DocumentParts) → n ≤ length xs
    → take n (steps_of f xs n d) ≡ steps_down f (take n xs) d
take-steps f xs n d h = take_at (steps_down f (take n xs) d) (steps_up f (drop n xs) d) n (length-down f (take n xs) d ∙ length-take-le n xs h)

-- the sequence up to a number, and from a number on
pub take_last : {B : Type 0} (xs : List B) (v : B) (j : ℕ) → j < length xs → v ≡ get_or xs j v → take (j + 1) xs ≡ take j xs ++ v ∷ []
take_last xs v j h k = take_more xs j v h ∙ ap (λ x. take j xs ++ x ∷ []) (sym k)

pub drop_first : {B : Type 0} (xs : List B) (v : B) (j : ℕ) → j < length xs → v ≡ get_or xs j v → drop j xs ≡ v ∷ drop (j + 1) xs
drop_first xs v j h k = drop_more xs j v h ∙ ap (λ x. x ∷ drop (j + 1) xs) (sym k)

pub drop_past : {B : Type 0} (xs : List B) (w : B) (j : ℕ) → drop (j + 1) (set xs j w) ≡ drop (j + 1) xs
drop_past xs w j = drop-set-lt (j + 1) xs j w (omega arith)

-- what k reads of a list in which a thing was put in the place of one of which k reads the same
pub map-set_same : {A B : Type 0} (k : B → A) (xs : List B) (v w : B) (j : ℕ) → v ≡ get_or xs j v → k w ≡ k v → map k (set xs j w) ≡ map k xs
map-set_same k [] v w j h e = refl
map-set_same k (x ∷ xs) v w zero h e = ap (λ a. a ∷ map k xs) (e ∙ ap k h)
map-set_same k (x ∷ xs) v w (suc j) h e = ap (λ rest. k x ∷ rest) (map-set_same k xs v w j h e)

-- a sequence without its first changes: the document before it, its steps, and that it fits
pub last_after-take : {B : Type 0} (f : B → Change) (k : ℕ) (xs : List B) (d : DocumentParts)
    → last_after (before f xs d) (take k (steps_down f xs d)) ≡ before f (drop k xs) d
last_after-take f zero xs d = refl
last_after-take f (suc k) [] d = refl
last_after-take f (suc k) (x ∷ xs) d = last_after-take f k xs d

pub drop-steps_down : {B : Type 0} (f : B → Change) (k : ℕ) (xs : List B) (d : DocumentParts) → drop k (steps_down f xs d) ≡ steps_down f (drop k xs) d
drop-steps_down f zero xs d = refl
drop-steps_down f (suc k) [] d = refl
drop-steps_down f (suc k) (x ∷ xs) d = drop-steps_down f k xs d

pub FitsDown-drop : {B : Type 0} (f : B → Change) (k : ℕ) (xs : List B) (d : DocumentParts) → FitsDown f xs d → FitsDown f (drop k xs) d
FitsDown-drop f zero xs d h = h
FitsDown-drop f (suc k) [] d h = tt
FitsDown-drop f (suc k) (x ∷ xs) d h = FitsDown-drop f k xs d h.1

-- a list without the thing at a number
pub take-remove : {A : Type 0} (xs : List A) (j : ℕ) → j ≤ length xs → take j (remove xs j) ≡ take j xs
take-remove xs j h = take_at (take j xs) (drop (suc j) xs) j (length-take-le j xs h)

pub drop-remove : {A : Type 0} (xs : List A) (j : ℕ) → j ≤ length xs → drop j (remove xs j) ≡ drop (j + 1) xs
drop-remove xs j h =
    let next : suc j ≡ j + 1 = omega arith in
    drop_at (take j xs) (drop (suc j) xs) j (length-take-le j xs h) ∙ ap (λ (n : ℕ). drop n xs) next
