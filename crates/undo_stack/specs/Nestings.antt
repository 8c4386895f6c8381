-- How steps nest. A step is one command, or a macro of steps: that is its nesting. Merges and turns keep the nesting of each
-- step that stays, so an ended macro keeps all that stands in it.
use Rattle.std.specs.Prelude.{◌≡◌, ℕ, ◌-◌, List, [], ◌∷◌, ◌++◌, Bool, true, false, Ok, Err, map, take, drop, length, zero, suc}
use Rattle.std.specs.List.{remove}
use Rattle.undo_stack.specs.History.{History}
use Rattle.undo_stack.specs.Moving.{Answer, positioned}
use Rattle.undo_stack.specs.Pushing.{without_last}
use Rattle.undo_stack.specs.declared.entry.Entry.{Entry, fold-Entry}
use Rattle.undo_stack.specs.declared.entry.Entry.TheOpen.{Entry-F, Command, Macro}

-- one command, a macro of no steps, or a macro of a first step and of the steps of another macro
pub data Nesting : Type 0 where
  Single : Nesting
  Empty : Nesting
  With : Nesting → Nesting → Nesting

-- a macro of these steps
abbrev pub nested : List Nesting → Nesting
nested [] = Empty
nested (o ∷ os) = With o (nested os)

-- whether it is a macro
abbrev pub is_nested : Nesting → Bool
is_nested Single = false
is_nested Empty = true
is_nested (With o p) = true

-- the nesting of an entry, by one layer of it, whose entries have these nestings
abbrev pub layer_nesting : {C : Type 0} → Entry-F C Nesting → Nesting
layer_nesting (Command c) = Single
layer_nesting (Macro contents) = nested contents.value.children.items

abbrev pub nesting : {C : Type 0} → Entry C → Nesting
nesting {C} = fold-Entry C Nesting layer_nesting

-- the nestings of the steps of a history, and of those of each open level, outermost first
pub record Nestings : Type 0 where
  pub steps : List Nesting
  pub levels : List (List Nesting)

-- no steps, and no levels
abbrev pub no_nestings : Nestings
no_nestings = record { steps = []; levels = [] }

-- of each step whether it is a macro, and last of the open one where there is one
abbrev pub macros_in : List (List Nesting) → List Nesting → List Bool
macros_in [] os = map is_nested os
macros_in (l ∷ ls) os = map is_nested os ++ true ∷ []

abbrev pub macros_of : Nestings → List Bool
macros_of a = macros_in a.levels a.steps

-- a history, and the nestings of its steps
pub record Shape : Type 0 where
  pub history : History
  pub nestings : Nestings

-- ---- pushing
-- outside levels the steps past a position go
abbrev pub nestings_cut_in : List (List Nesting) → ℕ → Nestings → Nestings
nestings_cut_in [] n a = record a { steps = take n a.steps }
nestings_cut_in (l ∷ ls) n a = a

abbrev pub nestings_cut : ℕ → Nestings → Nestings
nestings_cut n a = nestings_cut_in a.levels n a

-- the last of some things is changed
abbrev pub with_last : {A : Type 0} → (A → A) → List A → List A
with_last change [] = []
with_last change (x ∷ []) = change x ∷ []
with_last change (x ∷ y ∷ xs) = x ∷ with_last change (y ∷ xs)

-- the last step goes: of the innermost level, or outside levels
abbrev pub nestings_without_target : List (List Nesting) → Nestings → Nestings
nestings_without_target [] a = record a { steps = without_last a.steps }
nestings_without_target (l ∷ ls) a = record a { levels = with_last without_last (l ∷ ls) }

-- with a limit other than 0, the first ones go while there are more than the limit
abbrev pub within_limit : {A : Type 0} → ℕ → List A → List A
within_limit zero xs = xs
within_limit (suc m) xs = drop (length xs - suc m) xs

-- a step is added: to the innermost level, or outside levels, and then the limit
abbrev pub nestings_with_added : Nesting → ℕ → List (List Nesting) → Nestings → Nestings
nestings_with_added o limit [] a = record a { steps = within_limit limit (a.steps ++ o ∷ []) }
nestings_with_added o limit (l ∷ ls) a = record a { levels = with_last (λ os. os ++ o ∷ []) (l ∷ ls) }

-- the nestings of a sequence with this limit, once an edit was entered into it: it is gone, or added
abbrev pub entered_nestings : Bool → ℕ → List Nesting → List Nesting
entered_nestings true limit os = os
entered_nestings false limit os = within_limit limit (os ++ Single ∷ [])

-- what an edit, merged or not, and gone or not, makes of nestings that were cut
abbrev pub nestings_next_of : Bool → Bool → ℕ → Nestings → Nestings
nestings_next_of true true limit a = nestings_without_target a.levels a
nestings_next_of true false limit a = a
nestings_next_of false true limit a = a
nestings_next_of false false limit a = nestings_with_added Single limit a.levels a

-- ---- macros
-- the steps past a position go, and a level with no steps opens inside those that are open
abbrev pub nestings_begun : ℕ → Nestings → Nestings
nestings_begun n a = record (nestings_cut n a) { levels = a.levels ++ [] ∷ [] }

-- the last of the levels l, ls
abbrev pub innermost_nestings : List Nesting → List (List Nesting) → List Nesting
innermost_nestings l [] = l
innermost_nestings l (m ∷ ls) = innermost_nestings m ls

-- the innermost level closes, and a macro of its steps is added
abbrev pub nestings_ended_in : List (List Nesting) → ℕ → Nestings → Nestings
nestings_ended_in [] limit a = a
nestings_ended_in (l ∷ ls) limit a =
    let around = without_last (l ∷ ls) in
    nestings_with_added (nested (innermost_nestings l ls)) limit around (record a { levels = around })

abbrev pub nestings_ended : ℕ → Nestings → Nestings
nestings_ended limit a = nestings_ended_in a.levels limit a

-- a refused call leaves the nestings as they were
abbrev pub NestingsLead : Answer → Nestings → Nestings → Nestings → Type 0
NestingsLead (Ok done) a next n = n ≡ next
NestingsLead (Err fault) a next n = n ≡ a

-- ---- turning
-- the step at a number goes
abbrev pub nestings_without : ℕ → Nestings → Nestings
nestings_without at a = record a { steps = remove a.steps at }

-- the position alone becomes n
abbrev pub shape_positioned : ℕ → Shape → Shape
shape_positioned n a = record a { history = positioned n a.history }
