-- The texts of a sequence's steps are those of its changes.
use Rattle.std.proofs.Common.{◌≡◌, ℕ, ◌<◌, ◌≤◌, zero, suc, List, [], ◌∷◌, ◌++◌, Option, Some, None, take, drop, length, map, get_or, refl, sym, ◌∙◌, ap}
use Rattle.std.proofs.Common.{subst, arith}
use Rattle.std.specs.Prelude.{slice_get}
use Rattle.std.specs.Option.{option_map}
use Rattle.std.proofs.lemmas.List.{map-append, take-append-drop, length-append, length-map}
use Rattle.std.proofs.lemmas.Option.{slice_get-map, slice_get_read, slice_get_past}
use Rattle.map_model.specs.Document.{DocumentParts}
use Rattle.command_api.specs.Law.{Change}
use Rattle.undo_stack.specs.History.{Step, Open, step_named}
use Rattle.undo_stack.specs.Reading.{action_of, text_at, texts_in}
use Rattle.undo_stack.specs.Sequence.{before, steps_down, steps_up, steps_of}
use Rattle.undo_stack.specs.Entries.{entry_change}
use Rattle.undo_stack.specs.Sound.{opens, start_of}
use Rattle.undo_stack.specs.Stacks.{history, inner_of, inners}
use Rattle.undo_stack.specs.declared.level.Level.{Level}
use Rattle.undo_stack.specs.declared.entry.Entry.{Entry}
use Rattle.undo_stack.specs.declared.stack.Stack.{Stack}
use Rattle.undo_stack.proofs.Views.{length-own}

-- g reads of a step what p reads of the change
map-down : {A B : Type 0} (f : B → Change) (g : Step → A) (p : B → A) → ((x : B) (d : DocumentParts) → g (step_named (f x).names d) ≡ p x)
    → (xs : List B) (d : DocumentParts) → map g (steps_down f xs d) ≡ map p xs
map-down f g p h [] d = refl
map-down f g p h (x ∷ xs) d = rw (h x (before f xs d), map-down f g p h xs d) refl

map-up : {A B : Type 0} (f : B → Change) (g : Step → A) (p : B → A) → ((x : B) (d : DocumentParts) → g (step_named (f x).names d) ≡ p x)
    → (xs : List B) (d : DocumentParts) → map g (steps_up f xs d) ≡ map p xs
map-up f g p h [] d = refl
map-up f g p h (x ∷ xs) d = rw (h x ((f x).redone d), map-up f g p h xs ((f x).redone d)) refl

pub map-steps : {A B : Type 0} (f : B → Change) (g : Step → A) (p : B → A)
    → ((x : B) (d : DocumentParts) → g (step_named (f x).names d) ≡ p x) → (xs : List B) (n : ℕ) (d : DocumentParts) → map g (steps_of f xs n d) ≡ map p xs
map-steps f g p h xs n d =
    map-append g (steps_down f (take n xs) d) (steps_up f (drop n xs) d)
    ∙ rw (map-down f g p h (take n xs) d, map-up f g p h (drop n xs) d, ← map-append p (take n xs) (drop n xs), take-append-drop n xs) refl

-- what p reads at a number of the sequence, and past it
pub read_some : {A B : Type 0} (p : B → A) (xs : List B) (x : B) (at : ℕ) → at < length xs → x ≡ get_or xs at x → slice_get (map p xs) at ≡ Some (p x)
read_some p xs x at h k = slice_get-map p xs at ∙ ap (option_map p) (slice_get_read xs (length xs) at x refl h k)

pub read_none : {A B : Type 0} (p : B → A) (xs : List B) (at : ℕ) → length xs ≤ at → slice_get (map p xs) at ≡ None
read_none p xs at h = slice_get-map p xs at ∙ ap (option_map p) (slice_get_past xs at h)

-- what stands at a number before the end of a list, and at its end
pub slice_get-append_left : {A : Type 0} (xs ys : List A) (at : ℕ) → at < length xs → slice_get (xs ++ ys) at ≡ slice_get xs at
slice_get-append_left [] ys at h = absurd (omega arith)
slice_get-append_left (x ∷ xs) ys zero h = refl
slice_get-append_left (x ∷ xs) ys (suc at) h = slice_get-append_left xs ys at (omega arith)

pub slice_get-append_at : {A : Type 0} (xs : List A) (y : A) (at : ℕ) → at ≡ length xs → slice_get (xs ++ y ∷ []) at ≡ Some y
slice_get-append_at [] y zero h = refl
slice_get-append_at [] y (suc at) h = absurd (omega arith)
slice_get-append_at (x ∷ xs) y zero h = absurd (omega arith)
slice_get-append_at (x ∷ xs) y (suc at) h = slice_get-append_at xs y at (omega arith)

-- ---- the texts for lists at a number, by the open levels
abbrev texts : List Step → List (List ℕ)
texts ss = map (λ s. s.names.text) ss

length-texts : (ss : List Step) → length (texts ss) ≡ length ss
length-texts ss = length-map ss (λ s. s.names.text)

-- below the last step, and behind all that there is
text_in-below : (os : List Open) (ss : List Step) (at : ℕ) → at < length ss → slice_get (texts_in os ss) at ≡ slice_get (texts ss) at
text_in-below [] ss at h = refl
text_in-below (o ∷ os) ss at h = slice_get-append_left (texts ss) (o.text ∷ []) at (omega (arith, length-texts ss))

text_in-closed : (ss : List Step) (at : ℕ) → length ss ≤ at → None ≡ slice_get (texts_in [] ss) at
text_in-closed ss at h = sym (slice_get_past (texts ss) at (omega (arith, length-texts ss)))

text_in-past : (os : List Open) (ss : List Step) (at : ℕ) → length ss < at → None ≡ slice_get (texts_in os ss) at
text_in-past [] ss at h = text_in-closed ss at (omega arith)
text_in-past (o ∷ os) ss at h =
    let more = length-append (texts ss) (o.text ∷ []) in
    sym (slice_get_past (texts ss ++ o.text ∷ []) at (omega (arith, more, length-texts ss)))

-- at the number behind the steps, by what is the first of a stack's levels
text_in-first : {C : Type 0} (f : C → Change) (ls : List (Level C)) (d : DocumentParts) (ss : List Step) (at : ℕ) (v : Level C)
    → Some v ≡ slice_get ls 0 → at ≡ length ss → Some (inner_of v).text ≡ slice_get (texts_in (opens f (map inner_of ls) d) ss) at
text_in-first f [] d ss at v first end = absurd (let bad : Some v ≡ None = first in let worse : ⊥ = cc in worse)
text_in-first f (l ∷ ls) d ss at v first end =
    ap (λ (o : Option (Level _)). option_map (λ (m : Level _). (inner_of m).text) o) first
    ∙ sym (slice_get-append_at (texts ss) (inner_of l).text at (end ∙ sym (length-texts ss)))

text_in-none : {C : Type 0} (f : C → Change) (ls : List (Level C)) (d : DocumentParts) (ss : List Step) (at : ℕ)
    → None ≡ slice_get ls 0 → length ss ≤ at → None ≡ slice_get (texts_in (opens f (map inner_of ls) d) ss) at
text_in-none f [] d ss at none end = text_in-closed ss at end
text_in-none f (l ∷ ls) d ss at none end = absurd (let bad : None ≡ Some l = none in let worse : ⊥ = cc in worse)

-- the action text of a step is what is read of it
action_some : (o : Option Step) (t : List ℕ) → option_map (λ s. s.names.action) o ≡ Some t → action_of o ≡ t
action_some None t h = absurd (let bad : None ≡ Some t = h in let worse : ⊥ = cc in worse)
action_some (Some s) t h = cc

action_none : (o : Option Step) → option_map (λ s. s.names.action) o ≡ None → action_of o ≡ []
action_none None h = refl
action_none (Some s) h = absurd (let bad : Some s.names.action ≡ None = h in let worse : ⊥ = cc in worse)

-- ---- the texts of a stack at a number
module _ {C : Type 0} (f : C → Change) (s : Stack C) (at : ℕ) where
  abbrev es : List (Entry C)
  es = s.sequences.steps.entries.items

  abbrev steps : List Step
  steps = (history f s).steps

  -- g reads of the steps what p reads of the entries
  map-own : {A : Type 0} (g : Step → A) (p : Entry C → A)
      → ((x : Entry C) (d : DocumentParts) → g (step_named (entry_change f x).names d) ≡ p x) → map g steps ≡ map p es
  map-own g p same = map-steps (entry_change f) g p same es s.sequences.steps.index (start_of f (inners s) s.document)

  inside : at < length es → at < length steps
  inside h = subst (λ (n : ℕ). at < n) (sym (length-own f s)) h

  -- the text for lists: at an entry, behind the entries, and there by the first of the levels
  pub text_some : (x : Entry C) → at < length es → x ≡ get_or es at x → Some (entry_change f x).names.text ≡ text_at (history f s) at
  text_some x h is =
      let text = λ (y : Entry C). (entry_change f y).names.text in
      sym (text_in-below (history f s).levels steps at (inside h) ∙ rw (map-own (λ y. y.names.text) text (λ y d. refl)) (read_some text es x at h is))

  pub text_past : length es < at → None ≡ text_at (history f s) at
  text_past h = text_in-past (history f s).levels steps at (subst (λ (n : ℕ). n < at) (sym (length-own f s)) h)

  pub text_first : (v : Level C) → Some v ≡ slice_get s.sequences.levels.items 0 → at ≡ length es → Some (inner_of v).text ≡ text_at (history f s) at
  text_first v first end = text_in-first f s.sequences.levels.items s.document steps at v first (end ∙ sym (length-own f s))

  pub text_unopened : None ≡ slice_get s.sequences.levels.items 0 → length es ≤ at → None ≡ text_at (history f s) at
  text_unopened none end = text_in-none f s.sequences.levels.items s.document steps at none (subst (λ (n : ℕ). n ≤ at) (sym (length-own f s)) end)

  -- the action text: at an entry, and past the entries
  abbrev action : Entry C → List ℕ
  action y = (entry_change f y).names.action

  actions : map (λ (y : Step). y.names.action) steps ≡ map action es
  actions = map-own (λ y. y.names.action) action (λ y d. refl)

  pub action_inside : (x : Entry C) → at < length es → x ≡ get_or es at x → (entry_change f x).names.action ≡ action_of (slice_get steps at)
  action_inside x h is =
      sym (action_some (slice_get steps at) (action x) (sym (slice_get-map (λ s. s.names.action) steps at) ∙ rw actions (read_some action es x at h is)))

  pub action_past : length es ≤ at → [] ≡ action_of (slice_get steps at)
  action_past h = sym (action_none (slice_get steps at) (sym (slice_get-map (λ s. s.names.action) steps at) ∙ rw actions (read_none action es at h)))
