-- The action texts of a history by their numbers: those of the entries, and behind them that of the outermost level.
use Rattle.std.proofs.Common.{◌≡◌, ℕ, ◌<◌, ◌≤◌, List, [], ◌∷◌, ◌++◌, Option, Some, None, length, map, get_or, refl, sym, ◌∙◌, ap, arith}
use Rattle.std.specs.Prelude.{slice_get}
use Rattle.std.specs.Option.{option_map}
use Rattle.std.proofs.lemmas.List.{length-append, length-map}
use Rattle.std.proofs.lemmas.Option.{slice_get_past}
use Rattle.map_model.specs.Document.{DocumentParts}
use Rattle.command_api.specs.Law.{Change}
use Rattle.undo_stack.specs.Reading.{action_at}
use Rattle.undo_stack.specs.Sequence.{steps_of}
use Rattle.undo_stack.specs.Entries.{entry_change}
use Rattle.undo_stack.specs.Sound.{Inner, start_of, history_of}
use Rattle.undo_stack.specs.Stacks.{inner_of}
use Rattle.undo_stack.specs.declared.level.Level.{Level}
use Rattle.undo_stack.specs.declared.entry.Entry.{Entry}
use Rattle.undo_stack.proofs.Texts.{map-steps, read_some, read_none, slice_get-append_left, slice_get-append_at}

actions-closed : {C : Type 0} (f : C → Change) (d : DocumentParts) (es : List (Entry C)) (n : ℕ)
    → map (λ s. s.names.action) (steps_of (entry_change f) es n d) ≡ map (λ (y : Entry C). (entry_change f y).names.action) es
actions-closed f d es n = map-steps (entry_change f) (λ s. s.names.action) (λ (y : Entry _). (entry_change f y).names.action) (λ y e. refl) es n d

-- at the number of an entry
pub action_at-entry : {C : Type 0} (f : C → Change) (d : DocumentParts) (es : List (Entry C)) (x : Entry C) (n at : ℕ) (clean : Option ℕ) (limit : ℕ)
    (ls : List (Inner C)) → at < length es → x ≡ get_or es at x → Some (entry_change f x).names.action ≡ action_at (history_of f d es n clean limit ls) at
action_at-entry f d es x n at clean limit [] h k =
    let p = λ (y : Entry _). (entry_change f y).names.action in
    sym (rw (actions-closed f d es n) (read_some p es x at h k))
action_at-entry f d es x n at clean limit (l ∷ ls) h k =
    let p = λ (y : Entry _). (entry_change f y).names.action in
    let inside : at < length (map p es) = omega (arith, length-map es p) in
    sym (rw (actions-closed f (start_of f (l ∷ ls) d) es n) (slice_get-append_left (map p es) (l.action ∷ []) at inside ∙ read_some p es x at h k))

-- behind the entries
action_at-closed : {C : Type 0} (f : C → Change) (d : DocumentParts) (es : List (Entry C)) (n at : ℕ) (clean : Option ℕ) (limit : ℕ) → length es ≤ at
    → None ≡ action_at (history_of f d es n clean limit []) at
action_at-closed f d es n at clean limit h =
    let p = λ (y : Entry _). (entry_change f y).names.action in
    sym (rw (actions-closed f d es n) (read_none p es at h))

pub action_at-past : {C : Type 0} (f : C → Change) (d : DocumentParts) (es : List (Entry C)) (n at : ℕ) (clean : Option ℕ) (limit : ℕ) (ls : List (Inner C))
    → length es < at → None ≡ action_at (history_of f d es n clean limit ls) at
action_at-past f d es n at clean limit [] h = action_at-closed f d es n at clean limit (omega arith)
action_at-past f d es n at clean limit (l ∷ ls) h =
    let p = λ (y : Entry _). (entry_change f y).names.action in
    let all = length-append (map p es) (l.action ∷ []) in
    let most : length (map p es ++ l.action ∷ []) ≤ at = omega (arith, all, length-map es p) in
    sym (rw (actions-closed f (start_of f (l ∷ ls) d) es n) (slice_get_past (map p es ++ l.action ∷ []) at most))

action_at-inner : {C : Type 0} (f : C → Change) (d : DocumentParts) (es : List (Entry C)) (n at : ℕ) (clean : Option ℕ) (limit : ℕ) (l : Inner C)
    (ls : List (Inner C)) → at ≡ length es → Some l.action ≡ action_at (history_of f d es n clean limit (l ∷ ls)) at
action_at-inner f d es n at clean limit l ls h =
    let p = λ (y : Entry _). (entry_change f y).names.action in
    sym (rw (actions-closed f (start_of f (l ∷ ls) d) es n) (slice_get-append_at (map p es) l.action at (h ∙ sym (length-map es p))))

-- that of an open macro, by what is the first of a stack's levels
pub action_at-open : {C : Type 0} (f : C → Change) (d : DocumentParts) (es : List (Entry C)) (n at : ℕ) (clean : Option ℕ) (limit : ℕ) (ls : List (Level C))
    (v : Level C) → Some v ≡ slice_get ls 0 → at ≡ length es → Some (inner_of v).action ≡ action_at (history_of f d es n clean limit (map inner_of ls)) at
action_at-open f d es n at clean limit [] v h k = absurd (let bad : Some v ≡ None = h in let worse : ⊥ = cc in worse)
action_at-open f d es n at clean limit (l ∷ ls) v h k =
    ap (λ (o : Option (Level _)). option_map (λ (m : Level _). (inner_of m).action) o) h
    ∙ action_at-inner f d es n at clean limit (inner_of l) (map inner_of ls) k

pub action_at-unopened : {C : Type 0} (f : C → Change) (d : DocumentParts) (es : List (Entry C)) (n at : ℕ) (clean : Option ℕ) (limit : ℕ) (ls : List (Level C))
    → None ≡ slice_get ls 0 → length es ≤ at → None ≡ action_at (history_of f d es n clean limit (map inner_of ls)) at
action_at-unopened f d es n at clean limit [] h k = action_at-closed f d es n at clean limit k
action_at-unopened f d es n at clean limit (l ∷ ls) h k = absurd (let bad : None ≡ Some l = h in let worse : ⊥ = cc in worse)
