-- A stack tells of as many steps whether they are macros as it has texts for.
use Rattle.std.proofs.Common.{◌≡◌, ℕ, zero, suc, true, List, [], ◌∷◌, ◌++◌, Option, length, map, refl, sym, ◌∙◌, arith}
use Rattle.std.specs.Prelude.{is_some, slice_get}
use Rattle.std.proofs.lemmas.List.{length-append, length-map}
use Rattle.map_model.specs.Document.{DocumentParts}
use Rattle.command_api.specs.Law.{Change}
use Rattle.undo_stack.specs.Entries.{entry_change}
use Rattle.undo_stack.specs.Held.{entry_nestings}
use Rattle.undo_stack.specs.Nestings.{is_nested, macros_in, nesting}
use Rattle.undo_stack.specs.Reading.{text_at}
use Rattle.undo_stack.specs.Sequence.{steps_of}
use Rattle.undo_stack.specs.Sound.{history_of, start_of}
use Rattle.undo_stack.specs.Stacks.{history, inner_of, macros}
use Rattle.undo_stack.specs.declared.entry.Entry.{Entry}
use Rattle.undo_stack.specs.declared.level.Level.{Level}
use Rattle.undo_stack.specs.declared.stack.Stack.{Stack}
use Rattle.undo_stack.proofs.Texts.{map-steps}

same_bounds : {A B : Type 0} (xs : List A) (ys : List B) (at : ℕ) → length xs ≡ length ys → is_some (slice_get xs at) ≡ is_some (slice_get ys at)
same_bounds [] [] at h = refl
same_bounds [] (y ∷ ys) at h = absurd (omega (arith, h))
same_bounds (x ∷ xs) [] at h = absurd (omega (arith, h))
same_bounds (x ∷ xs) (y ∷ ys) zero h = refl
same_bounds (x ∷ xs) (y ∷ ys) (suc at) h = same_bounds xs ys at (omega (arith, h))

texts_of : {C : Type 0} (f : C → Change) (d : DocumentParts) (es : List (Entry C)) (n : ℕ)
    → map (λ s. s.names.text) (steps_of (entry_change f) es n d) ≡ map (λ (y : Entry C). (entry_change f y).names.text) es
texts_of f d es n = map-steps (entry_change f) (λ s. s.names.text) (λ (y : Entry _). (entry_change f y).names.text) (λ y e. refl) es n d

-- as many as there are entries
nested_all : {C : Type 0} (es : List (Entry C)) → length (map is_nested (map nesting es)) ≡ length es
nested_all es = length-map (map nesting es) is_nested ∙ length-map es nesting

as_many_in : {C : Type 0} (f : C → Change) (d : DocumentParts) (es : List (Entry C)) (n at : ℕ) (clean : Option ℕ) (limit : ℕ) (ls : List (Level C))
    → is_some (slice_get (macros_in (map (λ l. entry_nestings l.sequence) ls) (map nesting es)) at)
    ≡ is_some (text_at (history_of f d es n clean limit (map inner_of ls)) at)
as_many_in f d es n at clean limit [] =
    let p = λ (y : Entry _). (entry_change f y).names.text in
    let os = map nesting es in
    rw (texts_of f d es n) (same_bounds (map is_nested os) (map p es) at (nested_all es ∙ sym (length-map es p)))
as_many_in f d es n at clean limit (l ∷ ls) =
    let p = λ (y : Entry _). (entry_change f y).names.text in
    let os = map nesting es in
    let both : length (map is_nested os ++ true ∷ []) ≡ length (map p es ++ (inner_of l).text ∷ []) =
    omega (arith, length-append (map is_nested os) (true ∷ []), length-append (map p es) ((inner_of l).text ∷ []), nested_all es, length-map es p) in
    rw (texts_of f (start_of f (map inner_of (l ∷ ls)) d) es n) (same_bounds (map is_nested os ++ true ∷ []) (map p es ++ (inner_of l).text ∷ []) at both)

pub as_many : {C : Type 0} (f : C → Change) (s : Stack C) (at : ℕ) → is_some (slice_get (macros s) at) ≡ is_some (text_at (history f s) at)
as_many f s at = let q = s.sequences.steps in as_many_in f s.document q.entries.items q.index at q.clean q.limit s.sequences.levels.items
