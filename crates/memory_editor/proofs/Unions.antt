-- What is told of steps one after another, and of the entries of open macros.
use Rattle.std.proofs.Common.{◌≡◌, ℕ, zero, suc, ◌+◌, ◌<◌, ◌≤◌, List, [], ◌∷◌, ◌++◌, Option, None, Some, IfSome, IsSomeAnd, length, map, max, min, take}
use Rattle.std.proofs.Common.{refl, sym, ◌∙◌, ap, subst, true, false, inl, inr, take_all, arith}
use Rattle.std.specs.Prelude.{nat_lt, option_and_then, slice_get, unwrap_or}
use Rattle.std.specs.Option.{option_map}
use Rattle.std.proofs.lemmas.Bool.{cases_lt}
use Rattle.std.proofs.lemmas.Bool.Decides.{nat_tests}
use Rattle.std.proofs.lemmas.List.{length-append, length-map}
use Rattle.std.proofs.lemmas.Option.{slice_get_past}
use Rattle.map_model.specs.Document.{DocumentParts}
use Rattle.command_api.specs.Law.{Change}
use Rattle.undo_stack.specs.Entries.{entry_change}
use Rattle.undo_stack.specs.Held.{entry_nestings}
use Rattle.undo_stack.specs.History.{History, Open, Step, count, count_in, current, document_at, last_after}
use Rattle.undo_stack.specs.Nestings.{Nesting, nesting}
use Rattle.undo_stack.specs.Reading.{text_at, texts_in}
use Rattle.undo_stack.specs.Sequence.{before, steps_down}
use Rattle.undo_stack.specs.Sides.{StandsBetween, inner_document_at}
use Rattle.undo_stack.specs.Sound.{Inner, opens, start_of}
use Rattle.undo_stack.specs.Stacks.{AreReady, Holds, history, inner_of, inners}
use Rattle.undo_stack.specs.declared.level.Level.{Level}
use Rattle.undo_stack.specs.declared.stack.Stack.{Stack}
use Rattle.undo_stack.proofs.Sequences.{last_after-down, length-down, take-steps}
use Rattle.undo_stack.proofs.Views.{current-history_in, length-own}
use Rattle.document_lines.specs.declared.differences.Differences.{Differences}
use Rattle.document_lines.specs.Differing.{DifferWithin, all_differs, no_differences}
use Rattle.memory_editor.specs.OneMore.{TellsOneMore}
use Rattle.memory_editor.specs.Unions.{TellsOn, document_behind, open_document, open_document_in}
use Rattle.memory_editor.proofs.OneMore.{all-within, turned-within}

-- ---- what was told, and what is
pub tells-then : (was between told : Differences) (e f g : DocumentParts) → TellsOn was between e f → TellsOn between told f g → TellsOn was told e g
tells-then was between told e f g one other d h = other d (one d h)

pub tells-all : (was : Differences) (e f : DocumentParts) → TellsOn was all_differs e f
tells-all was e f d h = all-within d f

-- a change that stands between two documents
pub tells-change : (was told : Differences) (c : Change) (e f : DocumentParts) → TellsOneMore was told c → StandsBetween c e f → TellsOn was told e f
tells-change was told c e f more (inl made) d h = subst (DifferWithin told d) made.1 (more.redo d e h made.0)
tells-change was told c e f more (inr turned) d h = more.undo d f turned.0 (subst (DifferWithin was d) (sym turned.1) h)

-- a document and itself
pub none-within : (d : DocumentParts) → DifferWithin no_differences d d
none-within d = record {
  outline = λ not. refl;
  selection = λ not. refl;
  layers = λ some. record { width = refl; height = refl; ids = refl };
  cells = λ id x y not. refl;
}

-- ---- past the last one
none-past : {A : Type 0} (xs : List A) (at : ℕ) → slice_get xs at ≡ None → length xs ≤ at
none-past [] at e = omega arith
none-past (x ∷ xs) zero e = cc
none-past (x ∷ xs) (suc at) e = let h = none-past xs at e in omega (arith, h)

some-within : {A : Type 0} (xs : List A) (at : ℕ) (x : A) → slice_get xs at ≡ Some x → at < length xs
some-within [] at x e = cc
some-within (y ∷ xs) zero x e = omega arith
some-within (y ∷ xs) (suc at) x e = let h = some-within xs at x e in omega (arith, h)

pub own-past : {C : Type 0} (f : C → Change) (s : Stack C) (at : ℕ) → None ≡ slice_get (map nesting s.sequences.steps.entries.items) at
    → length (history f s).steps ≤ at
own-past f s at e =
    let es = s.sequences.steps.entries.items in
    let long = none-past (map nesting es) at (sym e) in
    omega (arith, long, length-map es nesting, length-own f s)

pub same-past : {C : Type 0} (f : C → Change) (s : Stack C) (at : ℕ) → None ≡ slice_get (map nesting s.sequences.steps.entries.items) at
    → document_at (history f s) at ≡ document_at (history f s) (at + 1)
same-past f s at e =
    let h = history f s in
    let past = own-past f s at e in
    let first = take_all at h.steps past in
    let second = take_all (at + 1) h.steps (omega (arith, past)) in
    ap (last_after h.base) (first ∙ sym second)

-- ---- open macros
opened-past : {C : Type 0} (f : C → Change) (ls : List (Level C)) (d : DocumentParts) (level at : ℕ)
    → None ≡ option_and_then (λ os. slice_get os at) (slice_get (map (λ (l : Level C). entry_nestings l.sequence) ls) level)
    → IfSome (slice_get (opens f (map inner_of ls) d) level) (λ o. length o.steps ≤ at)
opened-past f [] d level at e = tt
opened-past f (l ∷ ls) d zero at e =
    let es = l.sequence.entries.items in
    let long = none-past (map nesting es) at (sym e) in
    omega (arith, long, length-map es nesting, length-down (entry_change f) es (start_of f (map inner_of ls) d))
opened-past f (l ∷ ls) d (suc level) at e = opened-past f ls d level at e

past-same : (d : DocumentParts) (o : Option Open) (at : ℕ) → IfSome o (λ l. length l.steps ≤ at) → open_document_in d o at ≡ open_document_in d o (at + 1)
past-same d None at h = refl
past-same d (Some l) at h =
    ap (last_after l.start) (take_all at l.steps h ∙ sym (take_all (at + 1) l.steps (omega (arith, h))))

pub open-past : {C : Type 0} (f : C → Change) (s : Stack C) (level at : ℕ)
    → None ≡ option_and_then (λ os. slice_get os at) (slice_get (map (λ (l : Level C). entry_nestings l.sequence) s.sequences.levels.items) level)
    → open_document (history f s) level at ≡ open_document (history f s) level (at + 1)
open-past f s level at e =
    past-same (current (history f s)) (slice_get (history f s).levels level) at (opened-past f s.sequences.levels.items s.document level at e)

pub tells-inner : (was told : Differences) (c : Change) (d : DocumentParts) (o : Option Open) (at : ℕ) → TellsOneMore was told c
    → IsSomeAnd o (λ l. StandsBetween c (inner_document_at l at) (inner_document_at l (at + 1)))
    → TellsOn was told (open_document_in d o at) (open_document_in d o (at + 1))
tells-inner was told c d None at more h = absurd h
tells-inner was told c d (Some l) at more h = tells-change was told c (inner_document_at l at) (inner_document_at l (at + 1)) more h

-- the last document of a level is the one where the next one begins, or the current one
next-begins : {C : Type 0} (f : C → Change) (ls : List (Inner C)) (d : DocumentParts) (level at : ℕ)
    → IfSome (slice_get (opens f ls d) level) (λ o. length o.steps ≤ at)
    → open_document_in d (slice_get (opens f ls d) level) at ≡ open_document_in d (slice_get (opens f ls d) (suc level)) 0
next-begins f [] d level at h = refl
next-begins f (l ∷ ls) d (suc level) at h = next-begins f ls d level at h
next-begins f (l ∷ []) d zero at h =
    let es = l.sequence in
    ap (last_after (before (entry_change f) es d)) (take_all at (steps_down (entry_change f) es d) h) ∙ last_after-down (entry_change f) es d
next-begins f (l ∷ m ∷ ls) d zero at h =
    let es = l.sequence in
    let begin = start_of f (m ∷ ls) d in
    ap (last_after (before (entry_change f) es begin)) (take_all at (steps_down (entry_change f) es begin) h) ∙ last_after-down (entry_change f) es begin

pub next-open : {C : Type 0} (f : C → Change) (s : Stack C) → Holds f s → (level at : ℕ)
    → IfSome (slice_get (history f s).levels level) (λ o. length o.steps ≤ at)
    → open_document (history f s) level at ≡ open_document (history f s) (level + 1) 0
next-open f s held level at h =
    let now : current (history f s) ≡ s.document =
    current-history_in (inners s) f s.document s.sequences.steps held.own.sound.turnable.within in
    let next : level + 1 ≡ suc level = omega arith in
    rw (now, next) (next-begins f (inners s) s.document level at h)

-- before open macros stand all steps
pub own-end : {C : Type 0} (f : C → Change) (s : Stack C) → Holds f s → 0 < length s.sequences.levels.items
    → document_at (history f s) (length s.sequences.steps.entries.items) ≡ open_document (history f s) 0 0
own-end f s held some = by_levels s.sequences.levels.items refl some
  where
    by_levels : (ls : List (Level _)) → s.sequences.levels.items ≡ ls → 0 < length ls
        → document_at (history f s) (length s.sequences.steps.entries.items) ≡ open_document (history f s) 0 0
    by_levels [] e l = absurd (omega (arith, l))
    by_levels (m ∷ ms) e l =
        let q = s.sequences.steps in
        let es = q.entries.items in
        let begin = start_of f (inners s) s.document in
        let ready = subst (λ (ls : List (Level _)). AreReady q ls) e held.ready in
        let all : length es ≡ q.index = sym ready.0.index in
        let done = take-steps (entry_change f) es q.index begin held.own.sound.turnable.within in
        rw all (ap (last_after (before (entry_change f) (take q.index es) begin)) done ∙ last_after-down (entry_change f) (take q.index es) begin ∙ begins e)
      where
        begins : s.sequences.levels.items ≡ m ∷ ms → start_of f (inners s) s.document ≡ open_document (history f s) 0 0
        begins e = rw e refl

-- ---- as many entries as an open macro has
pub all-inner : {C : Type 0} (f : C → Change) (s : Stack C) (level count at : ℕ)
    → count ≡ unwrap_or (option_map length (slice_get (map (λ (l : Level C). entry_nestings l.sequence) s.sequences.levels.items) level)) 0 → count ≤ at
    → IfSome (slice_get (history f s).levels level) (λ o. length o.steps ≤ at)
all-inner f s level count at e long = in_levels s.sequences.levels.items level e
  where
    in_levels : (ls : List (Level _)) (level : ℕ)
        → count ≡ unwrap_or (option_map length (slice_get (map (λ (l : Level _). entry_nestings l.sequence) ls) level)) 0
        → IfSome (slice_get (opens f (map inner_of ls) s.document) level) (λ o. length o.steps ≤ at)
    in_levels [] level e = tt
    in_levels (l ∷ ls) zero e =
        let es = l.sequence.entries.items in
        omega (arith, long, e, length-map es nesting, length-down (entry_change f) es (start_of f (map inner_of ls) s.document))
    in_levels (l ∷ ls) (suc level) e = in_levels ls level e

pub has-none : (o : Option Open) → IfSome o (λ l. 0 ≤ length l.steps)
has-none None = tt
has-none (Some l) = omega arith

-- past the innermost level is the current document
pub past-open : {C : Type 0} (f : C → Change) (s : Stack C) (level at : ℕ) → length (history f s).levels ≤ level
    → open_document (history f s) level at ≡ current (history f s)
past-open f s level at e = rw (slice_get_past (history f s).levels level e) refl

-- ---- the step with a number
pub text-within : (h : History) (at : ℕ) (text : List ℕ) → Some text ≡ text_at h at → at < count h
text-within h at text e = by_levels h.levels e
  where
    by_levels : (os : List Open) → Some text ≡ slice_get (texts_in os h.steps) at → at < count_in os h
    by_levels [] e = let l = some-within (map (λ s. s.names.text) h.steps) at text (sym e) in omega (arith, l, length-map h.steps (λ s. s.names.text))
    by_levels (o ∷ os) e =
        let own = map (λ (s : Step). s.names.text) h.steps in
        let l = some-within (own ++ o.text ∷ []) at text (sym e) in
        omega (arith, l, length-append own (o.text ∷ []), length-map h.steps (λ s. s.names.text))

pub behind-step : {C : Type 0} (f : C → Change) (s : Stack C) (at : ℕ) (n : Nesting) → Some n ≡ slice_get (map nesting s.sequences.steps.entries.items) at
    → document_behind (history f s) at ≡ document_at (history f s) (at + 1)
behind-step f s at n e =
    let es = s.sequences.steps.entries.items in
    let own = some-within (map nesting es) at n (sym e) in
    let l : at < length (history f s).steps = omega (arith, own, length-map es nesting, length-own f s) in
    let test : nat_lt at (length (history f s).steps) ≡ true = grind (arith, nat_tests) in
    rw test refl

-- where there is no such entry, it is the open macro, behind all steps
pub behind-open : {C : Type 0} (f : C → Change) (s : Stack C) (at : ℕ) → Holds f s → None ≡ slice_get (map nesting s.sequences.steps.entries.items) at
    → at < count (history f s)
    → (document_behind (history f s) at ≡ current (history f s)) × (document_at (history f s) at ≡ open_document (history f s) 0 0)
behind-open f s at held e there =
    let past = own-past f s at e in
    let test : nat_lt at (length (history f s).steps) ≡ false = grind (arith, nat_tests) in
    (rw test refl, by_levels s.sequences.levels.items refl)
  where
    by_levels : (ls : List (Level _)) → s.sequences.levels.items ≡ ls → document_at (history f s) at ≡ open_document (history f s) 0 0
    by_levels [] none =
        let past = own-past f s at e in
        let few : at < length (history f s).steps =
        subst (λ (ls : List (Level _)). at < count_in (opens f (map inner_of ls) s.document) (history f s)) none there in
        absurd (omega (arith, past, few))
    by_levels (l ∷ ls) some =
        let past = own-past f s at e in
        let few : at < length (history f s).steps + 1 =
        subst (λ (ls : List (Level _)). at < count_in (opens f (map inner_of ls) s.document) (history f s)) some there in
        let some_open : 0 < length s.sequences.levels.items = rw some (omega arith) in
        let last : at ≡ length s.sequences.steps.entries.items = omega (arith, past, few, length-own f s) in
        rw last (own-end f s held some_open)

-- ---- a turn, up or down
pub turn-told : (document : ℕ → DocumentParts) (before after low high : ℕ) (told : Differences) → low ≡ min after before → high ≡ max after before
    → (low ≤ high → TellsOn no_differences told (document low) (document high)) → DifferWithin told (document before) (document after)
turn-told document before after low high told is_low is_high tells = elim (cases_lt after before) [
  | inl l ↦
      let first : low ≡ after = omega (arith, is_low, l) in
      let last : high ≡ before = omega (arith, is_high, l) in
      let back : DifferWithin told (document after) (document before) =
      (rw (first, last) at tells) (omega (arith, l)) (document after) (none-within (document after)) in
      turned-within told (document after) (document before) back
  | inr l ↦
      let first : low ≡ before = omega (arith, is_low, l) in
      let last : high ≡ after = omega (arith, is_high, l) in
      (rw (first, last) at tells) l (document before) (none-within (document before))
]
