-- What the history of a stack, or of one sequence, says of its entries.
use Rattle.std.proofs.Common.{◌≡◌, ℕ, ◌+◌, ◌<◌, ◌≤◌, false, List, [], ◌∷◌, Option, Some, take, length, map, min, max, refl, sym, ◌∙◌, ap, subst, arith, Ok, Err}
use Rattle.std.proofs.lemmas.Bool.{lt-ltb, le-ltb}
use Rattle.map_model.specs.Document.{DocumentParts}
use Rattle.command_api.specs.Law.{Change}
use Rattle.undo_stack.specs.History.{History, Open, new_history, current, count, count_in, is_clean, is_clean_in, last_after, innermost}
use Rattle.undo_stack.specs.Reading.{undo_text_in, undo_text_of, redo_text_in, redo_text_of}
use Rattle.undo_stack.specs.Moving.{Answer, positioned, outside, redo_answer, cleared}
use Rattle.undo_stack.specs.Sequence.{before, steps_down, IsMoved}
use Rattle.undo_stack.specs.Entries.{entry_change}
use Rattle.undo_stack.specs.Held.{history_at}
use Rattle.undo_stack.specs.Sound.{Inner, start_of, opens, history_of, IsTurnable}
use Rattle.undo_stack.specs.Stacks.{history, inner_of, inners}
use Rattle.undo_stack.specs.declared.entry.Entry.{Entry}
use Rattle.undo_stack.specs.declared.level.Level.{Level}
use Rattle.undo_stack.specs.declared.sequence.Sequence.{Sequence}
use Rattle.undo_stack.specs.declared.stack.Stack.{Stack}
use Rattle.refusals.specs.declared.stack_fault.StackFault.TheVariants.{MacroOpen, NothingToRedo}
use Rattle.undo_stack.proofs.Sequences.{last_after-down, take-steps, length-steps}

-- the history of a stack with these open levels, at the document d, of which q is the own sequence
abbrev pub history_in : {C : Type 0} → List (Inner C) → (C → Change) → DocumentParts → Sequence C → History
history_in ls f d q = history_of f d q.entries.items q.index q.clean q.limit ls

-- the history of the sequence q at the document d, but with these entries, this index and this clean index
abbrev pub history_with : {C : Type 0} → (C → Change) → DocumentParts → Sequence C → List (Entry C) → ℕ → Option ℕ → History
history_with f d q es n mark = history_of f d es n mark q.limit []

-- the levels lead to the current document
last_after-innermost : {C : Type 0} (f : C → Change) (l : Inner C) (ls : List (Inner C)) (d : DocumentParts) (o : Open)
    → o.start ≡ before (entry_change f) l.sequence (start_of f ls d) → o.steps ≡ steps_down (entry_change f) l.sequence (start_of f ls d)
    → last_after (innermost o (opens f ls d)).start (innermost o (opens f ls d)).steps ≡ d
last_after-innermost f l [] d o p q = rw (p, q) (last_after-down (entry_change f) l.sequence d)
last_after-innermost f l (m ∷ ls) d o p q = last_after-innermost f m ls d _ refl refl

-- the current document is the one that the entries lead to
pub current-history_in : {C : Type 0} (ls : List (Inner C)) (f : C → Change) (d : DocumentParts) (q : Sequence C)
    → q.index ≤ length q.entries.items → current (history_in ls f d q) ≡ d
current-history_in [] f d q h =
    let done = take q.index q.entries.items in
    rw (take-steps (entry_change f) q.entries.items q.index d h) (last_after-down (entry_change f) done d)
current-history_in (l ∷ ls) f d q h = last_after-innermost f l ls d _ refl refl

-- ---- a history by its open levels
count_in-open : (os : List Open) (h : History) → 0 < length os → count_in os h ≡ length h.steps + 1
count_in-open [] h some = absurd (omega arith)
count_in-open (o ∷ os) h some = refl

count_in-least : (os : List Open) (h : History) → length h.steps ≤ count_in os h
count_in-least [] h = omega arith
count_in-least (o ∷ os) h = omega arith

is_clean_in-open : (os : List Open) (h : History) → 0 < length os → false ≡ is_clean_in os h
is_clean_in-open [] h some = absurd (omega arith)
is_clean_in-open (o ∷ os) h some = refl

undo_text_in-open : (os : List Open) (h : History) → 0 < length os → [] ≡ undo_text_in os h
undo_text_in-open [] h some = absurd (omega arith)
undo_text_in-open (o ∷ os) h some = refl

redo_text_in-open : (os : List Open) (h : History) → 0 < length os → [] ≡ redo_text_in os h
redo_text_in-open [] h some = absurd (omega arith)
redo_text_in-open (o ∷ os) h some = refl

outside-some : (os : List Open) (answer : Answer) → 0 < length os → Err MacroOpen ≡ outside os answer
outside-some [] answer some = absurd (omega arith)
outside-some (o ∷ os) answer some = refl

pub length-opens : {C : Type 0} (f : C → Change) (ls : List (Level C)) (d : DocumentParts) → length (opens f (map inner_of ls) d) ≡ length ls
length-opens f [] d = refl
length-opens f (l ∷ ls) d = let h = length-opens f ls d in omega arith

-- ---- a stack
module _ {C : Type 0} (f : C → Change) (s : Stack C) where
  -- its history has a step for each entry of its own
  pub length-own : length (history f s).steps ≡ length s.sequences.steps.entries.items
  length-own =
      let q = s.sequences.steps in
      length-steps (entry_change f) q.entries.items q.index (start_of f (inners s) s.document)

  pub count-least : length s.sequences.steps.entries.items ≤ count (history f s)
  count-least = subst (λ (n : ℕ). n ≤ count (history f s)) length-own (count_in-least (history f s).levels (history f s))

  -- while a level is open it is not clean, has no texts for undo and redo, and answers so to a call that moves
  module _ (some : 0 < length s.sequences.levels.items) where
    levels : 0 < length (history f s).levels
    levels = subst (λ (n : ℕ). 0 < n) (sym (length-opens f s.sequences.levels.items s.document)) some

    pub count-open : count (history f s) ≡ length s.sequences.steps.entries.items + 1
    count-open = count_in-open (history f s).levels (history f s) levels ∙ ap (λ (n : ℕ). n + 1) length-own

    pub is_clean-open : false ≡ is_clean (history f s)
    is_clean-open = is_clean_in-open (history f s).levels (history f s) levels

    pub undo_text_of-open : [] ≡ undo_text_of (history f s)
    undo_text_of-open = undo_text_in-open (history f s).levels (history f s) levels

    pub redo_text_of-open : [] ≡ redo_text_of (history f s)
    redo_text_of-open = redo_text_in-open (history f s).levels (history f s) levels

    pub outside-open : (answer : Answer) → Err MacroOpen ≡ outside (history f s).levels answer
    outside-open answer = outside-some (history f s).levels answer levels

  -- with no level open it says nothing else than its entries
  module _ (none : s.sequences.levels.items ≡ []) where
    pub count-closed : count (history f s) ≡ length s.sequences.steps.entries.items
    count-closed = rw (none, length-steps (entry_change f) s.sequences.steps.entries.items s.sequences.steps.index s.document) refl

    pub outside-closed : (answer : Answer) → outside (history f s).levels answer ≡ answer
    outside-closed answer = rw none refl

    -- redo is accepted below the last position, and not at it
    pub redo-accepted : s.sequences.steps.index < length s.sequences.steps.entries.items → redo_answer (history f s) ≡ Ok tt
    redo-accepted h =
        let q = s.sequences.steps in
        rw (none, length-steps (entry_change f) q.entries.items q.index s.document, lt-ltb q.index (length q.entries.items) h) refl

    pub redo-refused : s.sequences.steps.index ≡ length s.sequences.steps.entries.items → redo_answer (history f s) ≡ Err NothingToRedo
    redo-refused h =
        let q = s.sequences.steps in
        rw (none, length-steps (entry_change f) q.entries.items q.index s.document, le-ltb q.index (length q.entries.items) (omega arith)) refl

  -- no entries and no levels are left
  pub cleared_view : (p : Sequence C) (ls : List (Level C)) → s.sequences.steps.index ≤ length s.sequences.steps.entries.items
      → p.entries.items ≡ [] → p.index ≡ 0 → p.clean ≡ Some 0 → p.limit ≡ s.sequences.steps.limit → ls ≡ []
      → history_in (map inner_of ls) f s.document p ≡ cleared (history f s)
  cleared_view p ls within entries index clean limit closed =
      let anew : DocumentParts → History = λ d. new_history d s.sequences.steps.limit in
      let seen : history_in (map inner_of ls) f s.document p ≡ anew s.document = rw (entries, index, clean, limit, closed) refl in
      seen ∙ sym (ap anew (current-history_in (inners s) f s.document s.sequences.steps within))

-- ---- a sequence
-- entries of which one was turned
pub moved_view : {C : Type 0} (f : C → Change) (d e : DocumentParts) (q : Sequence C) (ts : List (Entry C)) (j : ℕ)
    → IsMoved (entry_change f) q.entries.items q.index d ts j e → history_with f e q ts j q.clean ≡ positioned j (history_at f d q)
moved_view f d e q ts j m = rw (m.base, m.steps) refl

pub moved_sound : {C : Type 0} (f : C → Change) (d e : DocumentParts) (q : Sequence C) (ts : List (Entry C)) (j : ℕ)
    → IsTurnable f d q.entries.items q.index q.clean → j ≤ length q.entries.items
    → IsMoved (entry_change f) q.entries.items q.index d ts j e → IsTurnable f e ts j q.clean
moved_sound f d e q ts j s h m = record {
  within = rw m.same_length h;
  clean_within = rw m.same_length s.clean_within;
  down = m.down;
  up = m.up;
}

-- a position below the count is that of an entry, and the other way
pub step_within : {C : Type 0} (f : C → Change) (d : DocumentParts) (q : Sequence C)
    → q.index < length (history_at f d q).steps → q.index < length q.entries.items
step_within f d q h = rw (length-steps (entry_change f) q.entries.items q.index d) at h

pub step_above : {C : Type 0} (f : C → Change) (d : DocumentParts) (q : Sequence C)
    → q.index < length q.entries.items → q.index < length (history_at f d q).steps
step_above f d q h = rw (length-steps (entry_change f) q.entries.items q.index d) h

-- steps that were undone to a number at most, and then made again up to it
pub turned_view : (h u now : History) (i : ℕ) → h.position ≤ length h.steps → u ≡ positioned (min i h.position) h
    → now ≡ positioned (max (min i (length u.steps)) u.position) u → now ≡ positioned (min i (length h.steps)) h
turned_view h u now i within back on =
    let to : max (min i (length h.steps)) (min i h.position) ≡ min i (length h.steps) = omega arith in
    on ∙ ap (λ (v : History). positioned (max (min i (length v.steps)) v.position) v) back ∙ ap (λ (n : ℕ). positioned n h) to
