-- Which documents an entry stands between.
use Rattle.std.proofs.Common.{◌≡◌, ℕ, zero, suc, ◌+◌, ◌-◌, ◌<◌, ◌≤◌, Bor, List, [], ◌∷◌, Option, None, Some, IfSome, IsSomeAnd, take, drop, length, map}
use Rattle.std.proofs.Common.{refl, sym, ◌∙◌, ap, subst, inl, inr, take_all, arith}
use Rattle.std.specs.Prelude.{MatchOption, option_and_then, slice_get}
use Rattle.std.specs.Slice.{IsItemAt}
use Rattle.std.proofs.lemmas.List.{length-map}
use Rattle.std.proofs.lemmas.Option.{slice_get-get_or, slice_get_past, slice_get_read}
use Rattle.map_model.specs.Document.{DocumentParts}
use Rattle.command_api.specs.Law.{Change}
use Rattle.undo_stack.specs.Entries.{entry_change}
use Rattle.undo_stack.specs.Held.{IsHeld}
use Rattle.undo_stack.specs.History.{History, Open, Step, current, document_at, innermost, last_after}
use Rattle.undo_stack.specs.Sequence.{before, steps_down, steps_of, steps_up, FitsDown, FitsUp}
use Rattle.undo_stack.specs.Sides.{StandsBetween, before_last, inner_document_at}
use Rattle.undo_stack.specs.Sound.{history_of, opens, start_of}
use Rattle.undo_stack.specs.Stacks.{AreHeld, Holds, IsDone, history, inner_of, inners}
use Rattle.undo_stack.specs.declared.entry.Entry.{Entry}
use Rattle.undo_stack.specs.declared.level.Level.{Level}
use Rattle.undo_stack.specs.declared.sequence.Sequence.{Sequence}
use Rattle.undo_stack.specs.declared.stack.Stack.{Stack}
use Rattle.undo_stack.proofs.Sequences.{length-down}

-- ---- entries that are lent
-- at a number
pub lent-at : {A : Type 0} (xs : List A) (at : ℕ) (r : Option (Bor A)) (P : A → Type 0) → IsItemAt xs at r → ((x : A) → slice_get xs at ≡ Some x → P x)
    → IfSome r (λ x. P x.now)
lent-at xs at None P item f = tt
lent-at xs at (Some x) P item f = f x.now (slice_get_read xs (length xs) at x.now refl item.3.0 item.1)

-- below an index
abbrev pub IsBelow : {A : Type 0} → List A → ℕ → A → Type 0
IsBelow xs n x = (0 < n) × (slice_get xs (n - 1) ≡ Some x)

pub lent-below : {A : Type 0} (xs : List A) (n : ℕ) (r : Option (Bor A)) → (n ≡ 0 → ⊥) → IsItemAt xs (n - 1) r
    → MatchOption r (n ≤ length xs → n ≡ 0) (λ x. IsBelow xs n x.now)
lent-below xs n None some item = λ within. absurd (some (omega (arith, within, item.3)))
lent-below xs n (Some x) some item =
    let least : 0 < n = by_number n some in
    (least, slice_get_read xs (length xs) (n - 1) x.now refl item.3.0 item.1)
  where
    by_number : (m : ℕ) → (m ≡ 0 → ⊥) → 0 < m
    by_number zero h = absurd (h refl)
    by_number (suc m) h = omega arith

pub lent-or : {A : Type 0} (xs : List A) (n : ℕ) (r : Option (Bor A)) (N : Type 0) (P : A → Type 0)
    → MatchOption r (n ≤ length xs → n ≡ 0) (λ x. IsBelow xs n x.now) → n ≤ length xs → (n ≡ 0 → N) → ((x : A) → IsBelow xs n x → P x)
    → MatchOption r N (λ x. P x.now)
lent-or xs n None N P h within none some = none (h within)
lent-or xs n (Some x) N P h within none some = some x.now h

-- past the last level
pub nests-none : {A B : Type 0} (k : A → List B) (xs : List A) (at n : ℕ) → length xs ≤ at
    → None ≡ option_and_then (λ os. slice_get os n) (slice_get (map k xs) at)
nests-none k xs at n past = rw (slice_get_past (map k xs) at (omega (arith, past, length-map xs k))) refl

-- ---- a change of a sequence
-- of one that led to d
pub between-down : {B : Type 0} (f : B → Change) (xs : List B) (d : DocumentParts) (at : ℕ) (x : B) → slice_get xs at ≡ Some x → FitsDown f xs d
    → StandsBetween (f x) (last_after (before f xs d) (take at (steps_down f xs d))) (last_after (before f xs d) (take (suc at) (steps_down f xs d)))
between-down f [] d at x g h = cc
between-down f (y ∷ xs) d zero x g h =
    let same : y ≡ x = cc in
    subst (λ z. StandsBetween (f z) ((f y).undone (before f xs d)) (before f xs d)) same (inr (h.0, refl))
between-down f (y ∷ xs) d (suc at) x g h = between-down f xs d at x g h.1

-- of one that leads on from d
pub between-up : {B : Type 0} (f : B → Change) (xs : List B) (d : DocumentParts) (at : ℕ) (x : B) → slice_get xs at ≡ Some x → FitsUp f xs d
    → StandsBetween (f x) (last_after d (take at (steps_up f xs d))) (last_after d (take (suc at) (steps_up f xs d)))
between-up f [] d at x g h = cc
between-up f (y ∷ xs) d zero x g h =
    let same : y ≡ x = cc in
    subst (λ z. StandsBetween (f z) d ((f y).redone d)) same (inl (h.0, refl))
between-up f (y ∷ xs) d (suc at) x g h = between-up f xs ((f y).redone d) at x g h.1

-- of one of which the first n changes led to d
pub between-steps : {B : Type 0} (f : B → Change) (xs : List B) (n : ℕ) (d : DocumentParts) (at : ℕ) (x : B) → slice_get xs at ≡ Some x
    → FitsDown f (take n xs) d → FitsUp f (drop n xs) d
    → StandsBetween (f x) (last_after (before f (take n xs) d) (take at (steps_of f xs n d)))
    (last_after (before f (take n xs) d) (take (suc at) (steps_of f xs n d)))
between-steps f xs zero d at x g down up = between-up f xs d at x g up
between-steps f [] (suc n) d at x g down up = cc
between-steps f (y ∷ xs) (suc n) d zero x g down up =
    let same : y ≡ x = cc in
    subst (λ z. StandsBetween (f z) ((f y).undone (before f (take n xs) d)) (before f (take n xs) d)) same (inr (down.0, refl))
between-steps f (y ∷ xs) (suc n) d (suc at) x g down up = between-steps f xs n d at x g down.1 up

-- ---- an entry of a stack
-- of its own
pub own-between : {C : Type 0} (f : C → Change) (s : Stack C) (at : ℕ) (e : Entry C) → slice_get s.sequences.steps.entries.items at ≡ Some e → Holds f s
    → StandsBetween (entry_change f e) (document_at (history f s) at) (document_at (history f s) (at + 1))
own-between f s at e g h =
    let q = s.sequences.steps in
    let fits = h.own.sound.turnable in
    let next : suc at ≡ at + 1 = omega arith in
    subst (λ (n : ℕ). StandsBetween (entry_change f e) (document_at (history f s) at) (document_at (history f s) n)) next
    (between-steps (entry_change f) q.entries.items q.index (start_of f (inners s) s.document) at e g fits.down fits.up)

-- in a macro all entries are done
fits-done : {C : Type 0} (f : C → Change) (d : DocumentParts) (q : Sequence C) → IsHeld f d q → IsDone q → FitsDown (entry_change f) q.entries.items d
fits-done f d q held done =
    let whole : length q.entries.items ≡ q.index = sym done.index in
    subst (λ (es : List (Entry _)). FitsDown (entry_change f) es d) (take_all q.index q.entries.items (omega (arith, whole))) held.sound.turnable.down

-- of an open macro
pub level-between : {C : Type 0} (f : C → Change) (ls : List (Level C)) (d : DocumentParts) (level at : ℕ) (l : Level C) (e : Entry C)
    → slice_get ls level ≡ Some l → slice_get l.sequence.entries.items at ≡ Some e → AreHeld f ls d
    → IsSomeAnd (slice_get (opens f (map inner_of ls) d) level)
    (λ o. StandsBetween (entry_change f e) (inner_document_at o at) (inner_document_at o (at + 1)))
level-between f [] d level at l e g k h = cc
level-between f (m ∷ ls) d zero at l e g k h =
    let same : l ≡ m = cc in
    let here : slice_get m.sequence.entries.items at ≡ Some e = subst (λ (n : Level _). slice_get n.sequence.entries.items at ≡ Some e) same k in
    let begin = start_of f (map inner_of ls) d in
    let es = m.sequence.entries.items in
    let next : suc at ≡ at + 1 = omega arith in
    subst (λ (n : ℕ). StandsBetween (entry_change f e) (last_after (before (entry_change f) es begin) (take at (steps_down (entry_change f) es begin)))
    (last_after (before (entry_change f) es begin) (take n (steps_down (entry_change f) es begin)))) next
    (between-down (entry_change f) es begin at e here (fits-done f begin m.sequence h.0 h.1))
level-between f (m ∷ ls) d (suc level) at l e g k h = level-between f ls d level at l e g k h.2

-- ---- what was done last
-- in a level, of which o is what the history has
last-inner : {C : Type 0} (f : C → Change) (d : DocumentParts) (v : Level C) (e : Entry C) → 0 < v.sequence.index
    → slice_get v.sequence.entries.items (v.sequence.index - 1) ≡ Some e → IsHeld f d v.sequence → IsDone v.sequence
    → (o : Open) → o.start ≡ before (entry_change f) v.sequence.entries.items d → o.steps ≡ steps_down (entry_change f) v.sequence.entries.items d
    → StandsBetween (entry_change f e) (inner_document_at o (length o.steps - 1)) (last_after o.start o.steps)
last-inner f d v e some g held done o start steps =
    let es = v.sequence.entries.items in
    let n = v.sequence.index in
    let down = steps_down (entry_change f) es d in
    let first = before (entry_change f) es d in
    let long : length down ≡ n = length-down (entry_change f) es d ∙ sym done.index in
    let before_end : length down - 1 ≡ n - 1 = omega (arith, long) in
    let whole : take (suc (n - 1)) down ≡ down = take_all (suc (n - 1)) down (omega (arith, long, some)) in
    let at = between-down (entry_change f) es d (n - 1) e g (fits-done f d v.sequence held done) in
    let told : StandsBetween (entry_change f e) (last_after first (take (length down - 1) down)) (last_after first down) =
    rw before_end (subst (λ (ss : List Step). StandsBetween (entry_change f e) (last_after first (take (n - 1) down)) (last_after first ss)) whole at) in
    rw (start, steps) told

last-level : {C : Type 0} (f : C → Change) (l : Level C) (ls : List (Level C)) (d : DocumentParts) (v : Level C) (e : Entry C)
    → slice_get (l ∷ ls) (length ls) ≡ Some v → 0 < v.sequence.index → slice_get v.sequence.entries.items (v.sequence.index - 1) ≡ Some e
    → AreHeld f (l ∷ ls) d → (o : Open) → o.start ≡ before (entry_change f) l.sequence.entries.items (start_of f (map inner_of ls) d)
    → o.steps ≡ steps_down (entry_change f) l.sequence.entries.items (start_of f (map inner_of ls) d)
    → let m = innermost o (opens f (map inner_of ls) d) in
    StandsBetween (entry_change f e) (inner_document_at m (length m.steps - 1)) (last_after m.start m.steps)
last-level f l [] d v e is some g held o start steps =
    let same : v ≡ l = cc in
    last-inner f d v e some g (rw same held.0) (rw same held.1) o (rw same start) (rw same steps)
last-level f l (m ∷ ms) d v e is some g held o start steps = last-level f m ms d v e is some g held.2 _ refl refl

none-level : {C : Type 0} (f : C → Change) (l : Level C) (ls : List (Level C)) (d : DocumentParts) (v : Level C) → slice_get (l ∷ ls) (length ls) ≡ Some v
    → v.sequence.index ≡ 0 → AreHeld f (l ∷ ls) d → (o : Open)
    → o.steps ≡ steps_down (entry_change f) l.sequence.entries.items (start_of f (map inner_of ls) d)
    → let m = innermost o (opens f (map inner_of ls) d) in inner_document_at m (length m.steps - 1) ≡ last_after m.start m.steps
none-level f l [] d v is none held o steps =
    let same : v ≡ l = cc in
    let done : l.sequence.index ≡ 0 = rw same at none in
    let few : length o.steps ≤ length o.steps - 1 =
    omega (arith, done, held.1.index, ap length steps, length-down (entry_change f) l.sequence.entries.items d) in
    ap (last_after o.start) (take_all (length o.steps - 1) o.steps few)
none-level f l (m ∷ ms) d v is none held o steps = none-level f m ms d v is none held.2 _ refl

pub level-within : {C : Type 0} (f : C → Change) (ls : List (Level C)) (d : DocumentParts) (at : ℕ) (v : Level C) → slice_get ls at ≡ Some v → AreHeld f ls d
    → v.sequence.index ≤ length v.sequence.entries.items
level-within f [] d at v is h = cc
level-within f (l ∷ ls) d zero v is h = let same : v ≡ l = cc in rw same h.0.sound.turnable.within
level-within f (l ∷ ls) d (suc at) v is h = level-within f ls d at v is h.2

-- the history of a stack with these levels
abbrev history_at_levels : {C : Type 0} → (C → Change) → Stack C → List (Level C) → History
history_at_levels f s ls =
    let q = s.sequences.steps in
    history_of f s.document q.entries.items q.index q.clean q.limit (map inner_of ls)

module _ {C : Type 0} (f : C → Change) (s : Stack C) (held : Holds f s) where
  pub last-opened : (v : Level C) (e : Entry C) → slice_get s.sequences.levels.items (length s.sequences.levels.items - 1) ≡ Some v
      → IsBelow v.sequence.entries.items v.sequence.index e → StandsBetween (entry_change f e) (before_last (history f s)) (current (history f s))
  last-opened v e is below = by_levels s.sequences.levels.items held.levels is
    where
      by_levels : (ls : List (Level C)) → AreHeld f ls s.document → slice_get ls (length ls - 1) ≡ Some v
          → StandsBetween (entry_change f e) (before_last (history_at_levels f s ls)) (current (history_at_levels f s ls))
      by_levels [] h i = cc
      by_levels (l ∷ ls) h i =
          let count : length (l ∷ ls) - 1 ≡ length ls = omega arith in
          last-level f l ls s.document v e (rw count at i) below.0 below.1 h _ refl refl

  pub none-opened : (v : Level C) → slice_get s.sequences.levels.items (length s.sequences.levels.items - 1) ≡ Some v → v.sequence.index ≡ 0
      → before_last (history f s) ≡ current (history f s)
  none-opened v is none = by_levels s.sequences.levels.items held.levels is
    where
      by_levels : (ls : List (Level C)) → AreHeld f ls s.document → slice_get ls (length ls - 1) ≡ Some v
          → before_last (history_at_levels f s ls) ≡ current (history_at_levels f s ls)
      by_levels [] h i = cc
      by_levels (l ∷ ls) h i =
          let count : length (l ∷ ls) - 1 ≡ length ls = omega arith in
          none-level f l ls s.document v (rw count at i) none h _ refl

  -- with no open macro
  pub last-own : (e : Entry C) → slice_get s.sequences.levels.items (length s.sequences.levels.items - 1) ≡ None
      → IsBelow s.sequences.steps.entries.items s.sequences.steps.index e
      → StandsBetween (entry_change f e) (before_last (history f s)) (current (history f s))
  last-own e is below = by_levels s.sequences.levels.items is (own-between f s (s.sequences.steps.index - 1) e below.1 held)
    where
      by_levels : (ls : List (Level C)) → slice_get ls (length ls - 1) ≡ None
          → StandsBetween (entry_change f e) (document_at (history_at_levels f s ls) (s.sequences.steps.index - 1))
          (document_at (history_at_levels f s ls) (s.sequences.steps.index - 1 + 1))
          → StandsBetween (entry_change f e) (before_last (history_at_levels f s ls)) (current (history_at_levels f s ls))
      by_levels [] i between =
          let back : s.sequences.steps.index - 1 + 1 ≡ s.sequences.steps.index = omega (arith, below.0) in
          rw back at between
      by_levels (l ∷ ls) i between = let there = slice_get-get_or (l ∷ ls) (length (l ∷ ls) - 1) l (omega arith) in cc

  pub none-own : slice_get s.sequences.levels.items (length s.sequences.levels.items - 1) ≡ None → s.sequences.steps.index ≡ 0
      → before_last (history f s) ≡ current (history f s)
  none-own is none = by_levels s.sequences.levels.items is
    where
      by_levels : (ls : List (Level C)) → slice_get ls (length ls - 1) ≡ None
          → before_last (history_at_levels f s ls) ≡ current (history_at_levels f s ls)
      by_levels [] i =
          let same : s.sequences.steps.index - 1 ≡ s.sequences.steps.index = omega (arith, none) in
          ap (document_at (history_at_levels f s [])) same
      by_levels (l ∷ ls) i = let there = slice_get-get_or (l ∷ ls) (length (l ∷ ls) - 1) l (omega arith) in cc
