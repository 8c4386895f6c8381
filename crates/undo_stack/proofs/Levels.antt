-- Levels that open and close inside others, and entries that are put into the last one.
use Rattle.std.proofs.Common.{◌≡◌, ℕ, max, ◌+◌, ◌-◌, ◌≤◌, List, [], ◌∷◌, ◌++◌, length, map, refl, ap, arith}
use Rattle.std.proofs.lemmas.List.{map-append}
use Rattle.map_model.specs.Document.{DocumentParts}
use Rattle.command_api.specs.Law.{Change}
use Rattle.undo_stack.specs.History.{Open, innermost}
use Rattle.undo_stack.specs.Pushing.{without_last}
use Rattle.undo_stack.specs.Sequence.{before, steps_down}
use Rattle.undo_stack.specs.Entries.{entry_change}
use Rattle.undo_stack.specs.Sound.{Inner, start_of, opens, sequence_depth, level_depth}
use Rattle.undo_stack.specs.Stacks.{inner_of, AreHeld, AreReady, IsDone, IsReady}
use Rattle.undo_stack.specs.Lending.{innermost_of}
use Rattle.undo_stack.specs.Held.{IsHeld}
use Rattle.undo_stack.specs.declared.sequence.Sequence.{Sequence}
use Rattle.undo_stack.specs.declared.level.Level.{Level}

-- a level in a history
abbrev pub open_of : {C : Type 0} → (C → Change) → Inner C → DocumentParts → Open
open_of f l d = record { text = l.text; action = l.action; start = before (entry_change f) l.sequence d; steps = steps_down (entry_change f) l.sequence d }

pub start_of-append : {C : Type 0} (f : C → Change) (ls : List (Inner C)) (l : Inner C) (d : DocumentParts)
    → start_of f (ls ++ l ∷ []) d ≡ start_of f ls (before (entry_change f) l.sequence d)
start_of-append f [] l d = refl
start_of-append f (m ∷ ls) l d = ap (before (entry_change f) m.sequence) (start_of-append f ls l d)

pub opens-append : {C : Type 0} (f : C → Change) (ls : List (Inner C)) (l : Inner C) (d : DocumentParts)
    → opens f (ls ++ l ∷ []) d ≡ opens f ls (before (entry_change f) l.sequence d) ++ open_of f l d ∷ []
opens-append f [] l d = refl
opens-append f (m ∷ ls) l d = rw (start_of-append f ls l d, opens-append f ls l d) refl

pub level_depth-append : {C : Type 0} (ls : List (Inner C)) (l : Inner C) (n : ℕ) → level_depth ls ≤ n → length ls + sequence_depth l.sequence + 1 ≤ n
    → level_depth (ls ++ l ∷ []) ≤ n
level_depth-append [] l n h g = omega arith
level_depth-append (m ∷ ls) l n h g =
    let below : level_depth ls ≤ n - 1 = omega arith in
    let rest = level_depth-append ls l (n - 1) below (omega arith) in
    omega arith

pub level_depth-without_last : {C : Type 0} (ls : List (Inner C)) (l : Inner C) → level_depth ls ≤ level_depth (ls ++ l ∷ [])
level_depth-without_last [] l = omega arith
level_depth-without_last (m ∷ ls) l = let rest = level_depth-without_last ls l in omega arith

pub level_depth-last : {C : Type 0} (ls : List (Inner C)) (l m : Inner C) → sequence_depth m.sequence ≤ sequence_depth l.sequence
    → level_depth (ls ++ m ∷ []) ≤ level_depth (ls ++ l ∷ [])
level_depth-last [] l m h = omega arith
level_depth-last (k ∷ ls) l m h = let rest = level_depth-last ls l m h in omega arith

-- an entry that is one deeper than the last level was put into the one around it
pub level_depth-closed : {C : Type 0} (ls : List (Inner C)) (v l m : Inner C)
    → sequence_depth m.sequence ≤ max (sequence_depth v.sequence) (sequence_depth l.sequence + 1)
    → level_depth (ls ++ m ∷ []) ≤ level_depth ((ls ++ v ∷ []) ++ l ∷ [])
level_depth-closed [] v l m h = omega arith
level_depth-closed (k ∷ ls) v l m h = let rest = level_depth-closed ls v l m h in omega arith

pub level_depth-deep : {C : Type 0} (ls : List (Inner C)) (l : Inner C) → sequence_depth l.sequence + 1 ≤ level_depth (ls ++ l ∷ [])
level_depth-deep [] l = omega arith
level_depth-deep (m ∷ ls) l = let rest = level_depth-deep ls l in omega arith

-- levels that are held, and ready for those in them
pub AreHeld-pop : {C : Type 0} (f : C → Change) (ms : List (Level C)) (v : Level C) (d : DocumentParts) → AreHeld f (ms ++ v ∷ []) d
    → AreHeld f ms (before (entry_change f) (inner_of v).sequence d) × IsHeld f d v.sequence × IsDone v.sequence
AreHeld-pop f [] v d h = (tt, h.0, h.1)
AreHeld-pop f (m ∷ ms) v d h =
    let rest = AreHeld-pop f ms v d h.2 in
    ((rw (map-append inner_of ms (v ∷ []), start_of-append f (map inner_of ms) (inner_of v) d) at h.0, h.1, rest.0), rest.1, rest.2)

pub AreHeld-push : {C : Type 0} (f : C → Change) (ms : List (Level C)) (v : Level C) (d : DocumentParts)
    → AreHeld f ms (before (entry_change f) (inner_of v).sequence d) → IsHeld f d v.sequence → IsDone v.sequence → AreHeld f (ms ++ v ∷ []) d
AreHeld-push f [] v d h held done = (held, done, tt)
AreHeld-push f (m ∷ ms) v d h held done =
    (rw (map-append inner_of ms (v ∷ []), start_of-append f (map inner_of ms) (inner_of v) d) h.0, h.1, AreHeld-push f ms v d h.2 held done)

pub AreReady-pop : {C : Type 0} (q : Sequence C) (ms : List (Level C)) (v : Level C) → AreReady q (ms ++ v ∷ []) → AreReady q ms × IsReady (innermost_of q ms)
AreReady-pop q [] v h = (tt, h.0)
AreReady-pop q (m ∷ ms) v h = let rest = AreReady-pop m.sequence ms v h.1 in ((h.0, rest.0), rest.1)

pub AreReady-push : {C : Type 0} (q : Sequence C) (ms : List (Level C)) (v : Level C) → AreReady q ms → IsReady (innermost_of q ms) → AreReady q (ms ++ v ∷ [])
AreReady-push q [] v h r = (r, tt)
AreReady-push q (m ∷ ms) v h r = (h.0, AreReady-push m.sequence ms v h.1 r)

pub AreReady-last : {C : Type 0} (q : Sequence C) (ms : List (Level C)) (v w : Level C) → AreReady q (ms ++ v ∷ []) → AreReady q (ms ++ w ∷ [])
AreReady-last q [] v w h = h
AreReady-last q (m ∷ ms) v w h = (h.0, AreReady-last m.sequence ms v w h.1)

pub innermost_of-append : {C : Type 0} (q : Sequence C) (ms : List (Level C)) (v : Level C) → innermost_of q (ms ++ v ∷ []) ≡ v.sequence
innermost_of-append q [] v = refl
innermost_of-append q (m ∷ ms) v = innermost_of-append m.sequence ms v

-- the last of some things, and those before it
pub without_last-append : {A : Type 0} (xs : List A) (x : A) → without_last (xs ++ x ∷ []) ≡ xs
without_last-append [] x = refl
without_last-append (y ∷ []) x = refl
without_last-append (y ∷ z ∷ xs) x = ap (λ ys. y ∷ ys) (without_last-append (z ∷ xs) x)

pub innermost-append : (o : Open) (os : List Open) (p : Open) → innermost o (os ++ p ∷ []) ≡ p
innermost-append o [] p = refl
innermost-append o (q ∷ os) p = innermost-append q os p
