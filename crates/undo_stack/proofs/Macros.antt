-- Levels that open and close, seen on a stack's entries.
use Rattle.std.proofs.Common.{◌≡◌, ℕ, List, [], ◌∷◌, ◌++◌, refl, sym, ◌∙◌, ap, Ok}
use Rattle.map_model.specs.Document.{DocumentParts}
use Rattle.command_api.specs.Law.{Change}
use Rattle.command_api.specs.Names.{untagged, Never}
use Rattle.undo_stack.specs.History.{step_named, Open, History, current}
use Rattle.undo_stack.specs.Pushing.{cut, cut_in, with_added}
use Rattle.undo_stack.specs.Macros.{step_of_level, end_answer_in, ended_in, begun}
use Rattle.undo_stack.specs.Sequence.{before}
use Rattle.undo_stack.specs.Entries.{entry_change}
use Rattle.undo_stack.specs.Sound.{Inner, opens}
use Rattle.undo_stack.specs.declared.sequence.Sequence.{Sequence}
use Rattle.undo_stack.proofs.Sequences.{last_after-down}
use Rattle.undo_stack.proofs.Levels.{open_of, start_of-append, opens-append, without_last-append, innermost-append}
use Rattle.undo_stack.proofs.Views.{history_in}

pub end_answer_in-append : (os : List Open) (o : Open) → Ok tt ≡ end_answer_in (os ++ o ∷ [])
end_answer_in-append [] o = refl
end_answer_in-append (p ∷ os) o = refl

ended_in-append : (os : List Open) (o : Open) (h : History) → ended_in (os ++ o ∷ []) h ≡ with_added (step_of_level o) os (record h { levels = os })
ended_in-append [] o h = refl
ended_in-append (p ∷ os) o h = rw (innermost-append p os o, without_last-append (p ∷ os) o) refl

pub ended_answer : {C : Type 0} (f : C → Change) (ls : List (Inner C)) (l : Inner C) (d : DocumentParts)
    → Ok tt ≡ end_answer_in (opens f (ls ++ l ∷ []) d)
ended_answer f ls l d =
    end_answer_in-append (opens f ls (before (entry_change f) l.sequence d)) (open_of f l d)
    ∙ sym (ap end_answer_in (opens-append f ls l d))

pub ended_view : {C : Type 0} (ls : List (Inner C)) (l : Inner C) (f : C → Change) (d : DocumentParts) (q : Sequence C)
    → ended_in (opens f (ls ++ l ∷ []) d) (history_in (ls ++ l ∷ []) f d q)
    ≡ (let h = history_in ls f (before (entry_change f) l.sequence d) q in with_added (step_named (untagged l.text l.action Never) d) h.levels h)
ended_view ls l f d q =
    let whole = history_in (ls ++ l ∷ []) f d q in
    ap (λ (os : List Open). ended_in os whole) (opens-append f ls l d)
    ∙ ended_in-append (opens f ls (before (entry_change f) l.sequence d)) (open_of f l d) whole
    ∙ rw (last_after-down (entry_change f) l.sequence d, start_of-append f ls l d) refl

begun_levels : {C : Type 0} (ls : List (Inner C)) (f : C → Change) (d : DocumentParts) (q : Sequence C) (text action : List ℕ)
    → history_in (ls ++ record { text = text; action = action; sequence = [] } ∷ []) f d q
    ≡ (let h = history_in ls f d q in record h { levels = h.levels ++ record { text = text; action = action; start = d; steps = [] } ∷ [] })
begun_levels ls f d q text action =
    let l : Inner _ = record { text = text; action = action; sequence = [] } in
    rw (start_of-append f ls l d, opens-append f ls l d) refl

cut_in-levels : (os : List Open) (h : History) → (cut_in os h).levels ≡ h.levels
cut_in-levels [] h = refl
cut_in-levels (o ∷ os) h = refl

pub begun_view : {C : Type 0} (ls : List (Inner C)) (f : C → Change) (d : DocumentParts) (q : Sequence C) (h : History) (text action : List ℕ)
    → history_in ls f d q ≡ cut h → d ≡ current h
    → history_in (ls ++ record { text = text; action = action; sequence = [] } ∷ []) f d q ≡ begun text action h
begun_view ls f d q h text action is at =
    let with_level : History → List Open → DocumentParts → History =
    λ k os e. record k { levels = os ++ record { text = text; action = action; start = e; steps = [] } ∷ [] } in
    let closed : History = cut h in
    begun_levels ls f d q text action
    ∙ ap (λ (k : History). with_level k k.levels d) is
    ∙ ap (with_level closed closed.levels) at
    ∙ ap (λ (os : List Open). with_level closed os (current h)) (cut_in-levels h.levels h)
