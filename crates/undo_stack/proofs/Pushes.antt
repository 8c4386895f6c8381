-- A push outside levels, of an edit that is not merged, seen on entries; and the limit.
use Rattle.std.proofs.Common.{◌≡◌, ℕ, ◌+◌, ◌-◌, ◌<◌, ◌≤◌, max, zero, suc, List, [], ◌∷◌, ◌++◌, Option, Some, None, take, drop, length, map, refl, sym, ◌∙◌}
use Rattle.std.proofs.Common.{ap, arith, Bool, true, false, leb, leb-true}
use Rattle.std.specs.Prelude.{if◌then◌else◌}
use Rattle.std.proofs.lemmas.List.{append-nil, length-take-le, length-drop, take_all, drop_all, length-append, map-append}
use Rattle.map_model.specs.Document.{DocumentParts}
use Rattle.command_api.specs.Law.{Change, IsLawful, IsRedone}
use Rattle.command_api.specs.Names.{IsSettled, Vanishing, Never, WhenEqual, Free}
use Rattle.undo_stack.specs.History.{Step, step_named, History, last_after, current}
use Rattle.undo_stack.specs.Pushing.{step_of, up_to, lowered, limited_to, with_added, dropped, cut, Merges, IsPushed}
use Rattle.undo_stack.specs.Sequence.{before, steps_down, FitsDown}
use Rattle.undo_stack.specs.Merging.{IsEntered}
use Rattle.undo_stack.specs.Entries.{entry_change, depth, greatest}
use Rattle.undo_stack.specs.Held.{history_at}
use Rattle.undo_stack.specs.Sound.{IsTurnable, IsAtMost, sequence_depth}
use Rattle.undo_stack.specs.declared.entry.Entry.{Entry}
use Rattle.undo_stack.specs.declared.sequence.Sequence.{Sequence}
use Rattle.undo_stack.proofs.Sequences.{before-append, steps_down-append, FitsDown-push, last_after-down, length-down, take-steps, last_after-take}
use Rattle.undo_stack.proofs.Sequences.{drop-steps_down}
use Rattle.undo_stack.proofs.Views.{history_with}

-- an obsolete change leaves the document as it is
pub settled-same : (v : Vanishing) (d e : DocumentParts) → IsSettled v true d e → e ≡ d
settled-same Never d e h = absurd (let bad : true ≡ false = h in let worse : ⊥ = cc in worse)
settled-same WhenEqual d e h = h.0 refl
settled-same Free d e h = h refl

-- what is settled between two documents is so between them the other way
pub settled-back : (v : Vanishing) (b : Bool) (d e : DocumentParts) → IsSettled v b d e → IsSettled v b e d
settled-back Never b d e h = h
settled-back WhenEqual b d e h = ((λ p. sym (h.0 p)), (λ p. h.1 (sym p)))
settled-back Free b d e h = λ p. sym (h p)

-- what pushing an edit makes of a history, where it is not merged
pub pushed_entered : (gone : Bool) (h : History) (s : Step) (n : History) → (Merges (cut h) s → ⊥) → IsEntered gone h s n → IsPushed h s n
pushed_entered gone h s n alone p = record {
  merged = false;
  gone = gone;
  merged_where = ((λ q. absurd (let bad : false ≡ true = q in let worse : ⊥ = cc in worse)), (λ m. absurd (alone m)));
  gone_where = p.gone_where;
  next = p.next;
}

at_most_if : (b : Bool) (k n : ℕ) → (b ≡ true → k ≤ n) → IsAtMost (if b then Some k else None) n
at_most_if true k n h = h refl
at_most_if false k n h = tt

pub at_most-up_to : (n : ℕ) (clean : Option ℕ) → IsAtMost (up_to n clean) n
at_most-up_to n None = tt
at_most-up_to n (Some k) = at_most_if (leb k n) k n (leb-true k n)

pub at_most-more : (clean : Option ℕ) (n : ℕ) → IsAtMost clean n → IsAtMost clean (n + 1)
at_most-more None n h = tt
at_most-more (Some k) n h = omega arith

at_most_lowered_if : (b : Bool) (k n m : ℕ) → m ≤ n → IsAtMost (if b then Some (m - k) else None) (n - k)
at_most_lowered_if true k n m h = omega arith
at_most_lowered_if false k n m h = tt

pub at_most-lowered : (k : ℕ) (clean : Option ℕ) (n : ℕ) → IsAtMost clean n → IsAtMost (lowered k clean) (n - k)
at_most-lowered k None n h = tt
at_most-lowered k (Some m) n h = at_most_lowered_if (leb k m) k n m h

-- the depth of some of the entries, and of more
pub greatest-append : (ns ms : List ℕ) → greatest (ns ++ ms) ≡ max (greatest ns) (greatest ms)
greatest-append [] ms = omega arith
greatest-append (n ∷ ns) ms = let h = greatest-append ns ms in omega arith

pub sequence_depth-append : {C : Type 0} (es : List (Entry C)) (x : Entry C) → sequence_depth (es ++ x ∷ []) ≡ max (sequence_depth es) (depth x)
sequence_depth-append es x = let h = greatest-append (map depth es) (depth x ∷ []) in rw (map-append depth es (x ∷ [])) (omega arith)

pub sequence_depth-take : {C : Type 0} (k : ℕ) (es : List (Entry C)) → sequence_depth (take k es) ≤ sequence_depth es
sequence_depth-take zero es = omega arith
sequence_depth-take (suc k) [] = omega arith
sequence_depth-take (suc k) (x ∷ es) = let h = sequence_depth-take k es in omega arith

pub sequence_depth-drop : {C : Type 0} (k : ℕ) (es : List (Entry C)) → sequence_depth (drop k es) ≤ sequence_depth es
sequence_depth-drop zero es = omega arith
sequence_depth-drop (suc k) [] = omega arith
sequence_depth-drop (suc k) (x ∷ es) = let h = sequence_depth-drop k es in omega arith

-- ---- entries that are all done
-- the history of the sequence q at the document d, but with these entries, which are all done, this index and this clean index
abbrev pub done_with : {C : Type 0} → (C → Change) → DocumentParts → Sequence C → List (Entry C) → ℕ → Option ℕ → History
done_with f d q es n mark = record {
  base = before (entry_change f) es d;
  steps = steps_down (entry_change f) es d;
  position = n;
  clean = mark;
  limit = q.limit;
  levels = [];
}

pub done_view : {C : Type 0} (f : C → Change) (d : DocumentParts) (q : Sequence C) (es : List (Entry C)) (n : ℕ) (mark : Option ℕ)
    → length es ≡ n → history_with f d q es n mark ≡ done_with f d q es n mark
done_view f d q es n mark h =
    let all : length es ≤ n = omega arith in
    rw (take_all n es all, drop_all n es all, append-nil (steps_down (entry_change f) es d)) refl

pub done_sound : {C : Type 0} (f : C → Change) (d : DocumentParts) (es : List (Entry C)) (n : ℕ) (clean : Option ℕ)
    → length es ≡ n → FitsDown (entry_change f) es d → IsAtMost clean n → IsTurnable f d es n clean
done_sound f d es n clean h p q =
    let all : length es ≤ n = omega arith in
    record {
      within = omega arith;
      clean_within = rw h q;
      down = rw (take_all n es all) p;
      up = rw (drop_all n es all) tt;
    }

-- ---- the entries of a sequence above the index go
module _ {C : Type 0} (f : C → Change) (d : DocumentParts) (q : Sequence C) where
  pub cut_sound : IsTurnable f d q.entries.items q.index q.clean → IsTurnable f d (take q.index q.entries.items) q.index (up_to q.index q.clean)
  cut_sound s =
      let long = length-take-le q.index q.entries.items s.within in
      done_sound f d (take q.index q.entries.items) q.index (up_to q.index q.clean) long s.down (at_most-up_to q.index q.clean)

  module _ (within : q.index ≤ length q.entries.items) where
    pub cut_done : cut (history_at f d q) ≡ done_with f d q (take q.index q.entries.items) q.index (up_to q.index q.clean)
    cut_done = rw (take-steps (entry_change f) q.entries.items q.index d within) refl

    pub cut_view : cut (history_at f d q) ≡ history_with f d q (take q.index q.entries.items) q.index (up_to q.index q.clean)
    cut_view =
        let long = length-take-le q.index q.entries.items within in
        cut_done ∙ sym (done_view f d q (take q.index q.entries.items) q.index (up_to q.index q.clean) long)

    -- the current document stays
    pub current-cut : current (cut (history_at f d q)) ≡ d
    current-cut =
        let done = take q.index q.entries.items in
        let steps = steps_down (entry_change f) done d in
        let most : length steps ≤ q.index = omega (arith, length-down (entry_change f) done d, length-take-le q.index q.entries.items within) in
        ap current cut_done ∙ rw (take_all q.index steps most) (last_after-down (entry_change f) done d)

-- an edit that left the document as it is, and one that became a step
pub entered_gone : (h : History) (s : Step) (n : History) (d : DocumentParts) → current (cut h) ≡ d → IsSettled s.names.vanishing true d s.after → n ≡ cut h
    → IsEntered true h s n
entered_gone h s n d at settled next = record { gone_where = rw at settled; next = next }

pub entered_added : (h : History) (s : Step) (n : History) (d : DocumentParts) → current (cut h) ≡ d → IsSettled s.names.vanishing false d s.after
    → n ≡ (let k = cut h in with_added s k.levels k) → IsEntered false h s n
entered_added h s n d at settled next = record { gone_where = rw at settled; next = next }

-- an entry x above the others, which are all done, led to e
pub added_view : {C : Type 0} (f : C → Change) (e : DocumentParts) (q : Sequence C) (x : Entry C) → length q.entries.items ≡ q.index
    → history_with f e q (q.entries.items ++ x ∷ []) (q.index + 1) q.clean
    ≡ (let h = history_at f ((entry_change f x).undone e) q in
    record h { steps = h.steps ++ step_named (entry_change f x).names e ∷ []; position = h.position + 1 })
added_view f e q x end =
    let k = entry_change f in
    let es = q.entries.items in
    let d = (k x).undone e in
    let more : length (es ++ x ∷ []) ≡ q.index + 1 = length-append es (x ∷ []) ∙ ap (λ (m : ℕ). m + 1) end in
    let make : DocumentParts → List Step → History = λ b ss. record (done_with f e q es (q.index + 1) q.clean) { base = b; steps = ss } in
    let grown : History → History = λ h. record h { steps = h.steps ++ step_named (k x).names e ∷ []; position = h.position + 1 } in
    done_view f e q (es ++ x ∷ []) (q.index + 1) q.clean more
    ∙ ap (λ (b : DocumentParts). make b (steps_down k (es ++ x ∷ []) e)) (before-append k es x e)
    ∙ ap (make (before k es d)) (steps_down-append k es x e)
    ∙ sym (ap grown (done_view f d q es q.index q.clean end))

pub added_fits : {C : Type 0} (f : C → Change) (e : DocumentParts) (q : Sequence C) (x : Entry C) → length q.entries.items ≡ q.index
    → IsTurnable f ((entry_change f x).undone e) q.entries.items q.index q.clean → (entry_change f x).fits_undo e
    → FitsDown (entry_change f) (q.entries.items ++ x ∷ []) e
added_fits f e q x end s fits =
    let all : length q.entries.items ≤ q.index = omega arith in
    FitsDown-push (entry_change f) q.entries.items x e (rw (take_all q.index q.entries.items all) at s.down) fits

-- entries that are all done, without those that are more than the limit
limited_to-some : (limit : ℕ) (h : History) → 0 < limit → limited_to limit h ≡ dropped (length h.steps - limit) h
limited_to-some zero h some = absurd (omega arith)
limited_to-some (suc m) h some = refl

pub limited_view : {C : Type 0} (f : C → Change) (e : DocumentParts) (q : Sequence C) (es : List (Entry C)) (n : ℕ) (mark : Option ℕ)
    → length es ≡ n → 0 < q.limit
    → history_with f e q (drop (n - q.limit) es) (n - (n - q.limit)) (lowered (n - q.limit) mark) ≡ limited_to q.limit (history_with f e q es n mark)
limited_view f e q es n mark len some =
    let k = entry_change f in
    let over = n - q.limit in
    let left : length (drop over es) ≡ n - over = omega (arith, length-drop over es) in
    let steps = steps_down k es e in
    let whole = done_with f e q es n mark in
    let same : length steps - q.limit ≡ over = omega (arith, length-down k es e) in
    let make : DocumentParts → List Step → History = λ b ss. record whole { base = b; steps = ss; position = n - over; clean = lowered over mark } in
    done_view f e q (drop over es) (n - over) (lowered over mark) left
    ∙ ap (λ (b : DocumentParts). make b (steps_down k (drop over es) e)) (sym (last_after-take k over es e))
    ∙ ap (make (last_after (before k es e) (take over steps))) (sym (drop-steps_down k over es e))
    ∙ sym (ap (λ (j : ℕ). dropped j whole) same)
    ∙ sym (limited_to-some q.limit whole some)
    ∙ sym (ap (limited_to q.limit) (done_view f e q es n mark len))

-- the step of a command, by what became of the command when it was redone
pub redone_step : (v w : Change) (d e k : DocumentParts) → IsRedone v w d e → k ≡ d → step_of v k ≡ step_named w.names e
redone_step v w d e k r at = rw (at, ← r.document, r.names) refl

-- whether a command that led to e is gone
pub undone_settled : (w : Change) (e : DocumentParts) (b : Bool) → w.fits_undo e → IsLawful w → w.obsolete ≡ b → IsSettled w.names.vanishing b (w.undone e) e
undone_settled w e b fits law is =
    let one = law.undo e fits in
    settled-back w.names.vanishing b e (w.undone e) (rw is at one)

pub pushed_as : (h : History) (s t : Step) (n : History) → IsPushed h s n → t ≡ s → IsPushed h t n
pushed_as h s t n p q = rw q p
