-- The target of a history: the last step below the position, or the last inner step of the innermost level.
use Rattle.std.proofs.Common.{◌≡◌, ℕ, ◌+◌, ◌-◌, ◌≤◌, List, [], Option, Some, None, take, length, refl, sym, ◌∙◌, ap, arith, Bool, true, false, leb}
use Rattle.std.specs.Prelude.{if◌then◌else◌}
use Rattle.map_model.specs.Document.{DocumentParts}
use Rattle.command_api.specs.Law.{Change}
use Rattle.undo_stack.specs.History.{Step, History, last_after}
use Rattle.undo_stack.specs.Pushing.{cut, without_last, last_step, led_to, up_to, target, before_target, vanishing_of, Continues, Merges, with_target_at}
use Rattle.undo_stack.specs.Pushing.{Vanishes, next_of, IsPushed}
use Rattle.undo_stack.specs.Sequence.{before, steps_down}
use Rattle.undo_stack.specs.Entries.{entry_change}
use Rattle.undo_stack.specs.Held.{history_at}
use Rattle.undo_stack.specs.Sound.{IsAtMost}
use Rattle.undo_stack.specs.Merging.{IsAltered, SettlesSequence, SettlesTarget, left_of, settled_to}
use Rattle.undo_stack.specs.declared.entry.Entry.{Entry}
use Rattle.undo_stack.specs.declared.sequence.Sequence.{Sequence}
use Rattle.undo_stack.proofs.Sequences.{length-down, take-steps}
use Rattle.undo_stack.proofs.Pushes.{cut_done, done_view, done_with}
use Rattle.undo_stack.proofs.Views.{history_with}
use Rattle.undo_stack.proofs.Joins.{length-without_last, vanishing_of-led_to, without_last-led_to}

-- the history h with no level open
abbrev closed : History → History
closed h = record h { levels = [] }

next_led : (gone : Bool) (s : Step) (h : History) → settled_to gone (with_target_at s.after [] (closed h)) ≡ next_of true gone s (closed h)
next_led true s h = ap (λ (ss : List Step). record (closed h) { steps = ss; position = h.position - 1 }) (without_last-led_to s.after h.steps)
next_led false s h = refl

-- an edit that is merged, of which the target goes where it is obsolete then
pub merged_next : (gone : Bool) (h : History) (s : Step) (m n : History) → m ≡ with_target_at s.after [] (cut (closed h)) → SettlesTarget s.after gone m n
    → n ≡ next_of true gone s (cut (closed h))
merged_next gone h s m n is t = t.next ∙ ap (settled_to gone) is ∙ next_led gone s (cut (closed h))

pub pushed_merged : (gone : Bool) (h : History) (s : Step) (m n : History) → Merges (cut (closed h)) s → m ≡ with_target_at s.after [] (cut (closed h))
    → SettlesTarget s.after gone m n → IsPushed (closed h) s n
pushed_merged gone h s m n merges is t =
    let ss = take h.position h.steps in
    let vanishing = ap (λ (x : History). vanishing_of (target x)) is ∙ vanishing_of-led_to s.after ss in
    let start = ap before_target is ∙ ap (last_after h.base) (without_last-led_to s.after ss) in
    record {
      merged = true;
      gone = gone;
      merged_where = ((λ q. merges), (λ q. refl));
      gone_where = rw (vanishing, start) at t.gone_where;
      next = merged_next gone h s m n is t;
    }

pub merged_gone : (gone : Bool) (h : History) (s : Step) (m n : History) → m ≡ with_target_at s.after [] (cut (closed h)) → SettlesTarget s.after gone m n
    → Vanishes true gone (cut (closed h)) s
merged_gone gone h s m n is t =
    let ss = take h.position h.steps in
    let vanishing = ap (λ (x : History). vanishing_of (target x)) is ∙ vanishing_of-led_to s.after ss in
    let start = ap before_target is ∙ ap (last_after h.base) (without_last-led_to s.after ss) in
    rw (vanishing, start) at t.gone_where

-- a clean position that is not here is not here either once those past it are lost
up_to_if : (b : Bool) (k n : ℕ) → (Some k ≡ Some n → ⊥) → (if b then Some k else None) ≡ Some n → ⊥
up_to_if true k n h e = h e
up_to_if false k n h e = (let bad : ⊥ = cc in bad)

pub up_to-unclean : (n : ℕ) (clean : Option ℕ) → (clean ≡ Some n → ⊥) → up_to n clean ≡ Some n → ⊥
up_to-unclean n None h e = h e
up_to-unclean n (Some k) h e = up_to_if (leb k n) k n h e

pub at_most-unclean : (n m : ℕ) (clean : Option ℕ) → IsAtMost clean n → (clean ≡ Some n → ⊥) → n ≤ m + 1 → IsAtMost clean m
at_most-unclean n m None h other le = tt
at_most-unclean n m (Some k) h other le = let ne : k ≡ n → ⊥ = λ e. other (ap Some e) in omega arith

-- ---- entries that are all done, with no level open
-- they are xs but for their steps, which were changed so
altered_view : {C : Type 0} (f : C → Change) (q : Sequence C) (change : List Step → List Step) (d e : DocumentParts) (xs ys : List (Entry C)) (m : ℕ)
    (mark : Option ℕ) → length ys ≡ m → IsAltered (entry_change f) change xs d ys e
    → history_with f e q ys m mark ≡ record (done_with f d q xs m mark) { steps = change (steps_down (entry_change f) xs d) }
altered_view f q change d e xs ys m mark len a =
    let make : DocumentParts → List Step → History = λ b ss. record (done_with f d q xs m mark) { base = b; steps = ss } in
    done_view f e q ys m mark len
    ∙ ap (λ b. make b (steps_down (entry_change f) ys e)) a.base
    ∙ ap (make (before (entry_change f) xs d)) a.steps

-- the target goes, or stays
settled_view : {C : Type 0} (f : C → Change) (gone : Bool) (d : DocumentParts) (q : Sequence C) (ys : List (Entry C)) (m : ℕ)
    → length q.entries.items ≡ q.index → length ys ≡ m → IsAltered (entry_change f) (left_of gone) q.entries.items d ys d
    → history_with f d q ys m q.clean ≡ settled_to gone (history_at f d q)
settled_view f true d q ys m all left a =
    let k = entry_change f in
    let es = q.entries.items in
    let fewer = length-without_last (steps_down k es d) in
    let number : m ≡ q.index - 1 = omega (arith, left, all, length-down k ys d, length-down k es d, ap length a.steps, fewer) in
    altered_view f q (left_of true) d d es ys m q.clean left a
    ∙ ap (λ (i : ℕ). record (done_with f d q es i q.clean) { steps = without_last (steps_down k es d) }) number
    ∙ sym (ap (settled_to true) (done_view f d q es q.index q.clean all))
settled_view f false d q ys m all left a =
    let k = entry_change f in
    let es = q.entries.items in
    let number : m ≡ q.index = omega (arith, left, all, length-down k ys d, length-down k es d, ap length a.steps) in
    altered_view f q (left_of false) d d es ys m q.clean left a
    ∙ ap (λ (i : ℕ). done_with f d q es i q.clean) number
    ∙ sym (done_view f d q es q.index q.clean all)

pub settles_done : {C : Type 0} (f : C → Change) (gone : Bool) (d : DocumentParts) (q : Sequence C) (ys : List (Entry C)) (m : ℕ)
    → length q.entries.items ≡ q.index → length ys ≡ m → SettlesSequence (entry_change f) gone q.entries.items d ys
    → SettlesTarget d gone (history_at f d q) (history_with f d q ys m q.clean)
settles_done f gone d q ys m all left s =
    let is = done_view f d q q.entries.items q.index q.clean all in
    record {
      gone_where = rw (ap (λ (x : History). vanishing_of (target x)) is, ap before_target is) s.gone_where;
      next = settled_view f gone d q ys m all left s.sequence;
    }

-- ---- a merge into the last of the entries that are done, with no level open
module _ {C : Type 0} (f : C → Change) (d : DocumentParts) (q : Sequence C) (within : q.index ≤ length q.entries.items) where
  pub merged_view : (e : DocumentParts) (ys : List (Entry C)) → length ys ≡ q.index
      → IsAltered (entry_change f) (led_to e) (take q.index q.entries.items) d ys e
      → history_with f e q ys q.index (up_to q.index q.clean) ≡ with_target_at e [] (cut (history_at f d q))
  merged_view e ys len a =
      altered_view f q (led_to e) d e (take q.index q.entries.items) ys q.index (up_to q.index q.clean) len a
      ∙ sym (ap (with_target_at e []) (cut_done f d q within))

  pub merges_closed : (s : Step) → Continues (last_step (steps_down (entry_change f) (take q.index q.entries.items) d)) s
      → (q.clean ≡ Some q.index → ⊥) → Merges (cut (history_at f d q)) s
  merges_closed s c other = record {
    continues = rw (take-steps (entry_change f) q.entries.items q.index d within) c;
    unclean = up_to-unclean q.index q.clean other;
  }

  pub continues_closed : (s : Step) → Merges (cut (history_at f d q)) s
      → Continues (last_step (steps_down (entry_change f) (take q.index q.entries.items) d)) s
  continues_closed s m = rw (take-steps (entry_change f) q.entries.items q.index d within) at m.continues
