-- Sequences of which an entry that changes nothing goes.
use Rattle.std.proofs.Common.{◌≡◌, ℕ, ◌+◌, ◌<◌, ◌≤◌, List, [], ◌∷◌, ◌++◌, Option, Some, None, IsSome, OnSome, true, take, drop, length, map, get_or}
use Rattle.std.proofs.Common.{slice_get, suc, refl, sym, ◌∙◌, ap, arith, inr}
use Rattle.std.proofs.lemmas.List.{length-take-le, take_at, drop_at, append_assoc, length-append, map-append}
use Rattle.std.proofs.lemmas.List.Edits.{length-remove}
use Rattle.std.proofs.lemmas.List.Elements.{All-append, All-drop, All-take}
use Rattle.std.specs.List.{remove}
use Rattle.map_model.specs.Document.{DocumentParts}
use Rattle.command_api.specs.Law.{Change}
use Rattle.command_api.specs.Names.{is_free}
use Rattle.undo_stack.specs.History.{Step, History, step_named, last_after}
use Rattle.undo_stack.specs.Pushing.{up_to}
use Rattle.undo_stack.specs.Calm.{is_gone, IsGone, NoneFree}
use Rattle.undo_stack.specs.Held.{Becomes, IsHeld, IsHeldButAt, IsDroppedAt, entry_nestings, history_at}
use Rattle.undo_stack.specs.Entries.{entry_change, depth}
use Rattle.undo_stack.specs.Nestings.{nesting}
use Rattle.undo_stack.specs.Sequence.{before, steps_down, steps_up, steps_of, FitsDown, FitsUp}
use Rattle.undo_stack.specs.Sound.{IsTurnable, IsAtMost, sequence_depth}
use Rattle.undo_stack.specs.Turning.{MayGo, Drops, without_step}
use Rattle.undo_stack.specs.declared.entry.Entry.{Entry}
use Rattle.undo_stack.specs.declared.sequence.Sequence.{Sequence}
use Rattle.undo_stack.proofs.Nestings.{map-remove, shaped}
use Rattle.undo_stack.proofs.Pushes.{greatest-append, at_most-up_to, sequence_depth-take, sequence_depth-drop}
use Rattle.undo_stack.proofs.Sequences.{take-remove, drop-remove, before-append, steps_down-append, FitsDown-pop, length-down, take_last, drop_first}
use Rattle.undo_stack.proofs.Sequences.{last_after-down}
use Rattle.undo_stack.proofs.Turnings.{false-true}
use Rattle.undo_stack.proofs.Calm.{Bound}
use Rattle.undo_stack.proofs.Held.{none_free, seen, sound}
use Rattle.undo_stack.proofs.Views.{history_with}

pub where_some : {X : Type 0} {P : Type 0} (o : Option X) → OnSome o P → IsSome o → P
where_some None h some = false-true some
where_some (Some x) h some = h

sequence_depth-remove : {C : Type 0} (es : List (Entry C)) (j : ℕ) → sequence_depth (remove es j) ≤ sequence_depth es
sequence_depth-remove es j =
    let first = sequence_depth-take j es in
    let last = sequence_depth-drop (suc j) es in
    rw (map-append depth (take j es) (drop (suc j) es), greatest-append (map depth (take j es)) (map depth (drop (suc j) es)))
    (omega (arith, first, last))

-- ---- a step s with some before it and some behind it
module _ (ss ts : List Step) (s : Step) (j : ℕ) (long : length ss ≡ j) where
  remove-between : remove (ss ++ s ∷ ts) j ≡ ss ++ ts
  remove-between =
      let next : suc j ≡ j + 1 = omega arith in
      let shorter : length (ss ++ s ∷ []) ≡ j + 1 = length-append ss (s ∷ []) ∙ ap (λ (n : ℕ). n + 1) long in
      let behind : drop (j + 1) (ss ++ s ∷ ts) ≡ ts = ap (drop (j + 1)) (sym (append_assoc ss (s ∷ []) ts)) ∙ drop_at (ss ++ s ∷ []) ts (j + 1) shorter in
      rw (take_at ss (s ∷ ts) j long, next, behind) refl

  take-between : take (j + 1) (ss ++ s ∷ ts) ≡ ss ++ s ∷ []
  take-between =
      let shorter : length (ss ++ s ∷ []) ≡ j + 1 = length-append ss (s ∷ []) ∙ ap (λ (n : ℕ). n + 1) long in
      ap (take (j + 1)) (sym (append_assoc ss (s ∷ []) ts)) ∙ take_at (ss ++ s ∷ []) ts (j + 1) shorter

get-between : (ss ts : List Step) (s : Step) (j : ℕ) → length ss ≡ j → slice_get (ss ++ s ∷ ts) j ≡ Some s
get-between [] ts s j long = rw (← long) refl
get-between (t ∷ ss) ts s j long = rw (← long) (get-between ss ts s (length ss) refl)

last_after-append : (b : DocumentParts) (ss : List Step) (s : Step) → last_after b (ss ++ s ∷ []) ≡ s.after
last_after-append b [] s = refl
last_after-append b (t ∷ ss) s = last_after-append t.after ss s

may_go : (h : History) (ss ts : List Step) (s : Step) (j : ℕ) (d : DocumentParts) → h.steps ≡ ss ++ s ∷ ts → length ss ≡ j → last_after h.base ss ≡ d
    → s.after ≡ d
    → is_free s.names.vanishing ≡ true → MayGo j h
may_go h ss ts s j d steps long here after free = record {
  free = rw (steps, get-between ss ts s j long) free;
  equal = rw (steps, take-between ss ts s j long, last_after-append h.base ss s, take_at ss (s ∷ ts) j long) (after ∙ sym here);
}

at_most-more : (clean : Option ℕ) (n m : ℕ) → n ≤ m → IsAtMost clean n → IsAtMost clean m
at_most-more None n m h a = tt
at_most-more (Some k) n m h a = omega (arith, h, a)

-- ---- a sequence of which the entry at the number j goes, all at the document d
module _ {C : Type 0} (f : C → Change) (q : Sequence C) (v : Entry C) (j : ℕ) (d : DocumentParts) (inside : j < length q.entries.items)
    (at : v ≡ get_or q.entries.items j v) (gone : IsGone (entry_change f v)) where
  abbrev k : Entry C → Change
  k = entry_change f

  abbrev es : List (Entry C)
  es = q.entries.items

  abbrev below : List Step
  below = steps_down k (take j es) d

  abbrev above : List Step
  above = steps_up k (drop (j + 1) es) d

  abbrev step : Step
  step = step_named (k v).names d

  -- the history with the step, at a position, and without it
  abbrev whole : ℕ → History
  whole n = record {
    base = before k (take j es) d;
    steps = below ++ step ∷ above;
    position = n;
    clean = q.clean;
    limit = q.limit;
    levels = [];
  }

  abbrev rest : History
  rest = history_with f d q (remove es j) j (up_to j q.clean)

  within : j ≤ length es
  within = omega (arith, inside)

  long : length below ≡ j
  long = length-down k (take j es) d ∙ length-take-le j es within

  left_view : (n : ℕ) (h : History) → h ≡ whole n → rest ≡ without_step j h
  left_view n h is =
      let put : List Step → History = λ ss. record (whole j) { steps = ss; clean = up_to j q.clean } in
      rw (take-remove es j within, drop-remove es j within)
      (sym (ap (without_step j) is ∙ ap put (remove-between below above step j long)))

  drops : (n : ℕ) (h : History) → h ≡ whole n → Drops j h h rest
  drops n h is =
      let here = ap (λ (x : History). last_after x.base below) is ∙ last_after-down k (take j es) d in
      inr (may_go h below above step j d (ap (λ (x : History). x.steps) is) long here refl gone.free, left_view n h is)

  left_sound : FitsDown k (take j es) d → FitsUp k (drop (j + 1) es) d → IsTurnable f d (remove es j) j (up_to j q.clean)
  left_sound down up =
      let more = length-remove es j inside in
      record {
        within = omega (arith, more, inside);
        clean_within = at_most-more (up_to j q.clean) j (length (remove es j)) (omega (arith, more, inside)) (at_most-up_to j q.clean);
        down = rw (take-remove es j within) down;
        up = rw (drop-remove es j within) up;
      }

  -- the entry was undone: it is the first one above
  module _ (up : FitsUp k (drop j es) d) where
    next_up : (k v).fits_redo d × FitsUp k (drop (j + 1) es) ((k v).redone d)
    next_up = rw (drop_first es v j inside at) at up

    same_up : (k v).redone d ≡ d
    same_up = gone.redone d next_up.0

    rest_up : FitsUp k (drop (j + 1) es) d
    rest_up = rw same_up at next_up.1

    whole_up : history_with f d q es j q.clean ≡ whole j
    whole_up = rw (drop_first es v j inside at, same_up) refl

  -- the entry was redone: it is the last one below
  module _ (down : FitsDown k (take (j + 1) es) d) where
    next_down : FitsDown k (take j es) ((k v).undone d) × (k v).fits_undo d
    next_down = FitsDown-pop k (take j es) v d (rw (take_last es v j inside at) at down)

    same_down : (k v).undone d ≡ d
    same_down = gone.undone d next_down.1

    rest_down : FitsDown k (take j es) d
    rest_down = rw same_down at next_down.0

    whole_down : history_with f d q es (j + 1) q.clean ≡ whole (j + 1)
    whole_down =
        let base : before k (take (j + 1) es) d ≡ before k (take j es) d =
        ap (λ r. before k r d) (take_last es v j inside at) ∙ before-append k (take j es) v d ∙ ap (before k (take j es)) same_down in
        let steps : steps_of k es (j + 1) d ≡ below ++ step ∷ above =
        ap (λ r. steps_down k r d ++ above) (take_last es v j inside at)
        ∙ ap (λ ss. ss ++ above) (steps_down-append k (take j es) v d ∙ ap (λ e. steps_down k (take j es) e ++ step ∷ []) same_down)
        ∙ append_assoc below (step ∷ []) above in
        rw (base, steps) refl

  -- ---- p is what is left of it
  module _ (p : Sequence C) (goes : true ≡ is_gone (entry_change f v)) (b : Becomes q (remove q.entries.items j) j (up_to j q.clean) p)
      (h : IsHeldButAt f d j q) where
    left_held : FitsDown k (take j es) d → FitsUp k (drop (j + 1) es) d → IsHeld f d p
    left_held down up =
        let fewer = length-remove es j inside in
        let next : suc j ≡ j + 1 = omega arith in
        let bound : NoneFree f es → NoneFree f (remove es j) = λ all.
        rw next (All-append (Bound f) (take j es) (drop (j + 1) es) (All-take (Bound f) j es all) (All-drop (Bound f) (j + 1) es all)) in
        let short : length (remove es j) ≤ length es = omega arith in
        record {
          sound = sound f q p (remove es j) j (up_to j q.clean) b d d (left_sound down up) short (sequence_depth-remove es j) h.sound;
          live = rw b.entries h.live;
          none_free = none_free f q p (remove es j) j (up_to j q.clean) b bound h.none_free;
        }

    seen_left : history_at f d p ≡ rest
    seen_left = seen f q p (remove es j) j (up_to j q.clean) b d

    same_below : take j p.entries.items ≡ take j es
    same_below = rw (b.entries, take-remove es j within) refl

    -- the history of q was whole, so its step may go
    dropped_at : (n : ℕ) → history_at f d q ≡ whole n → IsHeld f d p → (q.index ≡ j + 1 → drop p.index p.entries.items ≡ drop (j + 1) es)
        → IsDroppedAt f d j q p
    dropped_at n is held above = record {
      held = held;
      dropped = rw seen_left (drops n (history_at f d q) is);
      entry = v;
      was = at;
      left = rw (← goes)
          (shaped (history_at f d p) (without_step j (history_at f d q)) (entry_nestings p) (remove (entry_nestings q) j)
          (seen_left ∙ left_view n (history_at f d q) is) (ap (map nesting) b.entries ∙ map-remove nesting es j));
      below = same_below;
      above = above;
    }

    pub above_gone : q.index ≡ j → IsDroppedAt f d j q p
    above_gone index =
        let down : FitsDown k (take j es) d = rw index at h.sound.turnable.down in
        let up : FitsUp k (drop j es) d = rw index at h.sound.turnable.up in
        let is : history_at f d q ≡ whole j = ap (λ (n : ℕ). history_with f d q es n q.clean) index ∙ whole_up up in
        dropped_at j is (left_held down (rest_up up)) (λ next. absurd (omega (arith, index, next)))

    pub below_gone : q.index ≡ j + 1 → IsDroppedAt f d j q p
    below_gone index =
        let down : FitsDown k (take (j + 1) es) d = rw index at h.sound.turnable.down in
        let up : FitsUp k (drop (j + 1) es) d = rw index at h.sound.turnable.up in
        let is : history_at f d q ≡ whole (j + 1) = ap (λ (n : ℕ). history_with f d q es n q.clean) index ∙ whole_down down in
        dropped_at (j + 1) is (left_held (rest_down down) up) (λ _. rw (b.index, b.entries, drop-remove es j within) refl)
