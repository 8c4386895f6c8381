-- Sequences that stay held: cut, merged into, settled, and pushed onto.
use Rattle.std.proofs.Common.{◌≡◌, ℕ, ◌+◌, ◌-◌, ◌<◌, ◌≤◌, List, [], ◌∷◌, ◌++◌, Option, Some, Bool, take, drop, length, set, get_or, refl, sym, ◌∙◌, ap}
use Rattle.std.proofs.Common.{subst, arith, length-set, get_or-set_same, map, Ok, Err, inl, true, false, nat_eq, eq-eqb}
use Rattle.std.specs.Prelude.{Result, IsErr, ◌↔◌}
use Rattle.std.specs.Option.{option_eq}
use Rattle.std.proofs.lemmas.List.{length-append, length-drop, length-take-le, take_all}
use Rattle.std.proofs.lemmas.List.Elements.{All-nil, All-drop, All-push, All-set, All-take}
use Rattle.map_model.specs.Document.{DocumentParts}
use Rattle.command_api.specs.Law.{Change, IsSame, IsLawful, IsRedone}
use Rattle.command_api.specs.Names.{Names, is_free}
use Rattle.undo_stack.specs.History.{step_named, History, current}
use Rattle.undo_stack.specs.Pushing.{cut, limited_to, lowered, up_to, with_added, Merges, Vanishes, step_of, IsPushed, next_of}
use Rattle.undo_stack.specs.Sequence.{FitsDown, IsMoved, is_stale}
use Rattle.undo_stack.specs.Calm.{is_gone, IsLive, NoneFree}
use Rattle.undo_stack.specs.Moving.{positioned}
use Rattle.undo_stack.specs.Entries.{entry_change, depth, greatest}
use Rattle.undo_stack.specs.Held.{Becomes, IsCut, history_at, nestings_at, shape_at, target_in, IsSoundAt, IsHeld, IsHeldToLast, IsHeldButAt, IsSetAt}
use Rattle.undo_stack.specs.Held.{IsUnchangedAt, IsTakenInto}
use Rattle.undo_stack.specs.Held.{MergesInto, MergesNestings, entry_nestings, IsSettledAt, IsDroppedAt}
use Rattle.undo_stack.specs.Merging.{MergesChange, MergesSequence, HasTarget, left_of}
use Rattle.undo_stack.specs.Nestings.{Nestings, nesting, nestings_cut, nestings_next_of}
use Rattle.undo_stack.specs.Reporting.{TakesIn, EndsIn, last_entry, left_by, reports}
use Rattle.undo_stack.specs.Sound.{IsAtMost, IsTurnable, sequence_depth}
use Rattle.undo_stack.specs.Told.{says_gone, says_merged, IsToldAt}
use Rattle.undo_stack.specs.declared.entry.Entry.{Entry}
use Rattle.undo_stack.specs.declared.limits.TheConstants.{MAX_DEPTH, MAX_LIMIT}
use Rattle.undo_stack.specs.declared.pushed.Pushed.{Pushed}
use Rattle.undo_stack.specs.declared.sequence.Sequence.{Sequence}
use Rattle.undo_stack.proofs.Calm.{Bound, Live, live_as, bound_as, bound_moved, at_number, live_again, live_around, live_gone, live_either, live_moved}
use Rattle.undo_stack.proofs.Calm.{live_stays}
use Rattle.undo_stack.proofs.Joins.{take_below-set, merges_below, altered_moved, drop_below-set, settles_gone, settles_stays}
use Rattle.undo_stack.proofs.Levels.{without_last-append}
use Rattle.undo_stack.proofs.Nestings.{nestings-without_last}
use Rattle.undo_stack.proofs.Pushes.{pushed_as, redone_step, done_sound, at_most-up_to, at_most-more, at_most-lowered, cut_view, cut_sound, added_view}
use Rattle.undo_stack.proofs.Pushes.{added_fits, limited_view, sequence_depth-append, sequence_depth-drop, sequence_depth-take}
use Rattle.undo_stack.proofs.Reports.{takes_in, last_entry-below, last_entry-append}
use Rattle.undo_stack.proofs.Sequences.{FitsDown-drop, length-steps, map-set_same}
use Rattle.undo_stack.proofs.Targets.{merged_view, merges_closed, continues_closed, settles_done, up_to-unclean, at_most-unclean}
use Rattle.undo_stack.proofs.Turns.{stale_as}
use Rattle.undo_stack.proofs.Views.{current-history_in, history_with, moved_view, moved_sound}

-- a position that is not the clean one
pub other_number : (a : Option ℕ) (i : ℕ) → false ≡ option_eq nat_eq a (Some i) → a ≡ Some i → ⊥
other_number a i e h =
    let at : false ≡ option_eq nat_eq (Some i) (Some i) = rw h at e in
    let yes = eq-eqb i i refl in
    cc

module _ {C : Type 0} (f : C → Change) where
  -- ---- a sequence that became another one
  module _ (q p : Sequence C) (es : List (Entry C)) (n : ℕ) (mark : Option ℕ) (b : Becomes q es n mark p) where
    pub seen : (d : DocumentParts) → history_at f d p ≡ history_with f d q es n mark
    seen d = rw (b.entries, b.index, b.clean, b.limit) refl

    pub sound : (d e : DocumentParts) → IsTurnable f e es n mark → length es ≤ length q.entries.items
        → sequence_depth es ≤ sequence_depth q.entries.items → IsSoundAt f d q → IsSoundAt f e p
    sound d e turnable short flat h = record {
      turnable = rw (b.entries, b.index, b.clean) turnable;
      limit = rw b.limit h.limit;
      count = rw (b.entries, b.limit) (λ some. let most = h.count some in omega arith);
      depth = rw b.entries (let most = h.depth in omega arith);
    }

    pub none_free : (NoneFree f q.entries.items → NoneFree f es) → (q.has_free ≡ false → NoneFree f q.entries.items) → p.has_free ≡ false
        → NoneFree f p.entries.items
    none_free keeps h none = rw b.entries (keeps (h (sym b.has_free ∙ none)))

  -- ---- a sequence with no entries, and one that is the same but for its room
  pub empty_held : (d : DocumentParts) (q : Sequence C) → q.entries.items ≡ [] → q.index ≡ 0 → IsAtMost q.clean 0 → q.limit ≤ MAX_LIMIT
      → IsHeld f d q
  empty_held d q none index most limit = record {
    sound = record {
      turnable = record {
        within = rw index (omega arith);
        clean_within = rw none most;
        down = rw (none, index) tt;
        up = rw (none, index) tt;
      };
      limit = limit;
      count = rw none (λ some. omega arith);
      depth = rw none (omega arith);
    };
    live = rw none (All-nil (Live f));
    none_free = λ _. rw none (All-nil (Bound f));
  }

  -- so it is with another clean index and another limit
  pub marked_held : (d : DocumentParts) (q p : Sequence C) → p.entries ≡ q.entries → p.index ≡ q.index → p.has_free ≡ q.has_free
      → IsAtMost p.clean (length q.entries.items) → p.limit ≤ MAX_LIMIT → (0 < p.limit → length q.entries.items ≤ p.limit)
      → IsHeld f d q → IsHeld f d p
  marked_held d q p entries index has_free most limit count h =
      let t = h.sound.turnable in
      record {
        sound = record {
          turnable = record {
            within = rw (entries, index) t.within;
            clean_within = rw entries most;
            down = rw (entries, index) t.down;
            up = rw (entries, index) t.up;
          };
          limit = limit;
          count = rw entries count;
          depth = rw entries h.sound.depth;
        };
        live = rw entries h.live;
        none_free = λ none. rw entries (h.none_free (sym has_free ∙ none));
      }

  module _ (q p : Sequence C) (k : Becomes q q.entries.items q.index q.clean p) (d : DocumentParts) where
    pub alike_held : IsHeld f d q → IsHeld f d p
    alike_held h = record {
      sound = sound q p q.entries.items q.index q.clean k d d h.sound.turnable (omega arith) (omega arith) h.sound;
      live = rw k.entries h.live;
      none_free = none_free q p q.entries.items q.index q.clean k (λ all. all) h.none_free;
    }

    pub alike_seen : history_at f d p ≡ history_at f d q
    alike_seen = seen q p q.entries.items q.index q.clean k d

  -- ---- the entries above the index go
  module _ (q p : Sequence C) (k : IsCut q p) where
    pub cut_seen : (d : DocumentParts) → q.index ≤ length q.entries.items → history_at f d p ≡ cut (history_at f d q)
    cut_seen d within = seen q p (take q.index q.entries.items) q.index (up_to q.index q.clean) k d ∙ sym (cut_view f d q within)

    pub cut_held : (d : DocumentParts) → IsHeld f d q → IsHeld f d p
    cut_held d h =
        let es = q.entries.items in
        let n = q.index in
        let within = h.sound.turnable.within in
        let long = length-take-le n es within in
        let flat = sequence_depth-take n es in
        record {
          sound = sound q p (take n es) n (up_to n q.clean) k d d (cut_sound f d q h.sound.turnable) (omega arith) flat h.sound;
          live = rw k.entries (All-take (Live f) n es h.live);
          none_free = none_free q p (take n es) n (up_to n q.clean) k (All-take (Bound f) n es) h.none_free;
        }

  -- ---- the entry v below the index, in whose place w is now
  module _ (q : Sequence C) (v w : Entry C) (some : 0 < q.index) (within : q.index ≤ length q.entries.items)
      (is : v ≡ get_or q.entries.items (q.index - 1) v) (deep : depth w ≡ depth v) where
    abbrev pub changed : List (Entry C)
    changed = set q.entries.items (q.index - 1) w

    inside : q.index - 1 < length q.entries.items
    inside = omega arith

    len : length (set q.entries.items (q.index - 1) w) ≡ length q.entries.items
    len = length-set q.entries.items (q.index - 1) w

    flat : sequence_depth (set q.entries.items (q.index - 1) w) ≡ sequence_depth q.entries.items
    flat = ap greatest (map-set_same depth q.entries.items v w (q.index - 1) is deep)

    changed_bound : (entry_change f w).names ≡ (entry_change f v).names → NoneFree f q.entries.items → NoneFree f changed
    changed_bound names all =
        let bound = at_number f (Bound f) q.entries.items v (q.index - 1) inside is all in
        All-set (Bound f) q.entries.items (q.index - 1) w (bound_as (entry_change f v) (entry_change f w) names bound) all

    merges_changed : {E : Type 0} (c : C) (d : DocumentParts) (r : Result Bool E) → FitsDown (entry_change f) (take q.index q.entries.items) ((f c).undone d)
        → MergesChange (entry_change f v) (f c) d r (entry_change f w)
        → MergesSequence (entry_change f) (take q.index q.entries.items) (f c) d r (take q.index changed)
    merges_changed c d r down m = merges_below (entry_change f) q.entries.items v w q.index (f c) d r some within is down m

    pub unchanged : (c : C) (d : DocumentParts) (p : Sequence C) → Becomes q changed q.index q.clean p
        → IsSame (entry_change f v) (entry_change f w) → IsHeld f ((f c).undone d) q → IsUnchangedAt f ((f c).undone d) q p
    unchanged c d p k same h =
        let es = q.entries.items in
        let n = q.index in
        let b = (f c).undone d in
        let t = h.sound.turnable in
        let altered = merges_changed {E = Unit {0}} c d (Err tt) t.down same in
        let stale = map-set_same (λ x. is_stale (entry_change f x)) es v w (n - 1) is
        (stale_as (entry_change f v) (entry_change f w) same.names (λ _. same.obsolete)) in
        let m = altered_moved (entry_change f) es changed n b altered (drop_below-set es w n some) len t.up stale in
        let live = live_as (entry_change f v) (entry_change f w) same (at_number f (Live f) es v (n - 1) inside is h.live) in
        record {
          held = record {
            sound = sound q p changed n q.clean k b b (moved_sound f b b q changed n t within m) (omega (arith, len)) (omega (arith, flat)) h.sound;
            live = rw k.entries (All-set (Live f) es (n - 1) w live h.live);
            none_free = none_free q p changed n q.clean k (changed_bound same.names) h.none_free;
          };
          same = seen q p changed n q.clean k b ∙ moved_view f b b q changed n m;
          depth = rw k.entries (omega (arith, flat));
        }

    pub refused : (c : C) (d : DocumentParts) (p : Sequence C) → Becomes q changed q.index q.clean p
        → MergesChange {E = Unit {0}} (entry_change f v) (f c) d (Ok false) (entry_change f w) → IsHeld f ((f c).undone d) q
        → (Merges (cut (history_at f ((f c).undone d) q)) (step_named (f c).names d) → ⊥) × IsUnchangedAt f ((f c).undone d) q p
    refused c d p k m h =
        let none = merges_changed {E = Unit {0}} c d (Ok false) h.sound.turnable.down m in (
          (λ j. none.0 (continues_closed f ((f c).undone d) q within (step_named (f c).names d) j)),
          unchanged c d p k m.1 h,
        )

    pub taken : (c : C) (d : DocumentParts) (p : Sequence C) → Becomes q (take q.index changed) q.index (up_to q.index q.clean) p
        → (q.clean ≡ Some q.index → ⊥) → MergesChange {E = Unit {0}} (entry_change f v) (f c) d (Ok true) (entry_change f w)
        → IsHeld f ((f c).undone d) q → IsTakenInto f c d q p
    taken c d p k other m h =
        let es = q.entries.items in
        let n = q.index in
        let b = (f c).undone d in
        let ys = take n changed in
        let mark = up_to n q.clean in
        let both = merges_changed {E = Unit {0}} c d (Ok true) h.sound.turnable.down m in
        let long : length ys ≡ n = length-take-le n changed (omega (arith, len)) in
        let less = sequence_depth-take n changed in
        let last = take_below-set es w n some within in
        let done = done_sound f d ys n mark long both.1.down (at_most-up_to n q.clean) in
        record {
          merges = merges_closed f b q within (step_named (f c).names d) both.0 other;
          held = record {
            sound = sound q p ys n mark k b d done (omega arith) (omega (arith, flat)) h.sound;
            live = rw (k.entries, last, without_last-append (take (n - 1) es) w) (All-take (Live f) (n - 1) es h.live);
            none_free = none_free q p ys n mark k (λ all. All-take (Bound f) n changed (changed_bound m.1.names all)) h.none_free;
          };
          target = rw (k.entries, k.index, k.clean) (some, sym (length-steps (entry_change f) ys n d ∙ long), up_to-unclean n q.clean other);
          next = seen q p ys n mark k d ∙ merged_view f b q within d ys long both.1;
          depth = rw k.entries (omega (arith, flat));
        }

    -- what the target took in
    pub took_in : {E : Type 0} (c : C) (d : DocumentParts) (p : Sequence C) (r : Result Bool E)
        → Becomes q (take q.index changed) q.index (up_to q.index q.clean) p → MergesChange (entry_change f v) (f c) d r (entry_change f w)
        → TakesIn f c d (target_in q) r (target_in p)
    took_in c d p r k m =
        let n = q.index in
        let es = q.entries.items in
        let long : length (take n changed) ≡ n = length-take-le n changed (omega (arith, len)) in
        let all : take n (take n changed) ≡ take (n - 1) es ++ w ∷ [] =
        take_all n (take n changed) (omega arith) ∙ take_below-set es w n some within in
        let last = ap last_entry all ∙ last_entry-append (take (n - 1) es) w in
        takes_in f c d v w (target_in q) (target_in p) r (last_entry-below es v n some is within) (λ _. rw (k.index, k.entries) last) m

  -- a merge that found no memory
  pub merged_err : {E : Type 0} (c : C) (d : DocumentParts) (q p : Sequence C) (r : Result Bool E) → IsErr r
      → IsUnchangedAt f ((f c).undone d) q p → MergesInto f c d q r p
  merged_err c d q p (Ok b) e k = absurd (let bad : false ≡ true = e in let worse : ⊥ = cc in worse)
  merged_err c d q p (Err x) e k = k

  pub merged_err_nestings : {E : Type 0} (q p : Sequence C) (r : Result Bool E) → IsErr r → entry_nestings p ≡ entry_nestings q → MergesNestings q r p
  merged_err_nestings q p (Ok b) e k = absurd (let bad : false ≡ true = e in let worse : ⊥ = cc in worse)
  merged_err_nestings q p (Err x) e k = k

  -- ---- the target v, which goes or stays
  module _ (q : Sequence C) (v : Entry C) (some : 0 < q.index) (end : q.index ≡ length q.entries.items)
      (is : v ≡ get_or q.entries.items (q.index - 1) v) (law : IsLawful (entry_change f v)) where
    fits : (d : DocumentParts) → IsHeldToLast f d q → FitsDown (entry_change f) q.entries.items d
    fits d h =
        let most : length q.entries.items ≤ q.index = omega arith in
        rw (take_all q.index q.entries.items most) at h.sound.turnable.down

    pub reports-target_in : reports f (target_in q) ≡ (entry_change f v).obsolete
    reports-target_in = ap (reports f) (last_entry-below q.entries.items v q.index some is (omega arith))

    -- its nesting goes with it
    pub nestings_go : (entry_change f v).obsolete ≡ true
        → map nesting (take (q.index - 1) q.entries.items) ≡ left_of (reports f (target_in q)) (entry_nestings q)
    nestings_go gone = rw (reports-target_in, gone) (nestings-without_last q.entries.items v q.index some end is)

    pub nestings_stay : (entry_change f v).obsolete ≡ false → entry_nestings q ≡ left_of (reports f (target_in q)) (entry_nestings q)
    nestings_stay kept = rw (reports-target_in, kept) refl

    pub stays : (d : DocumentParts) → (entry_change f v).obsolete ≡ false → IsHeldToLast f d q → IsSettledAt f d q q
    stays d kept h =
        let s = settles_stays (entry_change f) q.entries.items v q.index d some end is law kept (fits d h) in
        record {
          held = record { sound = h.sound; live = live_stays f q.entries.items v q.index some end is kept h.live; none_free = h.none_free };
          settled = rw (reports-target_in, kept) (settles_done f false d q q.entries.items q.index (sym end) (sym end) s);
          depth = omega arith;
        }

    pub goes : (d : DocumentParts) (p : Sequence C) → Becomes q (take (q.index - 1) q.entries.items) (q.index - 1) q.clean p
        → (entry_change f v).obsolete ≡ true → IsHeldToLast f d q → HasTarget [] (history_at f d q) → IsSettledAt f d q p
    goes d p k gone h has =
        let es = q.entries.items in
        let j = q.index - 1 in
        let long : length (take j es) ≡ j = length-take-le j es (omega arith) in
        let flat = sequence_depth-take j es in
        let s = settles_gone (entry_change f) es v q.index d some end is law gone (fits d h) in
        let most = at_most-unclean q.index j q.clean (rw end h.sound.turnable.clean_within) has.2 (omega arith) in
        let done = done_sound f d (take j es) j q.clean long s.sequence.down most in
        record {
          held = record {
            sound = sound q p (take j es) j q.clean k d d done (omega arith) flat h.sound;
            live = rw k.entries (live_gone f es v q.index some end is h.live);
            none_free = none_free q p (take j es) j q.clean k (All-take (Bound f) j es) h.none_free;
          };
          settled = rw (reports-target_in, gone, seen q p (take j es) j q.clean k d) (settles_done f true d q (take j es) j (sym end) long s);
          depth = rw k.entries flat;
        }

  -- ---- an entry x above the others, which are all done
  module _ (q p : Sequence C) (x : Entry C) (end : q.index ≡ length q.entries.items) (limit : p.limit ≡ q.limit) where
    abbrev all : List (Entry C)
    all = q.entries.items ++ x ∷ []

    -- of which the first k go, and m stay
    abbrev Adds : ℕ → ℕ → Option ℕ → Type 0
    Adds k m mark = (p.entries.items ≡ drop k (q.entries.items ++ x ∷ [])) × (p.index ≡ m) × (p.clean ≡ mark)

    -- the entry may be kept
    abbrev MayBeKept : Type 0
    MayBeKept =
        (depth x ≤ MAX_DEPTH) ×
        IsLive (entry_change f x) ×
        (p.has_free ≡ false → (q.has_free ≡ false) × (is_free (entry_change f x).names.vanishing ≡ false))

    long : length (q.entries.items ++ x ∷ []) ≡ q.index + 1
    long = omega (arith, length-append q.entries.items (x ∷ []))

    kept : (k m : ℕ) (mark : Option ℕ) → m ≡ q.index + 1 - k → Adds k m mark → IsAtMost mark m → (0 < q.limit → m ≤ q.limit) → MayBeKept
        → (d : DocumentParts) → (entry_change f x).fits_undo d → IsHeld f ((entry_change f x).undone d) q → IsHeld f d p
    kept k m mark is a most few may d fit h =
        let es = q.entries.items in
        let left : length (drop k all) ≡ m = omega (arith, length-drop k all, long) in
        let fits = added_fits f d q x (sym end) h.sound.turnable fit in
        let flat = sequence_depth-append es x in
        let deep : sequence_depth (drop k all) ≤ MAX_DEPTH = omega (arith, sequence_depth-drop k all, flat, h.sound.depth, may.0) in
        record {
          sound = record {
            turnable = rw (a.0, a.1, a.2) (done_sound f d (drop k all) m mark left (FitsDown-drop (entry_change f) k all d fits) most);
            limit = rw limit h.sound.limit;
            count = rw (a.0, limit, left) few;
            depth = rw a.0 deep;
          };
          live = rw a.0 (All-drop (Live f) k all (All-push (Live f) es x h.live may.1));
          none_free = λ none. rw a.0 (All-drop (Bound f) k all (All-push (Bound f) es x (h.none_free (may.2 none).0) (may.2 none).1));
        }

    -- with a limit those go that are more
    abbrev MostAdded : Type 0
    MostAdded = let k = q.index + 1 - q.limit in Adds k (q.index + 1 - k) (lowered k q.clean)

    pub most_kept : 0 < q.limit → MostAdded → MayBeKept → (d : DocumentParts) → (entry_change f x).fits_undo d
        → IsHeld f ((entry_change f x).undone d) q → IsHeld f d p
    most_kept some a may d fit h =
        let k = q.index + 1 - q.limit in
        let most = at_most-lowered k q.clean (q.index + 1) (at_most-more q.clean q.index (rw end h.sound.turnable.clean_within)) in
        kept k (q.index + 1 - k) (lowered k q.clean) refl a most (λ _. omega arith) may d fit h

    pub most_added : 0 < q.limit → MostAdded → (d : DocumentParts)
        → history_at f d p ≡ with_added (step_named (entry_change f x).names d) [] (history_at f ((entry_change f x).undone d) q)
    most_added some a d =
        let whole = limited_view f d q all (q.index + 1) q.clean long some in
        rw (a.0, a.1, a.2, limit) (whole ∙ ap (limited_to q.limit) (added_view f d q x (sym end)))

    -- and with none all stay
    pub all_kept : q.limit ≡ 0 → Adds 0 (q.index + 1) q.clean → MayBeKept → (d : DocumentParts) → (entry_change f x).fits_undo d
        → IsHeld f ((entry_change f x).undone d) q → IsHeld f d p
    all_kept none a may d fit h =
        let most = at_most-more q.clean q.index (rw end h.sound.turnable.clean_within) in
        kept 0 (q.index + 1) q.clean (omega arith) a most (λ some. absurd (omega arith)) may d fit h

    pub all_added : q.limit ≡ 0 → Adds 0 (q.index + 1) q.clean → (d : DocumentParts)
        → history_at f d p ≡ with_added (step_named (entry_change f x).names d) [] (history_at f ((entry_change f x).undone d) q)
    all_added none a d = rw (a.0, a.1, a.2, limit) (added_view f d q x (sym end) ∙ rw none refl)

  -- ---- the entry v at a number was turned, and is w
  module _ (q p : Sequence C) (v w : Entry C) (j m : ℕ) (inside : j < length q.entries.items) (is : v ≡ get_or q.entries.items j v)
      (k : Becomes q (set q.entries.items j w) m q.clean p) (within : m ≤ length q.entries.items) (d e : DocumentParts)
      (moved : IsMoved (entry_change f) q.entries.items q.index d (set q.entries.items j w) m e) (deep : depth w ≡ depth v)
      (names : (entry_change f w).names ≡ (entry_change f v).names)
      (same : is_free (entry_change f v).names.vanishing ≡ false → (entry_change f w).obsolete ≡ (entry_change f v).obsolete) where
    -- the entry is as obsolete as it was, where it is not free
    turned_stays : IsHeld f d q → (x : Entry C) → x ≡ get_or p.entries.items j x → is_free (entry_change f x).names.vanishing ≡ false
        → IsLive (entry_change f x)
    turned_stays h x at bound =
        let put : x ≡ w = at ∙ rw k.entries (get_or-set_same q.entries.items j w x inside) in
        let was : is_free (entry_change f v).names.vanishing ≡ false =
        ap (λ (n : Names). is_free n.vanishing) (sym names) ∙ ap (λ (y : Entry C). is_free (entry_change f y).names.vanishing) (sym put) ∙ bound in
        ap (λ (y : Entry C). (entry_change f y).obsolete) put ∙ same was ∙ at_number f (Live f) q.entries.items v j inside is h.live

    pub turned_held : IsHeld f d q → IsHeldButAt f e j p
    turned_held h =
        let es = q.entries.items in
        let ts = set es j w in
        let flat : sequence_depth ts ≡ sequence_depth es = ap greatest (map-set_same depth es v w j is deep) in
        let long = moved.same_length in
        let turnable = moved_sound f d e q ts m h.sound.turnable within moved in
        let bound : NoneFree f es → NoneFree f ts = λ all.
        All-set (Bound f) es j w (bound_as (entry_change f v) (entry_change f w) names (at_number f (Bound f) es v j inside is all)) all in
        record {
          sound = sound q p ts m q.clean k d e turnable (omega arith) (omega arith) h.sound;
          live = rw k.entries (live_around f es w j h.live);
          none_free = none_free q p ts m q.clean k bound h.none_free;
          stays = turned_stays h;
        }

  pub moved_held : (q p : Sequence C) (d e : DocumentParts) (n : ℕ) → q.has_free ≡ false
      → history_at f e p ≡ positioned n (history_at f d q) → IsHeld f d q → IsSoundAt f e p
      → map (λ x. is_stale (entry_change f x)) p.entries.items ≡ map (λ x. is_stale (entry_change f x)) q.entries.items → IsHeld f e p
  moved_held q p d e n bound moved h s stale =
      let steps = ap (λ (x : History). x.steps) moved in
      let all = bound_moved f q.entries.items p.entries.items q.index p.index d e steps (h.none_free bound) in
      record { sound = s; live = live_moved f q.entries.items p.entries.items h.live stale all; none_free = λ none. all }

  -- the entry at a number was turned, and no entry is free
  pub held_bound : (d : DocumentParts) (at : ℕ) (v w : Entry C) (q p : Sequence C) → IsSetAt at v w q p → at < length q.entries.items
      → p.has_free ≡ false → IsHeldButAt f d at p → IsHeld f d p
  held_bound d at v w q p put within none h =
      let es = p.entries.items in
      let inside : at < length es = omega (arith, length-set q.entries.items at w, ap length put.entries) in
      let is : w ≡ get_or es at w = rw put.entries (sym (get_or-set_same q.entries.items at w w within)) in
      let bound = at_number f (Bound f) es w at inside is (h.none_free none) in
      record { sound = h.sound; live = live_again f es w at inside is (h.stays w is bound) h.live; none_free = h.none_free }

  -- the entry at a number stays, where it is live
  pub kept_at : (d : DocumentParts) (at : ℕ) (q : Sequence C) (v : Entry C) → at < length q.entries.items → v ≡ get_or q.entries.items at v
      → false ≡ is_gone (entry_change f v) → (is_free (entry_change f v).names.vanishing ≡ true → IsLive (entry_change f v)) → IsHeldButAt f d at q
      → IsDroppedAt f d at q q
  kept_at d at q v inside is stays live h = record {
    held = record {
      sound = h.sound;
      live = live_again f q.entries.items v at inside is (live_either (entry_change f v) (h.stays v is) live) h.live;
      none_free = h.none_free;
    };
    dropped = inl refl;
    entry = v;
    was = is;
    left = ap (λ (b : Bool). left_by b at (shape_at f d q) (shape_at f d q)) stays;
    below = refl;
    above = λ index. ap (λ (n : ℕ). drop n q.entries.items) index;
  }

  -- ---- a push onto q at d, of the command x, which is y once it was redone, and led to e
  module _ (x y : C) (q : Sequence C) (d e : DocumentParts) (n : History) (r : IsRedone (f x) (f y) d e) (within : q.index ≤ length q.entries.items) where
    -- the step of x on q is that of y, and q at the document before y is q at d
    same_step : step_of (f x) (current (history_at f d q)) ≡ step_named (f y).names e
    same_step = redone_step (f x) (f y) d e (current (history_at f d q)) r (current-history_in [] f d q within)

    same_base : history_at f ((f y).undone e) q ≡ history_at f d q
    same_base = ap (λ (b : DocumentParts). history_at f b q) r.back

    pub pushed_at : IsPushed (history_at f ((f y).undone e) q) (step_named (f y).names e) n
        → IsPushed (history_at f d q) (step_of (f x) (current (history_at f d q))) n
    pushed_at p =
        let onto = subst (λ (h : History). IsPushed h (step_named (f y).names e) n) same_base p in
        pushed_as (history_at f d q) (step_named (f y).names e) (step_of (f x) (current (history_at f d q))) n onto same_step

    -- what is reported of it, and the answer p
    pub told_at : (p : Pushed) (merged : Bool) (entry : Option (Entry C)) → says_merged p ≡ merged → says_gone p ≡ reports f entry
        → (merged ≡ true ↔ Merges (cut (history_at f ((f y).undone e) q)) (step_named (f y).names e)) → EndsIn merged f y e (target_in q) entry
        → Vanishes merged (reports f entry) (cut (history_at f ((f y).undone e) q)) (step_named (f y).names e)
        → n ≡ next_of merged (reports f entry) (step_named (f y).names e) (cut (history_at f ((f y).undone e) q))
        → (os : Nestings) → os ≡ nestings_next_of merged (reports f entry) q.limit (nestings_cut q.index (nestings_at q))
        → IsToldAt f x d (target_in q) (shape_at f d q) e (record { history = n; nestings = os }) p
    told_at p merged entry says_m says_g where_merged ends where_gone next os nests = record {
      report = record {
        command = y;
        redone = r;
        merged = merged;
        merged_where = rw same_step (subst (λ (k : History). merged ≡ true ↔ Merges (cut k) (step_named (f y).names e)) same_base where_merged);
        entry = entry;
        ends = ends;
        gone_where = rw same_step (subst (λ (k : History). Vanishes merged (reports f entry) (cut k) (step_named (f y).names e)) same_base where_gone);
        next = rw same_step (subst (λ (k : History). n ≡ next_of merged (reports f entry) (step_named (f y).names e) (cut k)) same_base next);
        nests = nests;
      };
      merged = says_m;
      gone = says_g;
    }
