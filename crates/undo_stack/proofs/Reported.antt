-- What turns make of a history, as the commands that are turned report it.
use Rattle.std.proofs.Common.{◌≡◌, ℕ, ◌+◌, ◌-◌, ◌<◌, ◌≤◌, List, [], ◌∷◌, ◌++◌, Bool, true, false, ◌&&◌, take, drop, reverse, length, map, set, get_or, refl}
use Rattle.std.proofs.Common.{sym}
use Rattle.std.proofs.Common.{◌∙◌, ap, subst, arith, length-set, min, zero, suc}
use Rattle.std.proofs.lemmas.List.{drop_all, drop-append-le, get_or-set_same, length-drop, length-reverse, length-take, length-take-le, reverse-append}
use Rattle.std.proofs.lemmas.List.{take-set}
use Rattle.std.proofs.lemmas.List.Elements.{All-drop, All-head, All-push, All-tail, All-take}
use Rattle.map_model.specs.Document.{DocumentParts}
use Rattle.command_api.specs.Law.{Change, IsRedone, IsUndone}
use Rattle.command_api.specs.Names.{Names, is_free}
use Rattle.undo_stack.specs.Calm.{NoneFree, is_gone}
use Rattle.undo_stack.specs.Entries.{entry_change}
use Rattle.undo_stack.specs.Held.{IsDroppedAt, IsSetAt, RedoesNext, StepsDown, StepsUp, UndoesLast, entry_nestings, history_at, shape_at}
use Rattle.undo_stack.specs.Moving.{positioned}
use Rattle.undo_stack.specs.Nestings.{Shape, nesting, shape_positioned}
use Rattle.undo_stack.specs.Reporting.{AreRedone, AreTurned, AreUndone, GoesBy, IsRedoneIn, IsUndoneIn, left_by}
use Rattle.undo_stack.specs.declared.entry.Entry.{Entry}
use Rattle.undo_stack.specs.declared.sequence.Sequence.{Sequence}
use Rattle.undo_stack.proofs.Calm.{Bound, at_number}
use Rattle.undo_stack.proofs.Nestings.{shaped}
use Rattle.undo_stack.proofs.Sequences.{drop_first, drop_past, map-set_same, take_last}

-- as many as there are
take_most : {X : Type 0} (k : ℕ) (xs : List X) → take (min k (length xs)) xs ≡ take k xs
take_most zero xs = let none : min 0 (length xs) ≡ 0 = omega arith in ap (λ (m : ℕ). take m xs) none
take_most {X} (suc k) [] = let none : min (suc k) 0 ≡ 0 = omega arith in ap (λ (m : ℕ). take {A = X} m []) none
take_most {X} (suc k) (x ∷ xs) =
    let next : min (suc k) (suc (length xs)) ≡ suc (min k (length xs)) = omega arith in
    ap (λ (m : ℕ). take m (x ∷ xs)) next ∙ ap (λ (ys : List X). x ∷ ys) (take_most k xs)

-- ---- one turn
-- the history H is at the number where the step may go
left_by-positioned : (gone : Bool) (at : ℕ) (a : Shape) (i : ℕ)
    → left_by gone at (shape_positioned i a) (shape_positioned i a) ≡ left_by gone at a (shape_positioned i a)
left_by-positioned true at a i = refl
left_by-positioned false at a i = refl

position-left_by : (gone : Bool) (at : ℕ) (a next : Shape) → next.history.position ≡ at → (left_by gone at a next).history.position ≡ at
position-left_by true at a next e = refl
position-left_by false at a next e = e

module _ {C : Type 0} (f : C → Change) where
  goes_by : (IsTurned : Entry C → Type 0) (w : Entry C) (b : Bool) → IsTurned w → GoesBy f b IsTurned (b && (entry_change f w).obsolete)
  goes_by IsTurned w true t = (w, t, refl)
  goes_by IsTurned w false t = refl

  -- the turned entry has the names of the one before
  goes_as : (IsTurned : Entry C → Type 0) (v w : Entry C) → (entry_change f w).names ≡ (entry_change f v).names → IsTurned w
      → GoesBy f (is_free (entry_change f v).names.vanishing) IsTurned (is_gone (entry_change f w))
  goes_as IsTurned v w names t =
      let goes : Names → Type 0 = λ n. GoesBy f (is_free n.vanishing) IsTurned (is_gone (entry_change f w)) in
      subst goes names (goes_by IsTurned w (is_free (entry_change f w).names.vanishing) t)

  stays_by : (IsTurned : Entry C → Type 0) (b : Bool) → b ≡ false → GoesBy f b IsTurned false
  stays_by IsTurned true e = let bad : true ≡ false = e in let worse : ⊥ = cc in absurd worse
  stays_by IsTurned false e = refl

  -- where no entry is free, the one before the turn was not free either
  pub bound_before : (at : ℕ) (v w : Entry C) (q m : Sequence C) → IsSetAt at v w q m → at < length q.entries.items
      → (entry_change f w).names ≡ (entry_change f v).names → NoneFree f m.entries.items → is_free (entry_change f v).names.vanishing ≡ false
  bound_before at v w q m put inside names none =
      let ts = set q.entries.items at w in
      let long : at < length ts = rw (length-set q.entries.items at w) inside in
      let here : w ≡ get_or ts at w = sym (get_or-set_same q.entries.items at w w inside) in
      ap (λ (n : Names). is_free n.vanishing) (sym names) ∙ at_number f (Bound f) ts w at long here (rw put.entries at none)

  -- the nestings of a sequence in which an entry was put in the place of another one
  nestings_put : (at : ℕ) (v w : Entry C) (q m : Sequence C) → IsSetAt at v w q m → entry_nestings m ≡ entry_nestings q
  nestings_put at v w q m put = ap (map nesting) put.entries ∙ map-set_same nesting q.entries.items v w at put.was put.nests

  -- the shape of a sequence in which an entry was turned, by its history
  shape_put : (d e : DocumentParts) (at i : ℕ) (v w : Entry C) (q m : Sequence C) → IsSetAt at v w q m
      → history_at f e m ≡ positioned i (history_at f d q) → shape_at f e m ≡ shape_positioned i (shape_at f d q)
  shape_put d e at i v w q m put seen =
      shaped (history_at f e m) (positioned i (history_at f d q)) (entry_nestings m) (entry_nestings q) seen (nestings_put at v w q m put)

  -- the entry below the index was undone, and its step stays, since it is not free
  pub down_kept : (d e : DocumentParts) (q m : Sequence C) (u : UndoesLast f d q e m)
      → is_free (entry_change f u.before).names.vanishing ≡ false → m.index ≡ q.index - 1
      → history_at f e m ≡ positioned (q.index - 1) (history_at f d q) → StepsDown f d q e m
  down_kept d e q m u bound index seen = record {
    entry = u.before;
    was = u.put.was;
    document = u.undone.document;
    undone = record {
      gone = false;
      goes = stays_by _ (is_free (entry_change f u.before).names.vanishing) bound;
      left = shape_put d e (q.index - 1) (q.index - 1) u.before u.after q m u.put seen;
    };
    index = index;
    rest = rw u.put.entries (take-set q.entries.items (q.index - 1) u.after);
  }

  pub up_kept : (d e : DocumentParts) (q m : Sequence C) (u : RedoesNext f d q e m)
      → is_free (entry_change f u.before).names.vanishing ≡ false → m.index ≡ q.index + 1
      → history_at f e m ≡ positioned (q.index + 1) (history_at f d q) → StepsUp f d q e m
  up_kept d e q m u bound index seen = record {
    entry = u.before;
    was = u.put.was;
    document = u.redone.document;
    redone = record {
      gone = false;
      goes = stays_by _ (is_free (entry_change f u.before).names.vanishing) bound;
      left = shape_put d e q.index (q.index + 1) u.before u.after q m u.put seen;
    };
    rest = rw (index, u.put.entries) (drop_past q.entries.items u.after q.index);
  }

  -- the entry that was turned is the one that was looked at
  same_entry : (es ds : List (Entry C)) (at i : ℕ) (w x : Entry C) → ds ≡ set es at w → i ≡ at → at < length es → x ≡ get_or ds i x → x ≡ w
  same_entry es ds at i w x is here inside found =
      found
      ∙ ap (λ (zs : List (Entry C)). get_or zs i x) is
      ∙ ap (λ (k : ℕ). get_or (set es at w) k x) here
      ∙ get_or-set_same es at w x inside

  -- whether its step goes is what it reports
  left_looked : (e : DocumentParts) (m : Sequence C) (n h : Shape) (at i j : ℕ) (w x : Entry C)
      → n ≡ left_by (is_gone (entry_change f x)) i (shape_at f e m) (shape_at f e m) → x ≡ w → i ≡ at
      → shape_at f e m ≡ shape_positioned j h → n ≡ left_by (is_gone (entry_change f w)) at h (shape_positioned j h)
  left_looked e m n h at i j w x left looked here seen =
      let gone = is_gone (entry_change f w) in
      let k = shape_at f e m in
      left
      ∙ ap (λ (y : Entry C). left_by (is_gone (entry_change f y)) i k k) looked
      ∙ ap (λ (a : ℕ). left_by gone a k k) here
      ∙ ap (λ (y : Shape). left_by gone at y y) seen
      ∙ left_by-positioned gone at h j

  -- the entry below the index was undone, and then looked at
  pub down_looked : (d e : DocumentParts) (q m p : Sequence C) (u : UndoesLast f d q e m) → 0 < q.index → q.index ≤ length q.entries.items
      → m.index ≡ q.index - 1 → history_at f e m ≡ positioned (q.index - 1) (history_at f d q) → IsDroppedAt f e m.index m p
      → StepsDown f d q e p
  down_looked d e q m p u some within index seen r =
      let es = q.entries.items in
      let at = q.index - 1 in
      let h = shape_at f d q in
      let gone = is_gone (entry_change f u.after) in
      let put = shape_put d e at at u.before u.after q m u.put seen in
      let looked = same_entry es m.entries.items at m.index u.after r.entry u.put.entries index (omega (arith, some, within)) r.was in
      let left = left_looked e m (shape_at f e p) h at m.index at u.after r.entry r.left looked index put in
      let turned : DocumentParts → Type 0 = IsUndone (entry_change f u.before) (entry_change f u.after) d in
      record {
        entry = u.before;
        was = u.put.was;
        document = u.undone.document;
        undone = record {
          gone = gone;
          goes = goes_as _ u.before u.after u.undone.names (subst turned u.undone.document u.undone);
          left = left;
        };
        index = ap (λ (x : Shape). x.history.position) left ∙ position-left_by gone at h (shape_positioned at h) refl;
        rest =
            ap (λ (n : ℕ). take n p.entries.items) (sym index)
            ∙ r.below
            ∙ ap (λ (n : ℕ). take n m.entries.items) index
            ∙ ap (take at) u.put.entries
            ∙ take-set es at u.after;
      }

  -- the entry above the index was redone, and then looked at
  pub up_looked : (d e : DocumentParts) (q m p : Sequence C) (u : RedoesNext f d q e m) → q.index < length q.entries.items
      → m.index ≡ q.index + 1 → history_at f e m ≡ positioned (q.index + 1) (history_at f d q) → IsDroppedAt f e (m.index - 1) m p
      → StepsUp f d q e p
  up_looked d e q m p u inside index seen r =
      let es = q.entries.items in
      let at = q.index in
      let here : m.index - 1 ≡ at = omega (arith, index) in
      let next : m.index - 1 + 1 ≡ at + 1 = omega (arith, index) in
      let looked = same_entry es m.entries.items at (m.index - 1) u.after r.entry u.put.entries here inside r.was in
      let put = shape_put d e at (at + 1) u.before u.after q m u.put seen in
      let left = left_looked e m (shape_at f e p) (shape_at f d q) at (m.index - 1) (at + 1) u.after r.entry r.left looked here put in
      let turned : DocumentParts → Type 0 = IsRedone (entry_change f u.before) (entry_change f u.after) d in
      let above : drop p.index p.entries.items ≡ drop (m.index - 1 + 1) m.entries.items = r.above (omega (arith, index)) in
      record {
        entry = u.before;
        was = u.put.was;
        document = u.redone.document;
        redone = record {
          gone = is_gone (entry_change f u.after);
          goes = goes_as _ u.before u.after u.redone.names (subst turned u.redone.document u.redone);
          left = left;
        };
        rest = above ∙ ap (λ (n : ℕ). drop n m.entries.items) next ∙ ap (drop (at + 1)) u.put.entries ∙ drop_past es u.after at;
      }

  -- ---- turns of one entry after another
  -- the entries from the number a up to n + 1, last first
  undone_first : (es : List (Entry C)) (v : Entry C) (a n : ℕ) → a ≤ n → n < length es → v ≡ get_or es n v
      → reverse (drop a (take (n + 1) es)) ≡ v ∷ reverse (drop a (take n es))
  undone_first es v a n within inside at =
      let long = length-take-le n es (omega (arith, inside)) in
      let cut : drop a (take (n + 1) es) ≡ drop a (take n es) ++ v ∷ [] =
      ap (drop a) (take_last es v n inside at) ∙ drop-append-le a (take n es) (v ∷ []) (omega (arith, within, long)) in
      ap reverse cut ∙ reverse-append (drop a (take n es)) (v ∷ [])

  -- none is turned
  pub none_undone : (es : List (Entry C)) (a n : ℕ) (d : DocumentParts) (h : Shape) → n ≤ a → AreUndone f (reverse (drop a (take n es))) d h h
  none_undone es a n d h past =
      let long = length-take n es in
      let none : drop a (take n es) ≡ [] = drop_all a (take n es) (omega (arith, past, long)) in
      rw none refl

  -- one more is undone
  pub undone_more : (d e : DocumentParts) (q p : Sequence C) (a : ℕ) (n : Shape) → a < q.index → q.index ≤ length q.entries.items
      → StepsDown f d q e p → AreUndone f (reverse (drop a (take p.index p.entries.items))) e (shape_at f e p) n
      → AreUndone f (reverse (drop a (take q.index q.entries.items))) d (shape_at f d q) n
  undone_more d e q p a n below within s rest =
      let es = q.entries.items in
      let at = q.index - 1 in
      let h = shape_at f d q in
      let m = shape_at f e p in
      let top : at + 1 ≡ q.index = omega (arith, below) in
      let first = undone_first es s.entry a at (omega (arith, below)) (omega (arith, below, within)) s.was in
      let same : take p.index p.entries.items ≡ take at es = ap (λ (k : ℕ). take k p.entries.items) s.index ∙ s.rest in
      let left = subst (λ (xs : List (Entry C)). AreUndone f (reverse (drop a xs)) e m n) same rest in
      let onto = subst (λ (x : DocumentParts). AreUndone f (reverse (drop a (take at es))) x m n) s.document left in
      let all : AreUndone f (s.entry ∷ reverse (drop a (take at es))) d h n = (m, s.undone, onto) in
      subst (λ (k : ℕ). AreUndone f (reverse (drop a (take k es))) d h n) top
      (subst (λ (xs : List (Entry C)). AreUndone f xs d h n) (sym first) all)

  -- one more is redone
  pub redone_more : (d e : DocumentParts) (q p : Sequence C) (k : ℕ) (n : Shape) → 0 < k → q.index < length q.entries.items
      → StepsUp f d q e p → AreRedone f (take (k - 1) (drop p.index p.entries.items)) e (shape_at f e p) n
      → AreRedone f (take k (drop q.index q.entries.items)) d (shape_at f d q) n
  redone_more d e q p k n some inside s rest =
      let es = q.entries.items in
      let h = shape_at f d q in
      let m = shape_at f e p in
      let above = drop (q.index + 1) es in
      let next : suc (k - 1) ≡ k = omega (arith, some) in
      let first = drop_first es s.entry q.index inside s.was in
      let left = subst (λ (xs : List (Entry C)). AreRedone f (take (k - 1) xs) e m n) s.rest rest in
      let onto = subst (λ (x : DocumentParts). AreRedone f (take (k - 1) above) x m n) s.document left in
      let all : AreRedone f (take (suc (k - 1)) (s.entry ∷ above)) d h n = (m, s.redone, onto) in
      subst (λ (j : ℕ). AreRedone f (take j (drop q.index es)) d h n) next
      (subst (λ (xs : List (Entry C)). AreRedone f (take (suc (k - 1)) xs) d h n) (sym first) all)

  -- ---- entries of which none is free: no step goes
  NoneFree-reverse : (es : List (Entry C)) → NoneFree f es → NoneFree f (reverse es)
  NoneFree-reverse [] none = none
  NoneFree-reverse (v ∷ vs) none =
      let last : reverse (v ∷ vs) ≡ reverse vs ++ v ∷ [] = reverse-append (v ∷ []) vs in
      rw last (All-push (Bound f) (reverse vs) v (NoneFree-reverse vs (All-tail (Bound f) v vs none)) (All-head (Bound f) v vs none))

  bound_undone : (vs : List (Entry C)) → NoneFree f vs → (d : DocumentParts) (h : Shape)
      → AreUndone f vs d h (shape_positioned (h.history.position - length vs) h)
  bound_undone [] none d h = let at : h.history.position - 0 ≡ h.history.position = omega arith in ap (λ (i : ℕ). shape_positioned i h) at
  bound_undone (v ∷ vs) none d h =
      let m = shape_positioned (h.history.position - 1) h in
      let e = (entry_change f v).undone d in
      let at : h.history.position - 1 - length vs ≡ h.history.position - suc (length vs) = omega arith in
      let bound = All-head (Bound f) v vs none in
      let one : IsUndoneIn f v d h m = record {
        gone = false;
        goes = stays_by _ (is_free (entry_change f v).names.vanishing) bound;
        left = refl;
      } in
      let rest = bound_undone vs (All-tail (Bound f) v vs none) e m in
      (m, one, subst (λ (i : ℕ). AreUndone f vs e m (shape_positioned i h)) at rest)

  bound_redone : (vs : List (Entry C)) → NoneFree f vs → (d : DocumentParts) (h : Shape)
      → AreRedone f vs d h (shape_positioned (h.history.position + length vs) h)
  bound_redone [] none d h = let at : h.history.position + 0 ≡ h.history.position = omega arith in ap (λ (i : ℕ). shape_positioned i h) at
  bound_redone (v ∷ vs) none d h =
      let m = shape_positioned (h.history.position + 1) h in
      let e = (entry_change f v).redone d in
      let at : h.history.position + 1 + length vs ≡ h.history.position + suc (length vs) = omega arith in
      let bound = All-head (Bound f) v vs none in
      let one : IsRedoneIn f v d h m = record {
        gone = false;
        goes = stays_by _ (is_free (entry_change f v).names.vanishing) bound;
        left = refl;
      } in
      let rest = bound_redone vs (All-tail (Bound f) v vs none) e m in
      (m, one, subst (λ (i : ℕ). AreRedone f vs e m (shape_positioned i h)) at rest)

  -- turns to the number i where no entry is free
  pub bound_turned : (es : List (Entry C)) (i : ℕ) (d : DocumentParts) (h n : Shape) → NoneFree f es → h.history.position ≤ length es
      → n ≡ shape_positioned (min i (length es)) h → AreTurned f es i d h n
  bound_turned es i d h n none within is =
      let done = take h.history.position es in
      let undone = drop h.history.position es in
      let below = reverse (drop i done) in
      let above = take (i - h.history.position) undone in
      let back = length-reverse (drop i done) in
      let cut = length-drop i done in
      let long = length-take-le h.history.position es within in
      let on = length-take (i - h.history.position) undone in
      let left = length-drop h.history.position es in
      let between = shape_positioned (h.history.position - length below) h in
      let at : h.history.position - length below + length above ≡ min i (length es) = omega (arith, back, cut, long, on, left, within) in
      let none_below = NoneFree-reverse (drop i done) (All-drop (Bound f) i done (All-take (Bound f) h.history.position es none)) in
      let none_above = All-take (Bound f) (i - h.history.position) undone (All-drop (Bound f) h.history.position es none) in
      let turned = subst (λ (k : ℕ). AreRedone f above d between (shape_positioned k h)) at (bound_redone above none_above d between) in
      record { between = between; back = bound_undone below none_below d h; on = rw is turned }

  -- ---- turns to a number, back or on
  module _ (d : DocumentParts) (q : Sequence C) where
    abbrev h : Shape
    h = shape_at f d q

    abbrev es : List (Entry C)
    es = q.entries.items

    -- nothing is redone on the way back
    on_none : (i : ℕ) (n : Shape) → i ≤ q.index → AreRedone f (take (i - q.index) (drop q.index es)) d n n
    on_none i n below =
        let none : 0 ≡ i - q.index = omega (arith, below) in
        subst (λ (k : ℕ). AreRedone f (take k (drop q.index es)) d n n) none refl

    pub turned_down : (i : ℕ) (n : Shape) → i ≤ q.index → AreUndone f (reverse (drop (q.index - (q.index - i)) (take q.index es))) d h n
        → AreTurned f es i d h n
    turned_down i n below back =
        let floor : q.index - (q.index - i) ≡ i = omega (arith, below) in
        record {
          between = n;
          back = subst (λ (a : ℕ). AreUndone f (reverse (drop a (take q.index es))) d h n) floor back;
          on = on_none i n below;
        }

    pub turned_up : (i k : ℕ) (n : Shape) → q.index ≤ i → k ≡ min i (length es) - q.index
        → AreRedone f (take k (drop q.index es)) d h n → AreTurned f es i d h n
    turned_up i k n above is on =
        let left = drop q.index es in
        let long = length-drop q.index es in
        let most : k ≡ min (i - q.index) (length left) = omega (arith, is, long, above) in
        let same = ap (λ (m : ℕ). take m left) most ∙ take_most (i - q.index) left in
        record {
          between = h;
          back = none_undone es i q.index d h above;
          on = subst (λ (xs : List (Entry C)). AreRedone f xs d h n) same on;
        }

    -- one step back, and one step on
    pub turned_once_down : (e : DocumentParts) (p : Sequence C) → 0 < q.index → q.index ≤ length es → StepsDown f d q e p
        → AreTurned f es (q.index - 1) d h (shape_at f e p)
    turned_once_down e p some within s =
        let n = shape_at f e p in
        let top : p.index ≤ q.index - 1 = omega (arith, s.index) in
        let none = none_undone p.entries.items (q.index - 1) p.index e n top in
        record {
          between = n;
          back = undone_more d e q p (q.index - 1) n (omega (arith, some)) within s none;
          on = on_none (q.index - 1) n (omega arith);
        }

    pub turned_once_up : (e : DocumentParts) (p : Sequence C) → q.index < length es → StepsUp f d q e p
        → AreTurned f es (q.index + 1) d h (shape_at f e p)
    turned_once_up e p inside s =
        let n = shape_at f e p in
        let one : 1 ≡ q.index + 1 - q.index = omega arith in
        let redone = redone_more d e q p 1 n (omega arith) inside s refl in
        record {
          between = h;
          back = none_undone es (q.index + 1) q.index d h (omega arith);
          on = subst (λ (k : ℕ). AreRedone f (take k (drop q.index es)) d h n) one redone;
        }
