-- Sequences of changes of which one is turned.
use Rattle.std.proofs.Common.{◌≡◌, ℕ, ◌+◌, ◌-◌, ◌<◌, ◌≤◌, List, [], Bool, true, false, not, ◌&&◌, take, drop, length, set, get_or, refl, sym, ◌∙◌, ap, subst}
use Rattle.std.proofs.Common.{arith, append_assoc, length-set}
use Rattle.std.proofs.lemmas.List.{take-set, drop-set, take_more_set}
use Rattle.map_model.specs.Document.{DocumentParts}
use Rattle.command_api.specs.Law.{Change, IsRedone, IsUndone}
use Rattle.command_api.specs.Names.{Names, is_free}
use Rattle.undo_stack.specs.Sequence.{FitsDown, FitsUp, IsMoved, Between, after, is_stale, sequence_change}
use Rattle.undo_stack.proofs.Sequences.{before-append, steps_down-append, FitsDown-pop, FitsDown-push, map-set_same, take_last, drop_first, drop_past}

-- the change below the number fits, and so does the one at it
pub fits_last : {B : Type 0} (f : B → Change) (xs : List B) (v : B) (j : ℕ) (d : DocumentParts) → FitsDown f (take (j + 1) xs) d → j < length xs
    → v ≡ get_or xs j v → (f v).fits_undo d
fits_last f xs v j d p h k = (FitsDown-pop f (take j xs) v d (rw (take_last xs v j h k) at p)).1

pub fits_next : {B : Type 0} (f : B → Change) (xs : List B) (v : B) (j : ℕ) (d : DocumentParts) → FitsUp f (drop j xs) d → j < length xs → v ≡ get_or xs j v
    → (f v).fits_redo d
fits_next f xs v j d p h k = (rw (drop_first xs v j h k) at p).0

-- a turn leaves a change as stale as it was
pub stale_as : (v w : Change) → w.names ≡ v.names → (is_free v.names.vanishing ≡ false → w.obsolete ≡ v.obsolete) → is_stale w ≡ is_stale v
stale_as v w names same = ap (λ (n : Names). not (is_free n.vanishing) && w.obsolete) names ∙ by_free (is_free v.names.vanishing) same
  where
    by_free : (b : Bool) → (b ≡ false → w.obsolete ≡ v.obsolete) → (not b && w.obsolete) ≡ (not b && v.obsolete)
    by_free true told = refl
    by_free false told = told refl

-- the change below the number is undone
pub moved_back : {B : Type 0} (f : B → Change) (xs : List B) (v w : B) (j : ℕ) (d e : DocumentParts) → FitsDown f (take (j + 1) xs) d
    → FitsUp f (drop (j + 1) xs) d → j < length xs → v ≡ get_or xs j v → IsUndone (f v) (f w) d e → IsMoved f xs (j + 1) d (set xs j w) j e
moved_back f xs v w j d e p q h k t =
    let took = take_last xs v j h k in
    let down = FitsDown-pop f (take j xs) v d (rw took at p) in
    record {
      stale = map-set_same (λ x. is_stale (f x)) xs v w j k (stale_as (f v) (f w) t.names t.obsolete);
      same_length = length-set xs j w;
      down = rw (take-set xs j w, t.document) down.0;
      up = rw (drop-set xs j w h) (t.fits, rw t.back q);
      base = rw (take-set xs j w, t.document, took) (sym (before-append f (take j xs) v d));
      steps = rw (take-set xs j w, drop-set xs j w h, took, steps_down-append f (take j xs) v d, t.names, t.back, t.document, append_assoc) refl;
    }

-- the change at the number is redone
pub moved_on : {B : Type 0} (f : B → Change) (xs : List B) (v w : B) (j : ℕ) (d e : DocumentParts) → FitsDown f (take j xs) d → FitsUp f (drop j xs) d
    → j < length xs → v ≡ get_or xs j v → IsRedone (f v) (f w) d e → IsMoved f xs j d (set xs j w) (j + 1) e
moved_on f xs v w j d e p q h k t =
    let first = drop_first xs v j h k in
    let up = rw first at q in
    record {
      stale = map-set_same (λ x. is_stale (f x)) xs v w j k (stale_as (f v) (f w) t.names t.obsolete);
      same_length = length-set xs j w;
      down = rw (take_more_set xs j w h) (FitsDown-push f (take j xs) w e (rw t.back p) t.fits);
      up = rw (drop_past xs w j, t.document) up.1;
      base = rw (take_more_set xs j w h, before-append f (take j xs) w e, t.back) refl;
      steps = rw (take_more_set xs j w h, drop_past xs w j, first, steps_down-append f (take j xs) w e, t.names, t.back, t.document, append_assoc) refl;
    }

-- the change below the number is undone, and the one at it is redone, in a sequence between two documents
pub between_back : {B : Type 0} (f : B → Change) (xs : List B) (v w : B) (j : ℕ) (d e first last : DocumentParts) → Between f xs (j + 1) d first last
    → j < length xs → v ≡ get_or xs j v → IsUndone (f v) (f w) d e → Between f (set xs j w) j e first last
between_back f xs v w j d e first last b h k t =
    let took = take_last xs v j h k in
    let down = FitsDown-pop f (take j xs) v d (rw took at b.down) in
    let one = before-append f (take j xs) v d in
    record {
      down = rw (take-set xs j w, t.document) down.0;
      up = rw (drop-set xs j w h) (t.fits, rw t.back b.up);
      starts = rw (take-set xs j w, t.document) (sym one ∙ rw took at b.starts);
      ends = rw (drop-set xs j w h) (ap (after f (drop (j + 1) xs)) t.back ∙ b.ends);
    }

pub between_on : {B : Type 0} (f : B → Change) (xs : List B) (v w : B) (j : ℕ) (d e first last : DocumentParts) → Between f xs j d first last
    → j < length xs → v ≡ get_or xs j v → IsRedone (f v) (f w) d e → Between f (set xs j w) (j + 1) e first last
between_on f xs v w j d e first last b h k t =
    let first_is = drop_first xs v j h k in
    let up = rw first_is at b.up in
    record {
      down = rw (take_more_set xs j w h) (FitsDown-push f (take j xs) w e (rw t.back b.down) t.fits);
      up = rw (drop_past xs w j, t.document) up.1;
      starts = rw (take_more_set xs j w h, before-append f (take j xs) w e, t.back) b.starts;
      ends = rw (drop_past xs w j, t.document) (rw first_is at b.ends);
    }

-- the change below the number fits
pub between_last : {B : Type 0} (f : B → Change) (xs : List B) (v : B) (j : ℕ) (d first last : DocumentParts) → Between f xs (j + 1) d first last
    → j < length xs → v ≡ get_or xs j v → (f v).fits_undo d
between_last f xs v j d first last b h k = fits_last f xs v j d b.down h k

-- the texts of a sequence say nothing of how it is turned
pub redone_named : {B : Type 0} (f : B → Change) (t a : List ℕ) (xs ys : List B) (d e : DocumentParts)
    → IsRedone (sequence_change [] [] f xs) (sequence_change [] [] f ys) d e → IsRedone (sequence_change t a f xs) (sequence_change t a f ys) d e
redone_named f t a xs ys d e r = record { document = r.document; fits = r.fits; back = r.back; names = refl; obsolete = λ bound. refl }

pub undone_named : {B : Type 0} (f : B → Change) (t a : List ℕ) (xs ys : List B) (d e : DocumentParts)
    → IsUndone (sequence_change [] [] f xs) (sequence_change [] [] f ys) d e → IsUndone (sequence_change t a f xs) (sequence_change t a f ys) d e
undone_named f t a xs ys d e r = record { document = r.document; fits = r.fits; back = r.back; names = refl; obsolete = λ bound. refl }

-- the change right below a number fits, and undoing it leads to the number before
pub fits_below : {B : Type 0} (f : B → Change) (xs : List B) (v : B) (i : ℕ) (d : DocumentParts) → 0 < i → i ≤ length xs → v ≡ get_or xs (i - 1) v
    → FitsDown f (take i xs) d → (f v).fits_undo d
fits_below f xs v i d p q k =
    let same : i - 1 + 1 ≡ i = omega arith in
    let inside : i - 1 < length xs = omega arith in
    subst (λ (n : ℕ). FitsDown f (take n xs) d → (f v).fits_undo d) same (λ h. fits_last f xs v (i - 1) d h inside k)

pub moved_below : {B : Type 0} (f : B → Change) (xs : List B) (v w : B) (i : ℕ) (d e : DocumentParts) → 0 < i → i ≤ length xs → v ≡ get_or xs (i - 1) v
    → FitsDown f (take i xs) d → FitsUp f (drop i xs) d → IsUndone (f v) (f w) d e → IsMoved f xs i d (set xs (i - 1) w) (i - 1) e
moved_below f xs v w i d e p q k down up t =
    let same : i - 1 + 1 ≡ i = omega arith in
    let inside : i - 1 < length xs = omega arith in
    let moves : ℕ → Type 0 = λ n. FitsDown f (take n xs) d → FitsUp f (drop n xs) d → IsMoved f xs n d (set xs (i - 1) w) (i - 1) e in
    let all = subst moves same (λ a b. moved_back f xs v w (i - 1) d e a b inside k t) in
    all down up

-- nothing is turned
pub moved_none : {B : Type 0} (f : B → Change) (xs : List B) (i : ℕ) (d : DocumentParts) → FitsDown f (take i xs) d → FitsUp f (drop i xs) d
    → IsMoved f xs i d xs i d
moved_none f xs i d down up = record { same_length = refl; down = down; up = up; base = refl; steps = refl; stale = refl }

-- one turn after another
pub moved_more : {B : Type 0} (f : B → Change) (xs ys zs : List B) (i j k : ℕ) (c d e : DocumentParts) → IsMoved f xs i c ys j d → IsMoved f ys j d zs k e
    → IsMoved f xs i c zs k e
moved_more f xs ys zs i j k c d e m n = record {
  same_length = n.same_length ∙ m.same_length;
  down = n.down;
  up = n.up;
  base = n.base ∙ m.base;
  steps = n.steps ∙ m.steps;
  stale = n.stale ∙ m.stale;
}
