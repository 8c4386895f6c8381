-- A newer change that is merged into a change, and into the last one of a sequence; and the last one of a sequence that goes.
use Rattle.std.proofs.Common.{◌≡◌, ℕ, ◌+◌, ◌-◌, ◌<◌, ◌≤◌, List, [], ◌∷◌, ◌++◌, Some, take, drop, length, map, set, get_or, refl, sym, ◌∙◌, ap, subst, arith}
use Rattle.std.proofs.Common.{Bool, true, false, Ok, Err}
use Rattle.std.specs.Prelude.{Result}
use Rattle.std.proofs.lemmas.List.{take_all, drop-set-lt}
use Rattle.std.proofs.lemmas.Grind.{take-set_at}
use Rattle.map_model.specs.Document.{DocumentParts}
use Rattle.command_api.specs.Law.{Change, IsSame, IsLawful}
use Rattle.command_api.specs.Names.{IsSettled}
use Rattle.undo_stack.specs.History.{Step, step_named, last_after}
use Rattle.undo_stack.specs.Pushing.{without_last, last_step, led_to, vanishing_of}
use Rattle.undo_stack.specs.Sequence.{before, steps_down, is_stale, FitsDown, FitsUp, IsMoved}
use Rattle.undo_stack.specs.Merging.{IsJoined, MergesChange, IsAltered, MergesSequence, SettlesSequence}
use Rattle.undo_stack.proofs.Sequences.{before-append, steps_down-append, FitsDown-pop, FitsDown-push, last_after-down, take_last}
use Rattle.undo_stack.proofs.Pushes.{settled-same, settled-back}
use Rattle.undo_stack.proofs.Levels.{without_last-append}

-- a change that stays what it is does the same
pub same_change : (v : Change) → IsSame v v
same_change v = record {
  names = refl;
  obsolete = refl;
  redone = λ d. refl;
  undone = λ d. refl;
  fits_redo = λ d. ((λ p. p), (λ p. p));
  fits_undo = λ d. ((λ p. p), (λ p. p));
}

-- the last of some steps
last_step-append : (ss : List Step) (s : Step) → last_step (ss ++ s ∷ []) ≡ Some s
last_step-append [] s = refl
last_step-append (t ∷ []) s = refl
last_step-append (t ∷ u ∷ ss) s = last_step-append (u ∷ ss) s

led_to-append : (d : DocumentParts) (ss : List Step) (s : Step) → led_to d (ss ++ s ∷ []) ≡ ss ++ record s { after = d } ∷ []
led_to-append d [] s = refl
led_to-append d (t ∷ []) s = refl
led_to-append d (t ∷ u ∷ ss) s = ap (λ xs. t ∷ xs) (led_to-append d (u ∷ ss) s)

pub length-led_to : (d : DocumentParts) (ss : List Step) → length (led_to d ss) ≡ length ss
length-led_to d [] = refl
length-led_to d (s ∷ []) = refl
length-led_to d (s ∷ t ∷ ss) = let h = length-led_to d (t ∷ ss) in omega arith

pub length-without_last : (ss : List Step) → length (without_last ss) ≡ length ss - 1
length-without_last [] = refl
length-without_last (s ∷ []) = refl
length-without_last (s ∷ t ∷ ss) = let h = length-without_last (t ∷ ss) in omega arith

pub vanishing_of-led_to : (d : DocumentParts) (ss : List Step) → vanishing_of (last_step (led_to d ss)) ≡ vanishing_of (last_step ss)
vanishing_of-led_to d [] = refl
vanishing_of-led_to d (s ∷ []) = refl
vanishing_of-led_to d (s ∷ t ∷ []) = refl
vanishing_of-led_to d (s ∷ t ∷ u ∷ ss) = vanishing_of-led_to d (t ∷ u ∷ ss)

pub without_last-led_to : (d : DocumentParts) (ss : List Step) → without_last (led_to d ss) ≡ without_last ss
without_last-led_to d [] = refl
without_last-led_to d (s ∷ []) = refl
without_last-led_to d (s ∷ t ∷ []) = refl
without_last-led_to d (s ∷ t ∷ u ∷ ss) = ap (λ xs. s ∷ xs) (without_last-led_to d (t ∷ u ∷ ss))

-- another change in the place of a sequence's last one
joined_sequence : {B : Type 0} (f : B → Change) (xs : List B) (v w : B) (c : Change) (d : DocumentParts) → FitsDown f (xs ++ v ∷ []) (c.undone d)
    → IsJoined (f v) (f w) c d → IsAltered f (led_to d) (xs ++ v ∷ []) (c.undone d) (xs ++ w ∷ []) d
joined_sequence f xs v w c d h j =
    let b = c.undone d in
    let old = FitsDown-pop f xs v b h in
    let led = led_to-append d (steps_down f xs ((f v).undone b)) (step_named (f v).names b) in
    record {
      down = FitsDown-push f xs w d (rw j.undone old.0) j.fits;
      base = rw (before-append f xs w d, before-append f xs v b, j.undone) refl;
      steps = rw (steps_down-append f xs w d, steps_down-append f xs v b, led, j.undone, j.names) refl;
    }

same_sequence : {B : Type 0} (f : B → Change) (xs : List B) (v w : B) (d : DocumentParts) → FitsDown f (xs ++ v ∷ []) d → IsSame (f v) (f w)
    → IsAltered f (λ ss. ss) (xs ++ v ∷ []) d (xs ++ w ∷ []) d
same_sequence f xs v w d h s =
    let old = FitsDown-pop f xs v d h in
    record {
      down = FitsDown-push f xs w d (rw (s.undone d) old.0) ((s.fits_undo d).0 old.1);
      base = rw (before-append f xs w d, before-append f xs v d, s.undone d) refl;
      steps = rw (steps_down-append f xs w d, steps_down-append f xs v d, s.undone d, s.names) refl;
    }

last_of : {B : Type 0} (f : B → Change) (xs : List B) (v : B) (d : DocumentParts) → last_step (steps_down f (xs ++ v ∷ []) d) ≡ Some (step_named (f v).names d)
last_of f xs v d = ap last_step (steps_down-append f xs v d) ∙ last_step-append (steps_down f xs ((f v).undone d)) (step_named (f v).names d)

merges_end : {E B : Type 0} (f : B → Change) (xs : List B) (v w : B) (c : Change) (d : DocumentParts) (r : Result Bool E)
    → FitsDown f (xs ++ v ∷ []) (c.undone d) → MergesChange (f v) c d r (f w) → MergesSequence f (xs ++ v ∷ []) c d r (xs ++ w ∷ [])
merges_end f xs v w c d (Ok true) h m = (rw (last_of f xs v (c.undone d)) m.0, joined_sequence f xs v w c d h m.1)
merges_end f xs v w c d (Ok false) h m = (rw (last_of f xs v (c.undone d)) m.0, same_sequence f xs v w (c.undone d) h m.1)
merges_end f xs v w c d (Err e) h m = same_sequence f xs v w (c.undone d) h m

-- the sequence below a number, by its last change
pub take_below : {B : Type 0} (xs : List B) (v : B) (n : ℕ) → 0 < n → n ≤ length xs → v ≡ get_or xs (n - 1) v → take n xs ≡ take (n - 1) xs ++ v ∷ []
take_below xs v n p q k =
    let same : n - 1 + 1 ≡ n = omega arith in
    let at : n - 1 < length xs = omega arith in
    subst (λ (m : ℕ). take m xs ≡ take (n - 1) xs ++ v ∷ []) same (take_last xs v (n - 1) at k)

pub take_below-set : {B : Type 0} (xs : List B) (w : B) (n : ℕ) → 0 < n → n ≤ length xs → take n (set xs (n - 1) w) ≡ take (n - 1) xs ++ w ∷ []
take_below-set xs w n p q = take-set_at xs (n - 1) n w (omega arith) (omega arith)

pub last_fits : {B : Type 0} (f : B → Change) (xs : List B) (v : B) (n : ℕ) (d : DocumentParts) → 0 < n → n ≤ length xs → v ≡ get_or xs (n - 1) v
    → FitsDown f (take n xs) d → (f v).fits_undo d
last_fits f xs v n d p q k h = (FitsDown-pop f (take (n - 1) xs) v d (rw (take_below xs v n p q k) at h)).1

pub merges_below : {E B : Type 0} (f : B → Change) (xs : List B) (v w : B) (n : ℕ) (c : Change) (d : DocumentParts) (r : Result Bool E) → 0 < n
    → n ≤ length xs → v ≡ get_or xs (n - 1) v → FitsDown f (take n xs) (c.undone d) → MergesChange (f v) c d r (f w)
    → MergesSequence f (take n xs) c d r (take n (set xs (n - 1) w))
merges_below f xs v w n c d r p q k h m =
    rw (take_below xs v n p q k, take_below-set xs w n p q) (merges_end f (take (n - 1) xs) v w c d r (rw (take_below xs v n p q k) at h) m)

-- the whole sequence by its last change
module _ {B : Type 0} (xs : List B) (n : ℕ) (some : 0 < n) (count : n ≡ length xs) where
  pub last_sequence : (v : B) → v ≡ get_or xs (n - 1) v → xs ≡ take (n - 1) xs ++ v ∷ []
  last_sequence v is =
      let all : length xs ≤ n = omega (arith, count) in
      sym (take_all n xs all) ∙ take_below xs v n some (omega (arith, count)) is

-- a sequence is as it is
pub altered_none : {B : Type 0} (f : B → Change) (xs : List B) (d : DocumentParts) → FitsDown f xs d → IsAltered f (λ ss. ss) xs d xs d
altered_none f xs d h = record { down = h; base = refl; steps = refl }

-- the last change of a sequence goes where it is obsolete
abbrev IsLastSettled : {B : Type 0} → (B → Change) → Bool → DocumentParts → List B → Type 0
IsLastSettled f b d xs =
    IsSettled (vanishing_of (last_step (steps_down f xs d))) b (last_after (before f xs d) (without_last (steps_down f xs d))) d

before_last : {B : Type 0} (f : B → Change) (xs : List B) (v : B) (d : DocumentParts)
    → last_after (before f (xs ++ v ∷ []) d) (without_last (steps_down f (xs ++ v ∷ []) d)) ≡ (f v).undone d
before_last f xs v d =
    let others = without_last-append (steps_down f xs ((f v).undone d)) (step_named (f v).names d) in
    rw (before-append f xs v d, steps_down-append f xs v d, others) (last_after-down f xs ((f v).undone d))

settled_last : {B : Type 0} (f : B → Change) (xs : List B) (v : B) (d : DocumentParts) (b : Bool) → FitsDown f (xs ++ v ∷ []) d → IsLawful (f v)
    → (f v).obsolete ≡ b → IsLastSettled f b d (xs ++ v ∷ [])
settled_last f xs v d b h law is =
    let one = law.undo d (FitsDown-pop f xs v d h).1 in
    rw (last_of f xs v d, before_last f xs v d) (settled-back (f v).names.vanishing b d ((f v).undone d) (rw is at one))

pub settles_stays : {B : Type 0} (f : B → Change) (xs : List B) (v : B) (n : ℕ) (d : DocumentParts) → 0 < n → n ≡ length xs → v ≡ get_or xs (n - 1) v
    → IsLawful (f v) → (f v).obsolete ≡ false → FitsDown f xs d → SettlesSequence f false xs d xs
settles_stays f xs v n d p q k law is h =
    let sequence = last_sequence xs n p q v k in
    let one = settled_last f (take (n - 1) xs) v d false (rw sequence at h) law is in
    record { gone_where = subst (IsLastSettled f false d) (sym sequence) one; sequence = altered_none f xs d h }

gone_sequence : {B : Type 0} (f : B → Change) (xs : List B) (v : B) (d : DocumentParts) → FitsDown f (xs ++ v ∷ []) d → (f v).undone d ≡ d
    → IsAltered f without_last (xs ++ v ∷ []) d xs d
gone_sequence f xs v d h same =
    let old = FitsDown-pop f xs v d h in
    record {
      down = rw same at old.0;
      base = rw (before-append f xs v d, same) refl;
      steps = rw (steps_down-append f xs v d, without_last-append (steps_down f xs ((f v).undone d)) (step_named (f v).names d), same) refl;
    }

settles_end : {B : Type 0} (f : B → Change) (xs : List B) (v : B) (d : DocumentParts) → IsLawful (f v) → (f v).obsolete ≡ true → FitsDown f (xs ++ v ∷ []) d
    → SettlesSequence f true (xs ++ v ∷ []) d xs
settles_end f xs v d law is h =
    let one = law.undo d (FitsDown-pop f xs v d h).1 in
    let same : (f v).undone d ≡ d = settled-same (f v).names.vanishing d ((f v).undone d) (rw is at one) in
    record {
      gone_where = settled_last f xs v d true h law is;
      sequence = gone_sequence f xs v d h same;
    }

pub settles_gone : {B : Type 0} (f : B → Change) (xs : List B) (v : B) (n : ℕ) (d : DocumentParts) → 0 < n → n ≡ length xs → v ≡ get_or xs (n - 1) v
    → IsLawful (f v) → (f v).obsolete ≡ true → FitsDown f xs d → SettlesSequence f true xs d (take (n - 1) xs)
settles_gone f xs v n d p q k law is h =
    let sequence = last_sequence xs n p q v k in
    let gone = settles_end f (take (n - 1) xs) v d law is (rw sequence at h) in
    subst (λ (ys : List _). SettlesSequence f true ys d (take (n - 1) xs)) (sym sequence) gone

-- a sequence of which those that are done were altered, but for their steps
pub altered_moved : {B : Type 0} (f : B → Change) (xs ys : List B) (n : ℕ) (d : DocumentParts) → IsAltered f (λ ss. ss) (take n xs) d (take n ys) d
    → drop n ys ≡ drop n xs → length ys ≡ length xs → FitsUp f (drop n xs) d → map (λ y. is_stale (f y)) ys ≡ map (λ x. is_stale (f x)) xs
    → IsMoved f xs n d ys n d
altered_moved f xs ys n d a past len up stale = record {
  same_length = len;
  down = a.down;
  up = rw past up;
  base = a.base;
  steps = rw (past, a.steps) refl;
  stale = stale;
}

pub drop_below-set : {B : Type 0} (xs : List B) (w : B) (n : ℕ) → 0 < n → drop n (set xs (n - 1) w) ≡ drop n xs
drop_below-set xs w n p = drop-set-lt n xs (n - 1) w (omega arith)
