-- A property that is put among those of an owner, in the place of the one with its name, or last.
use Rattle.std.proofs.Common.{◌≡◌, ℕ, suc, ◌+◌, ◌-◌, ◌≤◌, List, [], ◌∷◌, length, Bool, true, false, cond, find, Option, Some, None, refl, sym, ap, ◌∙◌}
use Rattle.std.proofs.Common.{arith}
use Rattle.std.proofs.lemmas.Iterator.Adapters.{position_from-zero}
use Rattle.std.proofs.lemmas.Slice.Eq.{bytes_eq-Decides}
use Rattle.std.specs.List.{insert, position, position_from, remove}
use Rattle.std.specs.Str.{bytes_eq}
use Rattle.map_model.specs.Lists.{change_at}
use Rattle.map_model.proofs.LensLaws.{some-eq}

-- the first element that passes the test is changed, or else a new one goes last
abbrev pub put_first : {X : Type 0} → (X → Bool) → (X → X) → X → List X → List X
put_first p f new [] = new ∷ []
put_first p f new (x ∷ xs) = cond (p x) (f x ∷ xs) (x ∷ put_first p f new xs)

-- what is found then
abbrev pub put_found : {X : Type 0} → (X → X) → X → Option X → Option X
put_found f new None = Some new
put_found f new (Some x) = Some (f x)

module _ {X : Type 0} (p : X → Bool) (f : X → X) (new : X) where
  -- ---- by the place of that element
  changed_from : (xs : List X) (i j : ℕ) → position_from p i xs ≡ Some j → (i ≤ j) × (change_at (j - i) f xs ≡ put_first p f new xs)
  changed_from [] i j e = cc
  changed_from (x ∷ xs) i j e = by_test (p x) e (changed_from xs (i + 1) j)
    where
      by_test : (b : Bool) → cond b (Some i) (position_from p (i + 1) xs) ≡ Some j
          → (position_from p (i + 1) xs ≡ Some j → (i + 1 ≤ j) × (change_at (j - (i + 1)) f xs ≡ put_first p f new xs))
          → (i ≤ j) × (change_at (j - i) f (x ∷ xs) ≡ cond b (f x ∷ xs) (x ∷ put_first p f new xs))
      by_test true q later =
          let same = some-eq i j q in
          let none : j - i ≡ 0 = omega (arith, same) in
          (omega (arith, same), ap (λ n. change_at n f (x ∷ xs)) none)
      by_test false q later =
          let rest = later q in
          let next : j - i ≡ suc (j - (i + 1)) = omega (arith, rest.0) in
          (omega (arith, rest.0), ap (λ n. change_at n f (x ∷ xs)) next ∙ ap (λ ys. x ∷ ys) rest.1)

  pub changed-first : (xs : List X) (at : ℕ) → position p xs ≡ Some at → change_at at f xs ≡ put_first p f new xs
  changed-first xs at e =
      let start : at ≡ at - 0 = omega arith in
      ap (λ n. change_at n f xs) start ∙ (changed_from xs 0 at (sym (position_from-zero p xs) ∙ e)).1

  added_from : (xs : List X) (i : ℕ) → position_from p i xs ≡ None → insert xs (length xs) new ≡ put_first p f new xs
  added_from [] i e = refl
  added_from (x ∷ xs) i e = by_test (p x) e (added_from xs (i + 1))
    where
      by_test : (b : Bool) → cond b (Some i) (position_from p (i + 1) xs) ≡ None
          → (position_from p (i + 1) xs ≡ None → insert xs (length xs) new ≡ put_first p f new xs)
          → x ∷ insert xs (length xs) new ≡ cond b (f x ∷ xs) (x ∷ put_first p f new xs)
      by_test true q later = cc
      by_test false q later = ap (λ ys. x ∷ ys) (later q)

  pub added-last : (xs : List X) → position p xs ≡ None → insert xs (length xs) new ≡ put_first p f new xs
  added-last xs e = added_from xs 0 (sym (position_from-zero p xs) ∙ e)

  -- ---- what is found
  pub found-put : p new ≡ true → ((x : X) → p x ≡ true → p (f x) ≡ true) → (xs : List X)
      → find p (put_first p f new xs) ≡ put_found f new (find p xs)
  found-put own keeps [] = rw own refl
  found-put own keeps (x ∷ xs) = by_test (p x) refl (found-put own keeps xs)
    where
      by_test : (b : Bool) → p x ≡ b → find p (put_first p f new xs) ≡ put_found f new (find p xs)
          → find p (cond b (f x ∷ xs) (x ∷ put_first p f new xs)) ≡ put_found f new (cond b (Some x) (find p xs))
      by_test true e later = rw (keeps x e) refl
      by_test false e later = rw e later

  -- and by another test, which neither the element nor what it becomes passes
  pub other-put : (q : X → Bool) → q new ≡ false → ((x : X) → p x ≡ true → (q x ≡ false) × (q (f x) ≡ false)) → (xs : List X)
      → find q (put_first p f new xs) ≡ find q xs
  other-put q none apart [] = rw none refl
  other-put q none apart (x ∷ xs) = by_test (p x) refl (other-put q none apart xs)
    where
      by_test : (b : Bool) → p x ≡ b → find q (put_first p f new xs) ≡ find q xs
          → find q (cond b (f x ∷ xs) (x ∷ put_first p f new xs)) ≡ cond (q x) (Some x) (find q xs)
      by_test true e later = rw ((apart x e).1, (apart x e).0) refl
      by_test false e later = ap (λ o. cond (q x) (Some x) o) later

-- ---- the first element that passes the test taken out
abbrev pub take_first : {X : Type 0} → (X → Bool) → List X → List X
take_first p [] = []
take_first p (x ∷ xs) = cond (p x) xs (x ∷ take_first p xs)

module _ {X : Type 0} (p : X → Bool) where
  removed_from : (xs : List X) (i j : ℕ) → position_from p i xs ≡ Some j → (i ≤ j) × (remove xs (j - i) ≡ take_first p xs)
  removed_from [] i j e = cc
  removed_from (x ∷ xs) i j e = by_test (p x) e (removed_from xs (i + 1) j)
    where
      by_test : (b : Bool) → cond b (Some i) (position_from p (i + 1) xs) ≡ Some j
          → (position_from p (i + 1) xs ≡ Some j → (i + 1 ≤ j) × (remove xs (j - (i + 1)) ≡ take_first p xs))
          → (i ≤ j) × (remove (x ∷ xs) (j - i) ≡ cond b xs (x ∷ take_first p xs))
      by_test true q later =
          let same = some-eq i j q in
          let none : j - i ≡ 0 = omega (arith, same) in
          (omega (arith, same), ap (remove (x ∷ xs)) none)
      by_test false q later =
          let rest = later q in
          let next : j - i ≡ suc (j - (i + 1)) = omega (arith, rest.0) in
          (omega (arith, rest.0), ap (remove (x ∷ xs)) next ∙ ap (λ ys. x ∷ ys) rest.1)

  pub taken-first : (xs : List X) (at : ℕ) → position p xs ≡ Some at → remove xs at ≡ take_first p xs
  taken-first xs at e =
      let start : at ≡ at - 0 = omega arith in
      ap (remove xs) start ∙ (removed_from xs 0 at (sym (position_from-zero p xs) ∙ e)).1

  pub other-taken : (q : X → Bool) → ((x : X) → p x ≡ true → q x ≡ false) → (xs : List X) → find q (take_first p xs) ≡ find q xs
  other-taken q apart [] = refl
  other-taken q apart (x ∷ xs) = by_test (p x) refl (other-taken q apart xs)
    where
      by_test : (b : Bool) → p x ≡ b → find q (take_first p xs) ≡ find q xs → find q (cond b xs (x ∷ take_first p xs)) ≡ cond (q x) (Some x) (find q xs)
      by_test true e later = rw (apart x e) refl
      by_test false e later = ap (λ o. cond (q x) (Some x) o) later

-- ---- texts
-- a text that is one is not the other
pub other-text : (text name other : List ℕ) → bytes_eq other name ≡ false → bytes_eq text name ≡ true → bytes_eq text other ≡ false
other-text text name other e h = by_test (bytes_eq text other) refl
  where
    by_test : (b : Bool) → bytes_eq text other ≡ b → bytes_eq text other ≡ false
    by_test true q =
        let first : text ≡ name = (bytes_eq-Decides text name).0 h in
        let second : text ≡ other = (bytes_eq-Decides text other).0 q in
        let same : bytes_eq other name ≡ true = (bytes_eq-Decides other name).1 (sym second ∙ first) in
        cc
    by_test false q = q

pub same_text : (a b : List ℕ) → bytes_eq a b ≡ true → a ≡ b
same_text a b e = (bytes_eq-Decides a b).0 e
