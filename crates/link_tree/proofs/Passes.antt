-- Items that pass a test before an item, at it and behind it.
use Rattle.std.proofs.Common.{◌≡◌, inl, inr, ℕ, zero, suc, ◌+◌, ◌-◌, ◌<◌, ◌≤◌, Bool, true, false, MatchBool, List, [], ◌∷◌, ◌++◌, length, take}
use Rattle.std.proofs.Common.{slice_get, length-append, refl, sym, ap, ◌∙◌, subst, arith}
use Rattle.std.specs.Borrow.{Bor}
use Rattle.std.specs.Fn.{Shared}
use Rattle.link_tree.specs.Passing.{Answers, SomePasses, NonePasses, IsFirst, CountsToFirst}
use Rattle.link_tree.proofs.Edits.{get-before, get-at, get-past, get-bound}

module _ {X : Type 0} where
  take-left : (xs ys : List X) (k : ℕ) → k ≤ length xs → take k (xs ++ ys) ≡ take k xs
  take-left xs ys zero h = refl
  take-left [] ys (suc k) h = absurd (omega arith)
  take-left (x ∷ xs) ys (suc k) h = ap (λ zs. x ∷ zs) (take-left xs ys k (omega arith))

  take-all : (xs : List X) → take (length xs) xs ≡ xs
  take-all [] = refl
  take-all (x ∷ xs) = ap (λ zs. x ∷ zs) (take-all xs)

  take-whole : (xs ys : List X) → take (length xs) (xs ++ ys) ≡ xs
  take-whole [] ys = refl
  take-whole (x ∷ xs) ys = ap (λ zs. x ∷ zs) (take-whole xs ys)

  take-past : (xs ys : List X) (x : X) (k : ℕ) → take (length xs + 1 + k) (xs ++ x ∷ ys) ≡ xs ++ x ∷ take k ys
  take-past [] ys x k = let e : 0 + 1 + k ≡ suc k = omega arith in rw e refl
  take-past (z ∷ xs) ys x k = let e : suc (length xs) + 1 + k ≡ suc (length xs + 1 + k) = omega arith in rw e (ap (λ zs. z ∷ zs) (take-past xs ys x k))

module _ {F T : Type 0} (g : Shared F (Bor T × Unit {0}) Bool) (f : F) where
  some-left : (xs ys : List T) → SomePasses g f xs → SomePasses g f (xs ++ ys)
  some-left [] ys some = absurd some
  some-left (x ∷ xs) ys (inl here) = inl here
  some-left (x ∷ xs) ys (inr there) = inr (some-left xs ys there)

  some-right : (xs ys : List T) → SomePasses g f ys → SomePasses g f (xs ++ ys)
  some-right [] ys some = some
  some-right (x ∷ xs) ys some = inr (some-right xs ys some)

  none-around : (xs ys : List T) (x : T) → NonePasses g f xs → Answers g f false x → NonePasses g f ys → NonePasses g f (xs ++ x ∷ ys)
  none-around [] ys x before at behind = (at, behind)
  none-around (z ∷ xs) ys x before at behind = (before.0, none-around xs ys x before.1 at behind)

  pub some-before : (b : Bool) (xs ys : List T) → MatchBool b (SomePasses g f xs) (NonePasses g f xs) → b ≡ true → SomePasses g f (xs ++ ys)
  some-before true xs ys some is = some-left xs ys some
  some-before false xs ys some is = cc

  pub some-at : (b : Bool) (xs ys : List T) (x : T) → Answers g f b x → b ≡ true → SomePasses g f (xs ++ x ∷ ys)
  some-at b xs ys x passes is = some-right xs (x ∷ ys) (inl (subst (λ c. Answers g f c x) is passes))

  pub some-behind : (b c d : Bool) (xs ys : List T) (x : T) → MatchBool c (SomePasses g f xs) (NonePasses g f xs) → c ≡ false
      → Answers g f d x → d ≡ false → MatchBool b (SomePasses g f ys) (NonePasses g f ys)
      → MatchBool b (SomePasses g f (xs ++ x ∷ ys)) (NonePasses g f (xs ++ x ∷ ys))
  some-behind true c d xs ys x before none at fails some = some-right xs (x ∷ ys) (inr some)
  some-behind false true d xs ys x before none at fails some = cc
  some-behind false false true xs ys x before none at fails some = cc
  some-behind false false false xs ys x before none at fails some = none-around xs ys x before at some

  none-at : (b : Bool) (xs ys : List T) (x : T) → NonePasses g f xs → Answers g f b x → b ≡ false → NonePasses g f ys → NonePasses g f (xs ++ x ∷ ys)
  none-at b xs ys x before at fails behind = none-around xs ys x before (subst (λ c. Answers g f c x) fails at) behind

  -- what is counted up to an item before x
  pub counts-before : (b : Bool) (xs ys : List T) (p q : ℕ) → CountsToFirst g f xs p b q → b ≡ true → CountsToFirst g f (xs ++ ys) p true q
  counts-before false xs ys p q counts is = cc
  counts-before true xs ys p q counts is =
      let first = counts.1 in
      let inside : q - p < length xs = get-bound xs (q - p) first.item first.found in (
        counts.0,
        record {
          item = first.item;
          found = get-before xs ys (q - p) inside ∙ first.found;
          passes = first.passes;
          before = rw (take-left xs ys (q - p) (omega (arith, inside))) first.before;
        },
      )

  -- up to x, where none before it passes
  pub counts-at : (b c : Bool) (xs ys : List T) (x : T) (p q : ℕ) → CountsToFirst g f xs p b q → b ≡ false → Answers g f c x → c ≡ true
      → CountsToFirst g f (xs ++ x ∷ ys) p true q
  counts-at true c xs ys x p q counts is answers passes = cc
  counts-at false c xs ys x p q counts is answers passes =
      let all = counts.1 in
      let e : q - p ≡ length xs = omega (arith, all) in (
        omega (arith, all),
        record {
          item = x;
          found = get-at xs ys x (q - p) (sym e);
          passes = subst (λ d. Answers g f d x) passes answers;
          before = rw (e, take-whole xs (x ∷ ys)) counts.0;
        },
      )

  -- up to an item behind x, or all
  pub counts-behind : (a b c : Bool) (xs ys : List T) (x : T) (p q s t : ℕ) → CountsToFirst g f xs p b q → b ≡ false → Answers g f c x → c ≡ false
      → s ≡ q + 1 → CountsToFirst g f ys s a t → CountsToFirst g f (xs ++ x ∷ ys) p a t
  counts-behind a true c xs ys x p q s t counts is answers fails next rest = cc
  counts-behind false false c xs ys x p q s t counts is answers fails next rest =
      let all = counts.1 in
      let behind = rest.1 in
      let longer : length (xs ++ x ∷ ys) ≡ length xs + (length ys + 1) = simp length-append (omega arith) in
      (none-at c xs ys x counts.0 answers fails rest.0, omega (arith, all, behind, next, longer))
  counts-behind true false c xs ys x p q s t counts is answers fails next rest =
      let all = counts.1 in
      let low = rest.0 in
      let first = rest.1 in
      let e : t - p ≡ length xs + 1 + (t - s) = omega (arith, low, all, next) in (
        omega (arith, low, all, next),
        record {
          item = first.item;
          found = ap (slice_get (xs ++ x ∷ ys)) e ∙ (get-past xs ys x (t - s) ∙ first.found);
          passes = first.passes;
          before = rw (e, take-past xs ys x (t - s)) (none-around xs _ x counts.0 (subst (λ d. Answers g f d x) fails answers) first.before);
        },
      )

  pub first-of : (b : Bool) (xs : List T) (at : ℕ) → CountsToFirst g f xs 0 b at → b ≡ true → IsFirst g f xs at
  first-of false xs at counts is = cc
  first-of true xs at counts is = let same : at - 0 ≡ at = omega arith in rw same at counts.1
