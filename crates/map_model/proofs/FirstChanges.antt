-- Changes of the first element that passes a test, one after another.
use Rattle.std.proofs.Common.{◌≡◌, List, [], ◌∷◌, Bool, true, false, cond, Some, option_map, find, refl, ap}
use Rattle.map_model.specs.Lists.{change_first}

module _ {X : Type 0} (p : X → Bool) (f g : X → X) (same : (x : X) → p (g x) ≡ p x) where
  pub change_first-change_first : (xs : List X) → change_first p f (change_first p g xs) ≡ change_first p (λ x. f (g x)) xs
  change_first-change_first [] = refl
  change_first-change_first (x ∷ xs) = by_test (p x) refl (change_first-change_first xs)
    where
      by_test : (b : Bool) → p x ≡ b → change_first p f (change_first p g xs) ≡ change_first p (λ x. f (g x)) xs
          → change_first p f (cond b (g x ∷ xs) (x ∷ change_first p g xs)) ≡ cond b (f (g x) ∷ xs) (x ∷ change_first p (λ x. f (g x)) xs)
      by_test true e h = rw (same x, e) refl
      by_test false e h = rw e (ap (λ ys. x ∷ ys) h)

  pub find-change_first : (xs : List X) → find p (change_first p g xs) ≡ option_map g (find p xs)
  find-change_first [] = refl
  find-change_first (x ∷ xs) = by_test (p x) refl (find-change_first xs)
    where
      by_test : (b : Bool) → p x ≡ b → find p (change_first p g xs) ≡ option_map g (find p xs)
          → find p (cond b (g x ∷ xs) (x ∷ change_first p g xs)) ≡ option_map g (cond b (Some x) (find p xs))
      by_test true e h = rw (same x, e) refl
      by_test false e h = rw e h

module _ {X : Type 0} (p : X → Bool) (f g : X → X) where
  -- two changes that agree on the element that is found
  pub change_first-along : (xs : List X) → ((x : X) → find p xs ≡ Some x → f x ≡ g x) → change_first p f xs ≡ change_first p g xs
  change_first-along [] e = refl
  change_first-along (x ∷ xs) e = by_test (p x) e (change_first-along xs)
    where
      by_test : (b : Bool) → ((y : X) → cond b (Some x) (find p xs) ≡ Some y → f y ≡ g y)
          → (((y : X) → find p xs ≡ Some y → f y ≡ g y) → change_first p f xs ≡ change_first p g xs)
          → cond b (f x ∷ xs) (x ∷ change_first p f xs) ≡ cond b (g x ∷ xs) (x ∷ change_first p g xs)
      by_test true e h = ap (λ y. y ∷ xs) (e x refl)
      by_test false e h = ap (λ ys. x ∷ ys) (h e)

module _ {X : Type 0} (p : X → Bool) where
  pub change_first-same : (xs : List X) → change_first p (λ x. x) xs ≡ xs
  change_first-same [] = refl
  change_first-same (x ∷ xs) = by_test (p x) (change_first-same xs)
    where
      by_test : (b : Bool) → change_first p (λ x. x) xs ≡ xs → cond b (x ∷ xs) (x ∷ change_first p (λ x. x) xs) ≡ x ∷ xs
      by_test true h = refl
      by_test false h = ap (λ ys. x ∷ ys) h
