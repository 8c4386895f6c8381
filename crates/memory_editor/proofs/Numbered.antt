-- What is at a number of a list is what comes from it after so many calls.
use Rattle.std.proofs.Common.{◌≡◌, ◌≤◌, ℕ, zero, suc, List, [], ◌∷◌, ◌++◌, Option, None, Some, length, refl, sym, ◌∙◌, ap, arith}
use Rattle.std.specs.Prelude.{slice_get}
use Rattle.std.specs.Iterator.{YieldsFirst, Yields, SkipsThenYields}

past : {A : Type 0} (xs : List A) (n : ℕ) → length xs ≤ n → slice_get (xs ++ []) n ≡ None
past [] n h = refl
past (x ∷ xs) zero h = absurd (omega (arith, h))
past (x ∷ xs) (suc n) h = past xs n (omega (arith, h))

found : {A : Type 0} (xs t : List A) (x : A) (n : ℕ) → length xs ≡ n → slice_get (xs ++ x ∷ t) n ≡ Some x
found [] t x zero h = refl
found [] t x (suc n) h = absurd (omega (arith, h))
found (y ∷ xs) t x zero h = absurd (omega (arith, h))
found (y ∷ xs) t x (suc n) h = found xs t x n (omega (arith, h))

came : {A : Type 0} (s xs t : List A) → Yields (YieldsFirst (λ (l : List A). l)) s xs t → s ≡ xs ++ t
came s [] t e = e
came s (x ∷ xs) t h = h.1 ∙ ap (λ l. x ∷ l) (came h.0 xs t h.2)

pub at_number : {A : Type 0} (s : List A) (n : ℕ) (r : Option A) (u : List A) → SkipsThenYields (YieldsFirst (λ (l : List A). l)) s n r u → r ≡ slice_get s n
at_number s n None u h = rw (came s h.0 h.1.0 h.1.1, h.1.2.0) (sym (past h.0 n h.2))
at_number s n (Some x) u h = rw (came s h.0 h.1.0 h.1.1, h.1.2) (sym (found h.0 u x n h.2))
