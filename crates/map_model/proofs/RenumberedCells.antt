-- Values that are changed one after another.
use Rattle.std.proofs.Common.{◌≡◌, ℕ, zero, suc, ◌<◌, List, [], ◌∷◌, get_or, length, map, Some, refl, sym, ap, ◌∙◌, arith}
use Rattle.std.proofs.lemmas.Option.{slice_get_read}
use Rattle.std.specs.List.{slice_get, slice_set}

-- a list with f of so many values at its front
abbrev pub changed_up : {A : Type 0} → (A → A) → ℕ → List A → List A
changed_up f zero xs = xs
changed_up f (suc k) [] = []
changed_up f (suc k) (x ∷ xs) = f x ∷ changed_up f k xs

pub length-changed_up : {A : Type 0} (f : A → A) (k : ℕ) (xs : List A) → length (changed_up f k xs) ≡ length xs
length-changed_up f zero xs = refl
length-changed_up f (suc k) [] = refl
length-changed_up f (suc k) (x ∷ xs) = ap suc (length-changed_up f k xs)

-- the next value is as it was
pub get-changed_up : {A : Type 0} (f : A → A) (k : ℕ) (xs : List A) → slice_get (changed_up f k xs) k ≡ slice_get xs k
get-changed_up f zero xs = refl
get-changed_up f (suc k) [] = refl
get-changed_up f (suc k) (x ∷ xs) = get-changed_up f k xs

-- f of the next value too
pub set-changed_up : {A : Type 0} (f : A → A) (k : ℕ) (xs : List A) (x : A) → slice_get xs k ≡ Some x
    → slice_set (changed_up f k xs) k (f x) ≡ changed_up f (suc k) xs
set-changed_up f zero [] x e = cc
set-changed_up f zero (y ∷ ys) x e = let same : y ≡ x = cc in ap (λ z. f z ∷ ys) (sym same)
set-changed_up f (suc k) [] x e = cc
set-changed_up f (suc k) (y ∷ ys) x e = ap (λ zs. f y ∷ zs) (set-changed_up f k ys x e)

-- all values
pub changed_up-all : {A : Type 0} (f : A → A) (xs : List A) → changed_up f (length xs) xs ≡ map f xs
changed_up-all f [] = refl
changed_up-all f (x ∷ xs) = ap (λ ys. f x ∷ ys) (changed_up-all f xs)

-- ---- a value that is read
module _ {A : Type 0} (f : A → A) (k n : ℕ) (xs ys : List A) (is : ys ≡ changed_up f k xs) (all : n ≡ length xs) (more : k < n) where
  pub within-changed_up : k < length ys
  within-changed_up = let same : length ys ≡ length xs = ap length is ∙ length-changed_up f k xs in omega (arith, same, all, more)

  pub read-changed_up : (x : A) → x ≡ get_or ys k x → slice_get xs k ≡ Some x
  read-changed_up x e =
      sym (get-changed_up f k xs) ∙ (ap (λ zs. slice_get zs k) (sym is) ∙ slice_get_read ys (length ys) k x refl within-changed_up e)
