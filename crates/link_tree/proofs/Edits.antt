-- Edits of a list in front of an item, at it and behind it.
use Rattle.std.proofs.Common.{◌≡◌, ℕ, zero, suc, ◌+◌, ◌-◌, ◌<◌, List, [], ◌∷◌, ◌++◌, length, drop, Some, refl, ap, arith}
use Rattle.std.specs.List.{insert, remove, slice_get, slice_set}

module _ {X : Type 0} where
  pub insert-behind : (xs ys : List X) (x y : X) (k : ℕ) → length xs < k → insert (xs ++ x ∷ ys) k y ≡ xs ++ x ∷ insert ys (k - length xs - 1) y
  insert-behind [] ys x y zero h = absurd (omega arith)
  insert-behind [] ys x y (suc k) h = let e : suc k - 0 - 1 ≡ k = omega arith in rw e refl
  insert-behind (z ∷ xs) ys x y zero h = absurd (omega arith)
  insert-behind (z ∷ xs) ys x y (suc k) h =
      let e : suc k - suc (length xs) ≡ k - length xs = omega arith in rw e (ap (λ zs. z ∷ zs) (insert-behind xs ys x y k (omega arith)))

  pub remove-at : (xs ys : List X) (x : X) (k : ℕ) → length xs ≡ k → remove (xs ++ x ∷ ys) k ≡ xs ++ ys
  remove-at [] ys x zero h = refl
  remove-at [] ys x (suc k) h = absurd (omega arith)
  remove-at (z ∷ xs) ys x zero h = absurd (omega arith)
  remove-at (z ∷ xs) ys x (suc k) h = ap (λ zs. z ∷ zs) (remove-at xs ys x k (omega arith))

  pub remove-behind : (xs ys : List X) (x : X) (k : ℕ) → length xs < k → remove (xs ++ x ∷ ys) k ≡ xs ++ x ∷ remove ys (k - length xs - 1)
  remove-behind [] ys x zero h = absurd (omega arith)
  remove-behind [] ys x (suc k) h = let e : suc k - 0 - 1 ≡ k = omega arith in rw e refl
  remove-behind (z ∷ xs) ys x zero h = absurd (omega arith)
  remove-behind (z ∷ xs) ys x (suc k) h =
      let e : suc k - suc (length xs) ≡ k - length xs = omega arith in rw e (ap (λ zs. z ∷ zs) (remove-behind xs ys x k (omega arith)))

  pub get-before : (xs ys : List X) (k : ℕ) → k < length xs → slice_get (xs ++ ys) k ≡ slice_get xs k
  get-before [] ys k h = absurd (omega arith)
  get-before (z ∷ xs) ys zero h = refl
  get-before (z ∷ xs) ys (suc k) h = get-before xs ys k (omega arith)

  pub get-at : (xs ys : List X) (x : X) (k : ℕ) → length xs ≡ k → slice_get (xs ++ x ∷ ys) k ≡ Some x
  get-at [] ys x zero h = refl
  get-at [] ys x (suc k) h = absurd (omega arith)
  get-at (z ∷ xs) ys x zero h = absurd (omega arith)
  get-at (z ∷ xs) ys x (suc k) h = get-at xs ys x k (omega arith)

  pub get-behind : (xs ys : List X) (x : X) (k : ℕ) → length xs < k → slice_get (xs ++ x ∷ ys) k ≡ slice_get ys (k - length xs - 1)
  get-behind [] ys x zero h = absurd (omega arith)
  get-behind [] ys x (suc k) h = let e : suc k - 0 - 1 ≡ k = omega arith in rw e refl
  get-behind (z ∷ xs) ys x zero h = absurd (omega arith)
  get-behind (z ∷ xs) ys x (suc k) h =
      let e : suc k - suc (length xs) ≡ k - length xs = omega arith in rw e (get-behind xs ys x k (omega arith))

  pub drop-one_more : (xs : List X) (k : ℕ) (x : X) → slice_get xs k ≡ Some x → drop k xs ≡ x ∷ drop (k + 1) xs
  drop-one_more [] zero x e = cc
  drop-one_more [] (suc k) x e = cc
  drop-one_more (y ∷ xs) zero x e = let same : y ≡ x = cc in ap (λ z. z ∷ xs) same
  drop-one_more (y ∷ xs) (suc k) x e = let more : suc k + 1 ≡ suc (k + 1) = omega arith in rw more (drop-one_more xs k x e)

  pub get-in_left : (xs ys : List X) (k : ℕ) (x : X) → slice_get xs k ≡ Some x → slice_get (xs ++ ys) k ≡ Some x
  get-in_left [] ys zero x e = cc
  get-in_left [] ys (suc k) x e = cc
  get-in_left (z ∷ xs) ys zero x e = e
  get-in_left (z ∷ xs) ys (suc k) x e = get-in_left xs ys k x e

  pub get-past : (xs ys : List X) (x : X) (k : ℕ) → slice_get (xs ++ x ∷ ys) (length xs + 1 + k) ≡ slice_get ys k
  get-past xs ys x k = let e : length xs + 1 + k - length xs - 1 ≡ k = omega arith in rw (get-behind xs ys x (length xs + 1 + k) (omega arith), e) refl

  pub get-bound : (xs : List X) (k : ℕ) (x : X) → slice_get xs k ≡ Some x → k < length xs
  get-bound [] zero x e = cc
  get-bound [] (suc k) x e = cc
  get-bound (z ∷ xs) zero x e = omega arith
  get-bound (z ∷ xs) (suc k) x e = let h : k < length xs = get-bound xs k x e in omega arith

  pub set-before : (xs ys : List X) (k : ℕ) (w : X) → k < length xs → slice_set (xs ++ ys) k w ≡ slice_set xs k w ++ ys
  set-before [] ys k w h = absurd (omega arith)
  set-before (z ∷ xs) ys zero w h = refl
  set-before (z ∷ xs) ys (suc k) w h = ap (λ zs. z ∷ zs) (set-before xs ys k w (omega arith))

  pub set-at : (xs ys : List X) (x : X) (k : ℕ) (w : X) → length xs ≡ k → slice_set (xs ++ x ∷ ys) k w ≡ xs ++ w ∷ ys
  set-at [] ys x zero w h = refl
  set-at [] ys x (suc k) w h = absurd (omega arith)
  set-at (z ∷ xs) ys x zero w h = absurd (omega arith)
  set-at (z ∷ xs) ys x (suc k) w h = ap (λ zs. z ∷ zs) (set-at xs ys x k w (omega arith))

  pub set-behind : (xs ys : List X) (x : X) (k : ℕ) (w : X) → length xs < k → slice_set (xs ++ x ∷ ys) k w ≡ xs ++ x ∷ slice_set ys (k - length xs - 1) w
  set-behind [] ys x zero w h = absurd (omega arith)
  set-behind [] ys x (suc k) w h = let e : suc k - 0 - 1 ≡ k = omega arith in rw e refl
  set-behind (z ∷ xs) ys x zero w h = absurd (omega arith)
  set-behind (z ∷ xs) ys x (suc k) w h =
      let e : suc k - suc (length xs) ≡ k - length xs = omega arith in rw e (ap (λ zs. z ∷ zs) (set-behind xs ys x k w (omega arith)))
