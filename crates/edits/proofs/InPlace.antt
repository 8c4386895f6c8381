-- A list with a gap, in which a join is made.
use Rattle.std.proofs.Common.{◌≡◌, ℕ, ◌+◌, ◌-◌, ◌≤◌, List, [], ◌∷◌, ◌++◌, length, take, drop, sym, ap, ◌∙◌, append_assoc, arith}
use Rattle.std.proofs.lemmas.List.{take-append-drop, take-append-le, take-take, drop-append-le, drop-take, drop-drop, drop_at, take_at}
use Rattle.std.proofs.lemmas.List.{length-take-le, length-append}

-- the first elements, and those behind them
pub take_both : {X : Type 0} (m n : ℕ) (xs : List X) → take (m + n) xs ≡ take m xs ++ take n (drop m xs)
take_both m n xs =
    sym (take-append-drop m (take (m + n) xs))
    ∙ ap (λ ys. ys ++ drop m (take (m + n) xs)) (take-take m (m + n) xs (omega arith))
    ∙ ap (λ ys. take m xs ++ ys) (drop-take m n xs)

-- what stands behind other elements in front of it
drop_beyond : {X : Type 0} (ps xs : List X) (m n : ℕ) → length ps ≡ m → m ≤ n → drop n (ps ++ drop m xs) ≡ drop n xs
drop_beyond ps xs m n e l =
    let same : m + (n - m) ≡ n = omega arith in
    ap (λ k. drop k (ps ++ drop m xs)) (sym same)
    ∙ sym (drop-drop (n - m) m (ps ++ drop m xs))
    ∙ ap (drop (n - m)) (drop_at ps (drop m xs) m e)
    ∙ drop-drop (n - m) m xs
    ∙ ap (λ k. drop k xs) same

-- what stands behind elements that were pasted
pub pasted_back : {X : Type 0} (xs ys : List X) (at n end : ℕ) → at ≤ length xs → n ≤ length ys → at + n ≤ end
    → drop end (take at xs ++ take n ys ++ drop (at + n) xs) ≡ drop end xs
pasted_back xs ys at n end inside enough behind =
    let front : length (take at xs) ≡ at = length-take-le at xs inside in
    let middle : length (take n ys) ≡ n = length-take-le n ys enough in
    let both : length (take at xs ++ take n ys) ≡ at + n = omega (arith, length-append (take at xs) (take n ys), front, middle) in
    drop_beyond (take at xs ++ take n ys) xs (at + n) end both behind

-- ---- elements that move to the back
-- from a place on, elements have moved so many places to the back; some in front of them move too
module _ {X : Type 0} (xs ys : List X) (at n by end : ℕ) (inside : at + n + by ≤ length xs) (below : at + n ≤ end)
    (is : ys ≡ take (at + n + by) xs ++ drop (at + n) (take end xs)) where
  same_front : (k : ℕ) → k ≤ at + n + by → take k ys ≡ take k xs
  same_front k l =
      ap (take k) is
      ∙ take-append-le k (take (at + n + by) xs) (drop (at + n) (take end xs)) (omega (arith, l, length-take-le (at + n + by) xs inside))
      ∙ take-take k (at + n + by) xs l

  stretch : take n (drop at ys) ≡ drop at (take (at + n) xs)
  stretch = sym (drop-take at n ys) ∙ ap (drop at) (same_front (at + n) (omega arith))

  behind : drop (at + by + n) ys ≡ drop (at + n) (take end xs)
  behind =
      let same : at + by + n ≡ at + n + by = omega arith in
      ap (λ k. drop k ys) same
      ∙ ap (drop (at + n + by)) is
      ∙ drop_at (take (at + n + by) xs) (drop (at + n) (take end xs)) (at + n + by) (length-take-le (at + n + by) xs inside)

  whole : drop at (take end xs) ≡ drop at (take (at + n) xs) ++ drop (at + n) (take end xs)
  whole =
      let same : take (at + n) (take end xs) ≡ take (at + n) xs = take-take (at + n) end xs below in
      let long : length (take (at + n) (take end xs)) ≡ at + n = ap length same ∙ length-take-le (at + n) xs (omega (arith, inside)) in
      ap (drop at) (sym (take-append-drop (at + n) (take end xs)))
      ∙ drop-append-le at (take (at + n) (take end xs)) (drop (at + n) (take end xs)) (omega (arith, long))
      ∙ ap (λ ts. drop at ts ++ drop (at + n) (take end xs)) same

  pub moved_more : take (at + by) ys ++ take n (drop at ys) ++ drop (at + by + n) ys ≡ take (at + by) xs ++ drop at (take end xs)
  moved_more =
      ap (λ ts. ts ++ take n (drop at ys) ++ drop (at + by + n) ys) (same_front (at + by) (omega arith))
      ∙ ap (λ ts. take (at + by) xs ++ ts ++ drop (at + by + n) ys) stretch
      ∙ ap (λ ts. take (at + by) xs ++ drop at (take (at + n) xs) ++ ts) behind
      ∙ append_assoc (take (at + by) xs) (drop at (take (at + n) xs)) (drop (at + n) (take end xs))
      ∙ ap (λ ts. take (at + by) xs ++ ts) (sym whole)

-- ---- one element that is put between others
module _ {X : Type 0} (xs : List X) (x : X) (at : ℕ) (inside : at ≤ length xs) where
  put_end : length (take at xs ++ x ∷ []) ≡ at + 1
  put_end = omega (arith, length-append (take at xs) (x ∷ []), length-take-le at xs inside)

  put_parts : take at xs ++ x ∷ drop at xs ≡ take at xs ++ x ∷ [] ++ drop at xs
  put_parts = sym (append_assoc (take at xs) (x ∷ []) (drop at xs))

  pub put_front : take (at + 1) (take at xs ++ x ∷ drop at xs) ≡ take at xs ++ x ∷ []
  put_front = ap (take (at + 1)) put_parts ∙ take_at (take at xs ++ x ∷ []) (drop at xs) (at + 1) put_end

  pub put_back : drop (at + 1) (take at xs ++ x ∷ drop at xs) ≡ drop at xs
  put_back = ap (drop (at + 1)) put_parts ∙ drop_at (take at xs ++ x ∷ []) (drop at xs) (at + 1) put_end
