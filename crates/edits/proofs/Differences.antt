-- Differences of two lists of values.
use Rattle.std.proofs.Common.{◌≡◌, ℕ, zero, suc, ◌+◌, ◌<◌, List, [], ◌∷◌, length, true, nat_eq, get_or, add-zero, add-suc, append-nil, refl, ap, ◌∙◌, arith}
use Rattle.std.proofs.lemmas.Bool.Decides.{nat_tests}
use Rattle.map_model.specs.Difference.{change_at, difference}
use Rattle.edits.specs.Covering.{each_at}

pub change_at-same : (width number a b : ℕ) → b ≡ a → change_at width number a b ≡ []
change_at-same width number a b e = let same : nat_eq a b ≡ true = grind (arith, nat_tests) in rw same refl

-- cells in which the values are the same add nothing
pub difference-skip : (width : ℕ) (xs ys : List ℕ) (k n : ℕ) → ((i : ℕ) → i < n → get_or ys (k + i) 0 ≡ get_or xs (k + i) 0)
    → difference width xs ys (k + n) ≡ difference width xs ys k
difference-skip width xs ys k zero h = rw add-zero refl
difference-skip width xs ys k (suc n) h =
    rw (add-suc k n, change_at-same width (k + n) (get_or xs (k + n) 0) (get_or ys (k + n) 0) (h n (omega arith)), append-nil)
    (difference-skip width xs ys k n (λ i l. h i (omega arith)))

-- ---- a function of each value
pub length-each_at : (f : ℕ → ℕ → ℕ) (number : ℕ) (vs : List ℕ) → length (each_at f number vs) ≡ length vs
length-each_at f number [] = refl
length-each_at f number (v ∷ vs) = ap suc (length-each_at f (suc number) vs)

get_or-each_from : (f : ℕ → ℕ → ℕ) (number : ℕ) (vs : List ℕ) (k : ℕ) → k < length vs → get_or (each_at f number vs) k 0 ≡ f (number + k) (get_or vs k 0)
get_or-each_from f number [] k l = absurd (omega arith)
get_or-each_from f number (v ∷ vs) zero l = rw add-zero refl
get_or-each_from f number (v ∷ vs) (suc k) l =
    let at : suc number + k ≡ number + suc k = omega arith in
    get_or-each_from f (suc number) vs k (omega arith) ∙ ap (λ n. f n (get_or vs k 0)) at

pub get_or-each_at : (f : ℕ → ℕ → ℕ) (vs : List ℕ) (k : ℕ) → k < length vs → get_or (each_at f 0 vs) k 0 ≡ f k (get_or vs k 0)
get_or-each_at f vs k l = let at : 0 + k ≡ k = omega arith in get_or-each_from f 0 vs k l ∙ ap (λ n. f n (get_or vs k 0)) at
