-- What several reads of a file have given.
use Rattle.std.proofs.Common.{◌≡◌, ℕ, ◌+◌, ◌-◌, ◌≤◌, List, ◌++◌, take, drop, Option, Some, None, sym, ap, ◌∙◌, append_assoc, arith, slice_range}
use Rattle.std.proofs.lemmas.List.{drop-take, take-take, take-append-drop}
use Rattle.std.specs.Io.KnownBytes.{Consumes}

-- one read after another
pub consumes_both : (before mid after : Option (List ℕ)) (xs ys zs : List ℕ) → xs ++ ys ≡ zs → Consumes before mid xs → Consumes mid after ys
    → Consumes before after zs
consumes_both None mid after xs ys zs e c d = tt
consumes_both (Some bs) None after xs ys zs e c d = absurd c
consumes_both (Some bs) (Some cs) None xs ys zs e c d = d
consumes_both (Some bs) (Some cs) (Some ds) xs ys zs e c d = c ∙ ap (λ ws. xs ++ ws) d ∙ sym (append_assoc xs ys ds) ∙ ap (λ ws. ws ++ ds) e

-- a prefix and what follows it
pub prefix_and_range : (xs : List ℕ) (i j : ℕ) → i ≤ j → take i xs ++ slice_range xs i j ≡ take j xs
prefix_and_range xs i j h =
    let e : j ≡ i + (j - i) = omega arith in
    ap (λ ys. ys ++ slice_range xs i j) (sym (take-take i j xs h))
    ∙ ap (λ ys. take i (take j xs) ++ ys) (sym (drop-take i (j - i) xs) ∙ ap (λ n. drop i (take n xs)) (sym e)) ∙ take-append-drop i (take j xs)
