-- Ranges of a list.
use Rattle.std.proofs.Common.{◌≡◌, ℕ, ◌+◌, ◌-◌, ◌≤◌, List, ◌++◌, length, take, drop, sym, ap, ◌∙◌, arith, slice_range}
use Rattle.std.proofs.Common.{Option, Some, None, append_assoc}
use Rattle.std.proofs.lemmas.List.{drop-drop, take-take, drop-take, take-append-drop, length-take, length-drop}
use Rattle.std.specs.Io.KnownBytes.{Consumes, Keeps, prepend_known}
use Rattle.lines.specs.Reading.{SameInput}

-- the prefix of a range
pub range_prefix : (xs : List ℕ) (i j n : ℕ) → i + n ≤ j → slice_range xs i (i + n) ≡ take n (slice_range xs i j)
range_prefix xs i j n h =
    let e : i + n - i ≡ n = omega arith in
    let k : n ≤ j - i = omega arith in
    ap (λ m. take m (drop i xs)) e ∙ sym (take-take n (j - i) (drop i xs) k)

-- a range without its prefix
pub range_rest : (xs : List ℕ) (i j n : ℕ) → i + n ≤ j → slice_range xs (i + n) j ≡ drop n (slice_range xs i j)
range_rest xs i j n h =
    let e : j - i ≡ n + (j - (i + n)) = omega arith in
    sym (ap (λ m. drop n (take m (drop i xs))) e ∙ drop-take n (j - (i + n)) (drop i xs) ∙ ap (λ ys. take (j - (i + n)) ys) (drop-drop n i xs))

pub length-range : (xs : List ℕ) (i j : ℕ) → j ≤ length xs → length (slice_range xs i j) ≡ j - i
length-range xs i j h = omega (arith, length-take (j - i) (drop i xs), length-drop i xs)

-- a prefix in two ranges
pub take_split : (xs : List ℕ) (i n : ℕ) → take (i + n) xs ≡ take i xs ++ take n (drop i xs)
take_split xs i n =
    let prefix = take (i + n) xs in
    let h : i ≤ i + n = omega arith in
    sym (ap (λ ys. ys ++ take n (drop i xs)) (sym (take-take i (i + n) xs h)) ∙ ap (λ ys. take i prefix ++ ys) (sym (drop-take i n xs))
    ∙ take-append-drop i prefix)

-- a range in two
pub range_split : (xs : List ℕ) (s l n : ℕ) → slice_range xs s (s + l + n) ≡ slice_range xs s (s + l) ++ slice_range xs (s + l) (s + l + n)
range_split xs s l n =
    let whole : s + l + n - s ≡ l + n = omega arith in
    let prefix : s + l - s ≡ l = omega arith in
    let back : s + l + n - (s + l) ≡ n = omega arith in
    ap (λ m. take m (drop s xs)) whole ∙ take_split (drop s xs) l n ∙ ap (λ ys. take l (drop s xs) ++ take n ys) (drop-drop l s xs)
    ∙ ap (λ m. take m (drop s xs) ++ take n (drop (s + l) xs)) (sym prefix) ∙ ap (λ m. slice_range xs s (s + l) ++ take m (drop (s + l) xs)) (sym back)

-- what is to come stays the same when bytes move from the reader to the pending ones
pub same_input : (old new more : List ℕ) (before after : Option (List ℕ)) → new ≡ old ++ more → Consumes before after more
    → SameInput (prepend_known old before) (prepend_known new after)
same_input old new more None after e h = tt
same_input old new more (Some xs) None e h = h
same_input old new more (Some xs) (Some ys) e h = ap (λ zs. old ++ zs) h ∙ sym (append_assoc old more ys) ∙ ap (λ zs. zs ++ ys) (sym e)

pub same_keeps : (old new : List ℕ) (before after : Option (List ℕ)) → new ≡ old → Keeps before after
    → SameInput (prepend_known old before) (prepend_known new after)
same_keeps old new None after e h = tt
same_keeps old new (Some xs) None e h = h
same_keeps old new (Some xs) (Some ys) e h = ap (λ zs. old ++ zs) (sym h) ∙ ap (λ zs. zs ++ ys) (sym e)

-- what lies in the buffer after a read, and after one that failed
pub read_in : (items xs was old : List ℕ) (s l n : ℕ) → items ≡ xs → slice_range xs s (s + l) ≡ was → was ≡ old
    → slice_range items s (s + l + n) ≡ old ++ slice_range xs (s + l) (s + l + n)
read_in items xs was old s l n same stays e = ap (λ ys. slice_range ys s (s + l + n)) same ∙ range_split xs s l n
    ∙ ap (λ ys. ys ++ slice_range xs (s + l) (s + l + n)) (stays ∙ e)

pub not_read : (items xs was old : List ℕ) (s l : ℕ) → items ≡ xs → slice_range xs s (s + l) ≡ was → was ≡ old → slice_range items s (s + l) ≡ old
not_read items xs was old s l same stays e = ap (λ ys. slice_range ys s (s + l)) same ∙ stays ∙ e
