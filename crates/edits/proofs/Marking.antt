-- Marks as bits of words.
use Rattle.std.proofs.Common.{◌≡◌, ◌≢◌, ◌⊎◌, inl, inr, ℕ, ◌+◌, ◌-◌, ◌*◌, ◌/◌, ◌%◌, ◌^◌, ◌<◌, ◌≤◌, min, max, List, length, suc, Bool, true, false, cond, not}
use Rattle.std.proofs.Common.{◌&&◌, ◌||◌, nat_eq, nat_lt, get_or, set, replicate, refl, sym, ap, ◌∙◌, arith, w64, get_or-set_same, get_or-set_other}
use Rattle.std.specs.Prelude.{bit_and, bit_or}
use mir.Syntax.{Width}
use mir.Val.{bits}
use Rattle.std.specs.Int.{bit_at, bit_not, trailing_zeros}
use Rattle.std.proofs.lemmas.Bool.{cases_lt, cases_eq, eq-eqb, eqb-true, lt-ltb}
use Rattle.std.proofs.lemmas.Bool.Decides.{nat_tests}
use Rattle.std.proofs.lemmas.Nat.{shr-shr, and_le_l, one_shl, pow_pos, div-add-mod'}
use Rattle.std.proofs.lemmas.Nat.Bits.{bit_at_and, bit_at_or, bit_at-zero, bit_at-lt, bit_at_not, bit_at_ones, bit_at_ones_above, bit_at_mask_inside}
use Rattle.std.proofs.lemmas.Nat.Bits.{bit_at_mask_below, bit_at_cat_low, bit_at_cat_high, bit_at_set_same, bit_at_set_other, ones_shl, ones_shr}
use Rattle.std.proofs.lemmas.Nat.Bits.{bit_at-trailing_zeros, bit_at_clear_same, bit_at_clear_other, bit_at-pow_same, bit_at-pow_other}
use Rattle.std.proofs.lemmas.List.{get_or-replicate, get_or_past}
use Rattle.std.proofs.Math.ListN.{length-replicate}
use Rattle.edits.specs.Marks.{has_bit, is_between}

-- ---- the bits of a stretch
high_bits : (first i : ℕ) → i < 64 → ((bit_at (2 ^ 64 - 2 ^ first) i ≡ 1) × (first ≤ i)) ⊎ ((bit_at (2 ^ 64 - 2 ^ first) i ≡ 0) × (i < first))
high_bits first i l = elim (cases_lt i first) [
  | inl below ↦ inr (bit_at_mask_below first 64 i below, below)
  | inr from ↦ inl (bit_at_mask_inside first 64 i from l, from)
]

low_bits : (k i : ℕ) → ((bit_at (2 ^ k - 1) i ≡ 1) × (i < k)) ⊎ ((bit_at (2 ^ k - 1) i ≡ 0) × (k ≤ i))
low_bits k i = elim (cases_lt i k) [
  | inl below ↦ inl (bit_at_ones k i below, below)
  | inr from ↦ inr (bit_at_ones_above k i from, from)
]

both_bits : (a b x first end i : ℕ) → x ≡ min a b → ((a ≡ 1) × (first ≤ i)) ⊎ ((a ≡ 0) × (i < first)) → ((b ≡ 1) × (i < end)) ⊎ ((b ≡ 0) × (end ≤ i))
    → nat_eq x 1 ≡ is_between first end i
both_bits a b x first end i e p q = grind (arith, nat_tests)

pub bit_at-stretch : (first last i : ℕ) → first ≤ last → last < 64 → i < 64
    → nat_eq (bit_at (bit_and ((2 ^ 64 - 1) * 2 ^ first % 2 ^ 64) ((2 ^ 64 - 1) / 2 ^ (63 - last))) i) 1 ≡ is_between first (last + 1) i
bit_at-stretch first last i o l m =
    let low : first ≤ 64 = omega arith in
    let high : 63 - last ≤ 64 = omega arith in
    let size : 64 - (63 - last) ≡ last + 1 = omega arith in
    both_bits (bit_at (2 ^ 64 - 2 ^ first) i) (bit_at (2 ^ (last + 1) - 1) i) _ first (last + 1) i
    (ap (λ n. bit_at (bit_and n ((2 ^ 64 - 1) / 2 ^ (63 - last))) i) (ones_shl 64 first low)
    ∙ ap (λ n. bit_at (bit_and (2 ^ 64 - 2 ^ first) n) i) (ones_shr 64 (63 - last) high ∙ ap (λ k. 2 ^ k - 1) size)
    ∙ bit_at_and (2 ^ 64 - 2 ^ first) (2 ^ (last + 1) - 1) i)
    (high_bits first i m) (low_bits (last + 1) i)

-- ---- all numbers, or none
pub has_bit-zeros : (n number : ℕ) → has_bit (replicate n 0) number ≡ false
unfolding has_bit
has_bit-zeros n number =
    let none : get_or {A = ℕ} (replicate n 0) (number / 64) 0 ≡ 0 = by_size (cases_lt (number / 64) n) in
    ap (λ w. nat_eq (bit_at w (number % 64)) 1) none ∙ ap (λ b. nat_eq b 1) (bit_at-zero (number % 64))
  where
    by_size : (number / 64 < n) ⊎ (n ≤ number / 64) → get_or {A = ℕ} (replicate n 0) (number / 64) 0 ≡ 0
    by_size (inl l) = get_or-replicate n (number / 64) 0 0 l
    by_size (inr l) = get_or_past (replicate n 0) (number / 64) 0 (omega (arith, length-replicate {A = ℕ} n 0))

pub has_bit-ones : (n number : ℕ) → number < 64 * n → has_bit (replicate n (2 ^ 64 - 1)) number ≡ true
unfolding has_bit
has_bit-ones n number l =
    ap (λ w. nat_eq (bit_at w (number % 64)) 1) (get_or-replicate n (number / 64) (2 ^ 64 - 1) 0 (omega arith))
    ∙ ap (λ b. nat_eq b 1) (bit_at_ones 64 (number % 64) (omega arith))

-- ---- whole words
pub has_bit-at : (words : List ℕ) (word i : ℕ) → i < 64 → nat_eq (bit_at (get_or words word 0) i) 1 ≡ has_bit words (64 * word + i)
unfolding has_bit
has_bit-at words word i l =
    let w : word ≡ (64 * word + i) / 64 = omega arith in
    let b : i ≡ (64 * word + i) % 64 = omega arith in
    ap (λ k. nat_eq (bit_at (get_or words k 0) i) 1) w ∙ ap (λ k. nat_eq (bit_at (get_or words ((64 * word + i) / 64) 0) k) 1) b

-- ---- a stretch of a word is marked
max_bit : (a b : ℕ) (p q : Bool) → a < 2 → b < 2 → nat_eq a 1 ≡ p → nat_eq b 1 ≡ q → nat_eq (max a b) 1 ≡ (p || q)
max_bit a b p q la lb e f = grind (arith, nat_tests)

pub has_bit-set_other : (words : List ℕ) (at word number : ℕ) → at ≢ number / 64 → has_bit (set words at word) number ≡ has_bit words number
unfolding has_bit
has_bit-set_other words at word number apart =
    ap (λ w. nat_eq (bit_at w (number % 64)) 1) (get_or-set_other words at (number / 64) word 0 (λ e. apart (sym e)))

pub has_bit-set_word : (words : List ℕ) (at word number : ℕ) → at < length words
    → has_bit (set words at word) number ≡ cond (nat_eq (number / 64) at) (nat_eq (bit_at word (number % 64)) 1) (has_bit words number)
unfolding has_bit
has_bit-set_word words at word number l = elim (cases_eq (number / 64) at) [
  | inl here ↦
      ap (λ k. nat_eq (bit_at (get_or (set words at word) k 0) (number % 64)) 1) here
      ∙ ap (λ w. nat_eq (bit_at w (number % 64)) 1) (get_or-set_same words at word 0 l)
      ∙ sym (ap (λ b. cond b (nat_eq (bit_at word (number % 64)) 1) (nat_eq (bit_at (get_or words (number / 64) 0) (number % 64)) 1))
      (eq-eqb (number / 64) at here))
  | inr other ↦
      let differ : nat_eq (number / 64) at ≡ false = grind (arith, nat_tests) in
      has_bit-set_other words at word number (λ e. other (sym e))
      ∙ sym (ap (λ b. cond b (nat_eq (bit_at word (number % 64)) 1) (nat_eq (bit_at (get_or words (number / 64) 0) (number % 64)) 1)) differ)
]

pub has_bit-set_or : (words : List ℕ) (at bits number : ℕ) → at < length words → at ≡ number / 64
    → has_bit (set words at (bit_or (get_or words at 0) bits)) number ≡ (has_bit words number || nat_eq (bit_at bits (number % 64)) 1)
unfolding has_bit
has_bit-set_or words at bits number l e =
    let word = get_or words at 0 in
    let same : get_or (set words at (bit_or word bits)) (number / 64) 0 ≡ bit_or word bits =
    ap (λ k. get_or (set words at (bit_or word bits)) k 0) (sym e) ∙ get_or-set_same words at (bit_or word bits) 0 l in
    ap (λ w. nat_eq (bit_at w (number % 64)) 1) same ∙ ap (λ b. nat_eq b 1) (bit_at_or word bits (number % 64))
    ∙ max_bit (bit_at word (number % 64)) (bit_at bits (number % 64)) (nat_eq (bit_at (get_or words (number / 64) 0) (number % 64)) 1)
    (nat_eq (bit_at bits (number % 64)) 1)
    (bit_at-lt word (number % 64)) (bit_at-lt bits (number % 64)) (ap (λ k. nat_eq (bit_at (get_or words k 0) (number % 64)) 1) e) refl

between_same : (a b i c d k : ℕ) → (a ≤ i → c ≤ k) → (c ≤ k → a ≤ i) → (i < b → k < d) → (k < d → i < b) → is_between a b i ≡ is_between c d k
between_same a b i c d k p q r s = grind (arith, nat_tests)

-- the bits of a stretch in one of its words, which begins and ends there or not
pub between-word : (first end at low high k : ℕ) → first < end → first / 64 ≤ at → at ≤ (end - 1) / 64
    → ((at ≡ first / 64) × (low ≡ first % 64)) ⊎ ((at ≢ first / 64) × (low ≡ 0))
    → ((at ≡ (end - 1) / 64) × (high ≡ (end - 1) % 64)) ⊎ ((at ≢ (end - 1) / 64) × (high ≡ 63))
    → k / 64 ≡ at → is_between low (high + 1) (k % 64) ≡ is_between first end k
between-word first end at low high k some from to lows highs here =
    between_same low (high + 1) (k % 64) first end k (start lows) (start' lows) (stop highs) (stop' highs)
  where
    start : ((at ≡ first / 64) × (low ≡ first % 64)) ⊎ ((at ≢ first / 64) × (low ≡ 0)) → low ≤ k % 64 → first ≤ k
    start (inl p) l = omega arith
    start (inr p) l = omega arith

    start' : ((at ≡ first / 64) × (low ≡ first % 64)) ⊎ ((at ≢ first / 64) × (low ≡ 0)) → first ≤ k → low ≤ k % 64
    start' (inl p) l = omega arith
    start' (inr p) l = omega arith

    stop : ((at ≡ (end - 1) / 64) × (high ≡ (end - 1) % 64)) ⊎ ((at ≢ (end - 1) / 64) × (high ≡ 63)) → k % 64 < high + 1 → k < end
    stop (inl p) l = omega arith
    stop (inr p) l = omega arith

    stop' : ((at ≡ (end - 1) / 64) × (high ≡ (end - 1) % 64)) ⊎ ((at ≢ (end - 1) / 64) × (high ≡ 63)) → k < end → k % 64 < high + 1
    stop' (inl p) l = omega arith
    stop' (inr p) l = omega arith

-- one number is marked
pub has_bit-set_one : (words : List ℕ) (number k : ℕ) → number / 64 < length words
    → has_bit (set words (number / 64) (bit_or (get_or words (number / 64) 0) (1 * 2 ^ (number % 64) % 2 ^ 64))) k
    ≡ (has_bit words k || is_between number (number + 1) k)
has_bit-set_one words number k l = elim (cases_eq (number / 64) (k / 64)) [
  | inl here ↦ has_bit-set_or words (number / 64) (1 * 2 ^ (number % 64) % 2 ^ 64) k l here ∙ ap (λ b. has_bit words k || b) (one_bit number k here)
  | inr other ↦ has_bit-set_other words (number / 64) _ k other ∙ no_bit (has_bit words k) (is_between number (number + 1) k) (apart number k other)
]
  where
    no_bit : (a b : Bool) → b ≡ false → a ≡ (a || b)
    no_bit true b e = refl
    no_bit false b e = sym e

    apart : (number k : ℕ) → number / 64 ≢ k / 64 → is_between number (number + 1) k ≡ false
    apart number k other = let differ : number ≢ k = λ e. other (ap (λ n. n / 64) e) in grind (arith, nat_tests)

    bit_value : (b i j number k : ℕ) → i ≡ number % 64 → j ≡ k % 64 → number / 64 ≡ k / 64 → ((i ≡ j) × (b ≡ 1)) ⊎ ((i ≢ j) × (b ≡ 0))
        → nat_eq b 1 ≡ is_between number (number + 1) k
    bit_value b i j number k e f g (inl h) = let same : number ≡ k = omega arith in grind (arith, nat_tests)
    bit_value b i j number k e f g (inr h) = let differ : number ≢ k = λ p. h.0 (e ∙ ap (λ n. n % 64) p ∙ sym f) in grind (arith, nat_tests)

    one_bit : (number k : ℕ) → number / 64 ≡ k / 64 → nat_eq (bit_at (1 * 2 ^ (number % 64) % 2 ^ 64) (k % 64)) 1 ≡ is_between number (number + 1) k
    one_bit number k here =
        let within : number % 64 < 64 = omega arith in
        ap (λ n. nat_eq (bit_at n (k % 64)) 1) (one_shl (number % 64) 64 within)
        ∙ bit_value (bit_at (2 ^ (number % 64)) (k % 64)) (number % 64) (k % 64) number k refl refl here (elim (cases_eq (number % 64) (k % 64)) [
          | inl e ↦ inl (e, ap (bit_at (2 ^ (number % 64))) (sym e) ∙ bit_at-pow_same (number % 64))
          | inr e ↦ inr (e, bit_at-pow_other (number % 64) (k % 64) (λ f. e (sym f)))
        ])

-- ---- one bit fewer
-- to clear the lowest bit of a word makes it smaller, and leaves its other bits
pub cleared : (word : ℕ) → 0 < word → word < 2 ^ 64
    → let left = bit_and word (bit_not w64 (1 * 2 ^ trailing_zeros w64 word % 2 ^ 64)) in
    (left < word) × (bit_at left (trailing_zeros w64 word) ≡ 0) × ((i : ℕ) → i < 64 → i ≢ trailing_zeros w64 word → bit_at left i ≡ bit_at word i)
cleared word some small =
    let lowest = bit_at-trailing_zeros w64 word some small in
    let bit = trailing_zeros w64 word in
    let left : ℕ = bit_and word (bit_not w64 (1 * 2 ^ bit % 2 ^ 64)) in
    let gone : bit_at left bit ≡ 0 = bit_at_clear_same w64 word bit lowest.0 in (
      elim (cases_eq left word) [
        | inl same ↦ absurd (let both : bit_at left bit ≡ bit_at word bit = ap (λ x. bit_at x bit) same in omega (arith, lowest.1))
        | inr other ↦ omega (arith, and_le_l word (bit_not w64 (1 * 2 ^ bit % 2 ^ 64)))
      ],
      gone,
      λ i l other. bit_at_clear_other w64 word bit lowest.0 i l other,
    )

-- ---- bits moved
bit_at_mod : (n i : ℕ) → i < 64 → bit_at (n % 2 ^ 64) i ≡ bit_at n i
bit_at_mod n i l = sym (bit_at_cat_low (n / 2 ^ 64) 64 (n % 2 ^ 64) i l) ∙ ap (λ x. bit_at x i) (div-add-mod' n (2 ^ 64))

pub shl_low : (n by i : ℕ) → i < 64 → i < by → bit_at (n * 2 ^ by % 2 ^ 64) i ≡ 0
shl_low n by i l below =
    let same : n * 2 ^ by ≡ n * 2 ^ by + 0 = omega arith in
    bit_at_mod (n * 2 ^ by) i l ∙ ap (λ x. bit_at x i) same ∙ bit_at_cat_low n by 0 i below ∙ bit_at-zero i

pub shl_high : (n by i : ℕ) → i < 64 → by ≤ i → bit_at (n * 2 ^ by % 2 ^ 64) i ≡ bit_at n (i - by)
shl_high n by i l from =
    let same : n * 2 ^ by ≡ n * 2 ^ by + 0 = omega arith in
    bit_at_mod (n * 2 ^ by) i l ∙ ap (λ x. bit_at x i) same ∙ bit_at_cat_high n by 0 i (pow_pos by) from

pub shr_bit : (n by i : ℕ) → bit_at (n / 2 ^ by) i ≡ bit_at n (by + i)
shr_bit n by i = ap (λ x. x % 2) (shr-shr n by i)

-- one bit of a word is set
pub has_one_in : (w : Width) (n at i : ℕ) → at < bits w → i < bits w
    → nat_eq (bit_at (bit_or n (1 * 2 ^ at % 2 ^ bits w)) i) 1 ≡ (nat_eq (bit_at n i) 1 || nat_eq at i)
has_one_in w n at i l m = elim (cases_eq at i) [
  | inl here ↦ ap (λ k. nat_eq (bit_at (bit_or n (1 * 2 ^ at % 2 ^ bits w)) k) 1) (sym here) ∙ ap (λ b. nat_eq b 1) (bit_at_set_same w n at l)
      ∙ yes (nat_eq (bit_at n i) 1) (nat_eq at i) (eq-eqb at i here)
  | inr other ↦ ap (λ b. nat_eq b 1) (bit_at_set_other w n at l i (λ e. other (sym e)))
      ∙ no (nat_eq (bit_at n i) 1) (nat_eq at i) (let differ : nat_eq at i ≡ false = grind (arith, nat_tests) in differ)
]
  where
    yes : (a b : Bool) → b ≡ true → true ≡ (a || b)
    yes true b e = refl
    yes false b e = sym e

    no : (a b : Bool) → b ≡ false → a ≡ (a || b)
    no true b e = refl
    no false b e = sym e

pub has_one : (n at i : ℕ) → at < 64 → i < 64 → nat_eq (bit_at (bit_or n (1 * 2 ^ at % 2 ^ 64)) i) 1 ≡ (nat_eq (bit_at n i) 1 || nat_eq at i)
has_one n at i l m = has_one_in w64 n at i l m

-- ---- words together
and_test : (a b : ℕ) → a < 2 → b < 2 → nat_eq (min a b) 1 ≡ (nat_eq a 1 && nat_eq b 1)
and_test a b l m = grind (arith, nat_tests)

or_test : (a b : ℕ) → a < 2 → b < 2 → nat_eq (max a b) 1 ≡ (nat_eq a 1 || nat_eq b 1)
or_test a b l m = grind (arith, nat_tests)

not_test : (a b : ℕ) → a < 2 → b ≡ 1 - a → nat_eq b 1 ≡ not (nat_eq a 1)
not_test a b l e = grind (arith, nat_tests)

pub has_and : (m n i : ℕ) → nat_eq (bit_at (bit_and m n) i) 1 ≡ (nat_eq (bit_at m i) 1 && nat_eq (bit_at n i) 1)
has_and m n i = ap (λ b. nat_eq b 1) (bit_at_and m n i) ∙ and_test (bit_at m i) (bit_at n i) (bit_at-lt m i) (bit_at-lt n i)

pub has_or : (m n i : ℕ) → nat_eq (bit_at (bit_or m n) i) 1 ≡ (nat_eq (bit_at m i) 1 || nat_eq (bit_at n i) 1)
has_or m n i = ap (λ b. nat_eq b 1) (bit_at_or m n i) ∙ or_test (bit_at m i) (bit_at n i) (bit_at-lt m i) (bit_at-lt n i)

pub has_not : (n i : ℕ) → n < 2 ^ 64 → i < 64 → nat_eq (bit_at (bit_not w64 n) i) 1 ≡ not (nat_eq (bit_at n i) 1)
has_not n i fits l = not_test (bit_at n i) (bit_at (bit_not w64 n) i) (bit_at-lt n i) (bit_at_not w64 n i fits l)

pub and_bits : (m n i : ℕ) → bit_at (bit_and m n) i ≡ 1 → (bit_at m i ≡ 1) × (bit_at n i ≡ 1)
and_bits m n i e =
    let both = bit_at_and m n i in
    let l = bit_at-lt m i in
    let k = bit_at-lt n i in
    (omega (arith, e, both, l, k), omega (arith, e, both, l, k))

pub or_bits : (m n i : ℕ) → bit_at (bit_or m n) i ≡ 1 → (bit_at m i ≡ 1) ⊎ (bit_at n i ≡ 1)
or_bits m n i e = elim (cases_eq (bit_at m i) 1) [
  | inl here ↦ inl here
  | inr other ↦ inr (omega (arith, e, other, bit_at_or m n i, bit_at-lt m i, bit_at-lt n i))
]

pub or_keeps : (m n i : ℕ) → bit_at m i ≡ 1 → bit_at (bit_or m n) i ≡ 1
or_keeps m n i e = omega (arith, e, bit_at_or m n i, bit_at-lt n i)

-- ---- bits that lead to others
-- the bits, and those beside them that lie within a mask: to the left where they stand on an inner bit, to the right onto one
abbrev pub stepped : ℕ → ℕ → ℕ → ℕ
stepped bits inner mask = bit_or bits (bit_and (bit_or (bit_and (bits * 2 ^ 1 % 2 ^ 64) inner) (bit_and bits inner / 2 ^ 1)) mask)

module _ (bits inner mask i : ℕ) (l : i < 64) where
  stepped-at : bit_at (stepped bits inner mask) i ≡ max (bit_at bits i)
      (min (max (min (bit_at (bits * 2 ^ 1 % 2 ^ 64) i) (bit_at inner i)) (min (bit_at bits (1 + i)) (bit_at inner (1 + i)))) (bit_at mask i))
  stepped-at =
      bit_at_or bits _ i
      ∙ ap (max (bit_at bits i)) (bit_at_and _ mask i
      ∙ ap (λ n. min n (bit_at mask i)) (bit_at_or (bit_and (bits * 2 ^ 1 % 2 ^ 64) inner) (bit_and bits inner / 2 ^ 1) i
      ∙ ap (λ n. max n (bit_at (bit_and bits inner / 2 ^ 1) i)) (bit_at_and (bits * 2 ^ 1 % 2 ^ 64) inner i)
      ∙ ap (max (min (bit_at (bits * 2 ^ 1 % 2 ^ 64) i) (bit_at inner i))) (shr_bit (bit_and bits inner) 1 i ∙ bit_at_and bits inner (1 + i))))

  pub stepped-keeps : bit_at bits i ≡ 1 → bit_at (stepped bits inner mask) i ≡ 1
  stepped-keeps e = omega (arith, stepped-at, bit_at-lt (stepped bits inner mask) i)

  pub stepped-right : (k : ℕ) → i ≡ suc k → bit_at bits k ≡ 1 → bit_at inner i ≡ 1 → bit_at mask i ≡ 1 → bit_at (stepped bits inner mask) i ≡ 1
  stepped-right k at e f g =
      let before : i - 1 ≡ k = omega arith in
      let moved : bit_at (bits * 2 ^ 1 % 2 ^ 64) i ≡ 1 = shl_high bits 1 i l (omega arith) ∙ ap (bit_at bits) before ∙ e in
      omega (arith, stepped-at, moved, f, g, bit_at-lt (stepped bits inner mask) i)

  pub stepped-left : (k : ℕ) → k ≡ suc i → bit_at bits k ≡ 1 → bit_at inner k ≡ 1 → bit_at mask i ≡ 1 → bit_at (stepped bits inner mask) i ≡ 1
  stepped-left k at e f g =
      let here : k ≡ 1 + i = omega arith in
      let own : bit_at bits (1 + i) ≡ 1 = ap (bit_at bits) (sym here) ∙ e in
      let on : bit_at inner (1 + i) ≡ 1 = ap (bit_at inner) (sym here) ∙ f in
      omega (arith, stepped-at, own, on, g, bit_at-lt (stepped bits inner mask) i)

  pub stepped-from : bit_at (stepped bits inner mask) i ≡ 1
      → (bit_at bits i ≡ 1) ⊎ ((bit_at mask i ≡ 1) ×
      (((k : ℕ) × (i ≡ suc k) × (bit_at bits k ≡ 1) × (bit_at inner i ≡ 1)) ⊎ ((bit_at bits (suc i) ≡ 1) × (bit_at inner (suc i) ≡ 1))))
  stepped-from h = elim (cases_eq (bit_at bits i) 1) [
    | inl e ↦ inl e
    | inr e ↦ inr (omega (arith, h, stepped-at, bit_at-lt bits i, bit_at-lt mask i), beside e)
  ]
    where
      up : suc i ≡ 1 + i
      up = omega arith

      beside : bit_at bits i ≢ 1 → ((k : ℕ) × (i ≡ suc k) × (bit_at bits k ≡ 1) × (bit_at inner i ≡ 1))
          ⊎ ((bit_at bits (suc i) ≡ 1) × (bit_at inner (suc i) ≡ 1))
      beside e = elim (cases_eq (min (bit_at bits (1 + i)) (bit_at inner (1 + i))) 1) [
        | inl f ↦ inr (ap (bit_at bits) up ∙ omega (arith, f, bit_at-lt bits (1 + i)), ap (bit_at inner) up ∙ omega (arith, f, bit_at-lt inner (1 + i)))
        | inr f ↦
            let both : min (bit_at (bits * 2 ^ 1 % 2 ^ 64) i) (bit_at inner i) ≡ 1 =
            omega (
              arith,
              h,
              e,
              f,
              stepped-at,
              bit_at-lt bits i,
              bit_at-lt mask i,
              bit_at-lt (bits * 2 ^ 1 % 2 ^ 64) i,
              bit_at-lt inner i,
              bit_at-lt bits (1 + i),
              bit_at-lt inner (1 + i),
            ) in
            elim (cases_lt i 1) [
              | inl first ↦ absurd (omega (arith, both, shl_low bits 1 i l first))
              | inr later ↦
                  inl (
                    i - 1,
                    omega arith,
                    sym (shl_high bits 1 i l later)
                        ∙ omega (arith, both, bit_at-lt (bits * 2 ^ 1 % 2 ^ 64) i),
                    omega (arith, both, bit_at-lt inner i),
                  )
            ]
      ]

-- the other bits
pub other_yes : (n i m : ℕ) → n < 2 ^ 64 → i < 64 → nat_eq (bit_at n i) 1 ≡ nat_eq m 0 → bit_at (bit_not w64 n) i ≡ 1 → m ≢ 0
other_yes n i m fits l e on zero =
    let clear : bit_at n i ≡ 0 = omega (arith, bit_at_not w64 n i fits l) in
    let set : bit_at n i ≡ 1 = eqb-true (bit_at n i) 1 (e ∙ eq-eqb m 0 zero) in
    omega (arith, clear, set)

pub other_no : (n i m : ℕ) → n < 2 ^ 64 → i < 64 → nat_eq (bit_at n i) 1 ≡ nat_eq m 0 → m ≢ 0 → bit_at (bit_not w64 n) i ≡ 1
other_no n i m fits l e some = elim (cases_eq (bit_at n i) 1) [
  | inl set ↦ absurd (some (eqb-true m 0 (sym e ∙ eq-eqb (bit_at n i) 1 set)))
  | inr clear ↦ omega (arith, bit_at_not w64 n i fits l, bit_at-lt n i)
]

-- ---- bits found one after another
pub found-none : (a t : Bool) → (a ≡ true → t ≡ false) → false ≡ (a && t)
found-none true t h = sym (h refl)
found-none false t h = refl

pub found-more : (a t e b : Bool) → (a ≡ true → (e ≡ false) × (b ≡ true)) → (e ≡ true → (t ≡ true) × (b ≡ true))
    → (a ≡ false → e ≡ false → b ≡ true → t ≡ false)
    → ((a && t) || e) ≡ (b && t)
found-more true true e b h k m = sym ((h refl).1) ∙ sym (and_true b)
  where
    and_true : (b : Bool) → (b && true) ≡ b
    and_true true = refl
    and_true false = refl
found-more true false e b h k m = (h refl).0 ∙ sym (and_false b)
  where
    and_false : (b : Bool) → (b && false) ≡ false
    and_false true = refl
    and_false false = refl
found-more false t true b h k m = let both = k refl in sym (ap (λ x. x && t) both.1 ∙ both.0)
found-more false t false true h k m = sym (m refl refl refl)
found-more false t false false h k m = refl

pub found-same : (a t b : Bool) → (a ≡ true → b ≡ true) → (a ≡ false → b ≡ true → t ≡ false) → (a && t) ≡ (b && t)
found-same true t b h k = sym (ap (λ x. x && t) (h refl))
found-same false t true h k = sym (k refl refl)
found-same false t false h k = refl

pub found-all : (a t : Bool) → (a ≡ false → t ≡ false) → (a && t) ≡ t
found-all true t h = refl
found-all false t h = sym (h refl)

-- the low bits of a word
pub low_mask : (n i : ℕ) → n ≤ 64 → nat_eq (bit_at ((2 ^ 64 - 1) / 2 ^ (64 - n)) i) 1 ≡ nat_lt i n
low_mask n i l =
    let within : 64 - n ≤ 64 = omega arith in
    let size : 64 - (64 - n) ≡ n = omega arith in
    ap (λ m. nat_eq (bit_at m i) 1) (ones_shr 64 (64 - n) within ∙ ap (λ k. 2 ^ k - 1) size) ∙ by_bit (bit_at (2 ^ n - 1) i) (low_bits n i)
  where
    by_bit : (b : ℕ) → ((b ≡ 1) × (i < n)) ⊎ ((b ≡ 0) × (n ≤ i)) → nat_eq b 1 ≡ nat_lt i n
    by_bit b (inl h) = eq-eqb b 1 h.0 ∙ sym (lt-ltb i n h.1)
    by_bit b (inr h) = let out : nat_lt i n ≡ false = grind (arith, nat_tests) in ap (λ m. nat_eq m 1) h.0 ∙ sym out
