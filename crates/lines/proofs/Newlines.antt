-- The offset of the first newline.
use Rattle.std.proofs.Common.{◌≡◌, ℕ, ◌+◌, ◌-◌, ◌^◌, ◌<◌, ◌≤◌, Bool, true, false, eqb, ltb, cond, not, List, ◌∷◌, ◌++◌, length, map, take, drop, get_or, refl, sym}
use Rattle.std.proofs.Common.{ap, ◌∙◌, arith, w64}
use Rattle.std.specs.List.{before_first, after_first}
use Rattle.std.specs.Int.{bit_at, trailing_zeros}
use Rattle.std.specs.Simd.Lanes.{mask_l}
use Rattle.std.proofs.lemmas.Bool.{ne_eqb, eq-eqb, eqb-true, eqb-false, ltb-true, ltb-false, false_from_ne_true}
use Rattle.std.proofs.lemmas.Nat.Bits.{bit_at-trailing_zeros, bit_at-zero}
use Rattle.std.proofs.lemmas.Simd.{bit_mask_l}
use Rattle.std.proofs.Math.ListN.{get_or-map}
use Rattle.memchr.specs.Find.{NoneBefore, Nowhere, Passes, is_byte}
use Rattle.std.proofs.lemmas.List.{get_or-take, get_or_past, get_or_default, length-take, length-drop, take_all, take-append-drop, drop-drop}
use Rattle.std.proofs.lemmas.List.Sums.{position_or_len_is, fails_before_first, passes_at_first, split_at_first}
use Rattle.std.proofs.lemmas.List.Folds.{prefix_len-append}
use Rattle.lines.specs.Lines.{HasNoNewline}
use Rattle.lines.specs.Reading.{first_newline}

pub first_of_none : (bs : List ℕ) → HasNoNewline bs → first_newline bs ≡ length bs
first_of_none bs h = position_or_len_is (λ b. eqb b 10) bs (length bs) 0 (omega arith) (λ k l. ne_eqb (get_or bs k 0) 10 (h k 0 l))
    (λ l. absurd (omega (arith, l)))

pub none_before : (bs : List ℕ) (n : ℕ) → n ≤ first_newline bs → HasNoNewline (take n bs)
none_before bs n h = λ k d l e. eqb-false _ 10 (fails_before_first (λ b. eqb b 10) bs k d (omega (arith, h, l, length-take n bs)))
    (sym (get_or-take n bs k d (omega (arith, l, length-take n bs))) ∙ e)

pub none_at_all : (bs : List ℕ) → length bs ≤ first_newline bs → HasNoNewline bs
none_at_all bs h = λ k d l e. eqb-false _ 10 (fails_before_first (λ b. eqb b 10) bs k d (omega (arith, h, l))) e

pub cut_at_first : (bs : List ℕ) (n : ℕ) → n ≡ first_newline bs → n < length bs → HasNoNewline (take n bs) × (bs ≡ take n bs ++ 10 ∷ drop (n + 1) bs)
cut_at_first bs n e h =
    let l : first_newline bs < length bs = omega (arith, e, h) in
    let at = eqb-true _ 10 (passes_at_first (λ b. eqb b 10) bs 0 l) in (
      none_before bs n (omega (arith, e)),
      split_at_first (λ b. eqb b 10) bs 0 l
          ∙ ap (λ c. before_first (λ b. eqb b 10) bs ++ c ∷ after_first (λ b. eqb b 10) bs) at ∙ ap (λ m. take m bs ++ 10 ∷ drop (m + 1) bs) (sym e),
    )

pub first-append : (xs ys : List ℕ) → HasNoNewline xs → first_newline (xs ++ ys) ≡ length xs + first_newline ys
first-append xs ys h =
    prefix_len-append (λ b. not (eqb b 10)) xs ys
    ∙ ap (λ t. cond t (length xs + first_newline ys) (first_newline xs)) (eq-eqb (first_newline xs) (length xs) (first_of_none xs h))

pub first_is : (bs : List ℕ) (n : ℕ) → NoneBefore (Passes (is_byte 10) bs) 0 (length bs) n × Passes (is_byte 10) bs n → n ≡ first_newline bs
first_is bs n h = let low = h.0.high in sym (position_or_len_is (λ b. eqb b 10) bs n 0 (omega (arith, low))
    (λ k l. false_from_ne_true _ (h.0.before k (omega arith) l)) (λ l. h.1))

abbrev pub newline : ℕ → Bool
newline b = eqb b 10

-- a bit of the mask of some bytes
bit_of_mask : (bs : List ℕ) (k : ℕ) → bit_at (mask_l (map newline bs)) k ≡ cond (newline (get_or bs k 0)) 1 0
bit_of_mask bs k = bit_mask_l (map newline bs) k ∙ ap (λ b. cond b 1 0) (get_or-map newline bs k 0)

is_set : (b : Bool) → cond {A = ℕ} b 1 0 ≡ 1 → b ≡ true
is_set true h = refl
is_set false h = absurd (omega (arith, h))

is_not_set : (b : Bool) → cond {A = ℕ} b 1 0 ≡ 0 → b ≡ false
is_not_set true h = absurd (omega (arith, h))
is_not_set false h = refl

-- a byte that passes is one of the bytes
at_one : (bs : List ℕ) (k : ℕ) → newline (get_or bs k 0) ≡ true → k < length bs
at_one bs k h = by (ltb k (length bs)) refl
  where
    by : (b : Bool) → ltb k (length bs) ≡ b → k < length bs
    by true e = ltb-true k (length bs) e
    by false e = let past : get_or bs k 0 ≡ 0 = get_or_past bs k 0 (ltb-false k (length bs) e) in absurd (omega (arith, eqb-true _ 10 h, past))

-- the lowest bit of the mask of the first n bytes
pub first_near : (bs : List ℕ) (n bits : ℕ) → bits ≡ mask_l (map newline (take n bs)) → 0 < bits → bits < 2 ^ 64
    → (trailing_zeros w64 bits ≡ first_newline bs) × (trailing_zeros w64 bits ≤ length bs)
first_near bs n bits is some fits =
    let k = trailing_zeros w64 bits in
    let lowest = bit_at-trailing_zeros w64 bits some fits in
    let near : (i : ℕ) → bit_at bits i ≡ cond (newline (get_or (take n bs) i 0)) 1 0 = λ i. ap (λ m. bit_at m i) is ∙ bit_of_mask (take n bs) i in
    let passes = is_set _ (sym (near k) ∙ lowest.1) in
    let inside = at_one (take n bs) k passes in
    let short = length-take n bs in
    let within : k ≤ length bs = omega (arith, inside, short) in (
      sym (position_or_len_is newline bs k 0 within
          (λ i l. ap newline (sym (get_or-take n bs i 0 (omega (arith, inside, short, l)))) ∙ is_not_set _ (sym (near i) ∙ lowest.2 i l))
          (λ l. ap newline (sym (get_or-take n bs k 0 (omega (arith, inside, short)))) ∙ passes)),
      within,
    )

pub first_is_none : (bs : List ℕ) → Nowhere (Passes (is_byte 10) bs) 0 (length bs) → length bs ≡ first_newline bs
first_is_none bs h = sym (position_or_len_is (λ b. eqb b 10) bs (length bs) 0 (omega arith) (λ k l. false_from_ne_true _ (h k (omega arith) l))
    (λ l. absurd (omega (arith, l))))

-- the newline's offset in a range that begins at s: behind it, where it has none
pub first_moved : (range old : List ℕ) (s i : ℕ) → range ≡ old → HasNoNewline old → length old ≡ i → s + i ≡ s + first_newline range
first_moved range old s i e h l = omega (arith, ap first_newline e, first_of_none old h, l)

-- and among the bytes that came behind it
pub first_filled : (range old more : List ℕ) (s i n : ℕ) → range ≡ old ++ more → HasNoNewline old → length old ≡ i → n ≡ first_newline more
    → s + i + n ≡ s + first_newline range
first_filled range old more s i n e h l k = omega (arith, ap first_newline e, first-append old more h, l, k)

-- where no bit of the mask is set, no newline is among the first n bytes
pub first_far : (bs : List ℕ) (n bits : ℕ) → n ≤ length bs → bits ≡ mask_l (map newline (take n bs)) → bits ≡ 0
    → first_newline bs ≡ n + first_newline (drop n bs)
first_far bs n bits within is none =
    let clear : (k : ℕ) → newline (get_or (take n bs) k 0) ≡ false = λ k. is_not_set _
    (sym (bit_of_mask (take n bs) k) ∙ ap (λ m. bit_at m k) (sym is ∙ none) ∙ bit_at-zero k) in
    let no : HasNoNewline (take n bs) = λ k d l e. eqb-false _ 10 (clear k) (get_or_default (take n bs) k 0 d l ∙ e) in
    ap first_newline (sym (take-append-drop n bs)) ∙ first-append (take n bs) (drop n bs) no ∙ omega (arith, length-take n bs, within)

-- the first newline behind bytes that have none
pub first_on : (bs : List ℕ) (seen more : ℕ) → first_newline bs ≡ seen + first_newline (drop seen bs)
    → first_newline (drop seen bs) ≡ more + first_newline (drop more (drop seen bs)) → first_newline bs ≡ seen + more + first_newline (drop (seen + more) bs)
first_on bs seen more e f = omega (arith, e, f, ap first_newline (drop-drop more seen bs))

-- what stands behind the bytes that were seen, as a slice
pub behind : (bs : List ℕ) (seen : ℕ) → take (length bs - seen) (drop seen bs) ≡ drop seen bs
behind bs seen = take_all (length bs - seen) (drop seen bs) (omega (arith, length-drop seen bs))
