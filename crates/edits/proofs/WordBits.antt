-- The taken cells of a word, from the lowest.
use Rattle.std.proofs.Common.{◌≡◌, ◌≢◌, inl, inr, ℕ, suc, [], ◌∷◌, ◌+◌, ◌-◌, ◌*◌, ◌%◌, ◌^◌, ◌<◌, ◌≤◌, ◌++◌, length, true, false, nat_eq, w64, sym, ap, ◌∙◌}
use Rattle.std.proofs.Common.{arith}
use Rattle.std.specs.Prelude.{bit_and}
use Rattle.std.specs.Int.{bit_at, bit_not, trailing_zeros}
use Rattle.std.proofs.lemmas.Bool.{cases_eq, cases_lt, eq-eqb}
use Rattle.std.proofs.lemmas.Nat.{div_below}
use Rattle.std.proofs.lemmas.Nat.Bits.{bit_at-trailing_zeros, bit_at-zero}
use Rattle.edits.specs.declared.flood.Spread.{Spread}
use Rattle.edits.specs.declared.ground.Ground.{Ground}
use Rattle.edits.specs.Flooding.{IsGround, changes_below, free_in, is_taken, taken_at}
use Rattle.edits.proofs.Flooded.{column_and_row}
use Rattle.edits.proofs.Fills.{changes-marked, changes-unmarked, marked-within}
use Rattle.edits.proofs.Marking.{cleared}

-- the row of a number of the layer
pub row-below : (g : Ground) → IsGround g → (x y number : ℕ) → x < g.width → y * g.width + x ≡ number → number < length g.tiles.now → y < g.height
row-below g ground x y number column at within =
    let row = (column_and_row g.width number y x (sym at) column).1 in
    let below = div_below number g.width g.height (omega (arith, ground.column)) (omega (arith, within, ground.size)) in
    omega (arith, row, below)

-- so many numbers of a word are done, and bit i of what is left stands for its number i
pub record IsLeft (s : Spread) (word n left : ℕ) : Type 0 where
  pub within : n ≤ 64
  pub gone : (i : ℕ) → i < n → bit_at left i ≡ 0
  pub rest : (i : ℕ) → i < 64 → n ≤ i → nat_eq (bit_at left i) 1 ≡ taken_at s (64 * word + i)

-- where nothing is left, no more numbers are taken
pub none-left : (s : Spread) (word n : ℕ) → IsLeft s word n 0 → (k : ℕ) → 64 * word + n ≤ k → k < 64 * word + 64 → taken_at s k ≡ false
none-left s word n h k from to =
    let i = k - 64 * word in
    let at : 64 * word + i ≡ k = omega arith in
    ap (taken_at s) (sym at) ∙ sym (h.rest i (omega arith) (omega arith)) ∙ ap (λ b. nat_eq b 1) (bit_at-zero i)

module _ (g : Ground) (s : Spread) (word n left : ℕ) (ground : IsGround g) (free : (q : ℕ × ℕ) → is_taken g s q ≡ true → free_in g q ≡ true)
    (h : IsLeft s word n left)
    (some : 0 < left) (fits : left < 2 ^ 64) where
  abbrev bit : ℕ
  bit = trailing_zeros w64 left

  pub bit-below : bit < 64
  bit-below = (bit_at-trailing_zeros w64 left some fits).0

  bit-set : bit_at left bit ≡ 1
  bit-set = (bit_at-trailing_zeros w64 left some fits).1

  pub bit-from : n ≤ bit
  bit-from = elim (cases_lt bit n) [ inr l ↦ l | inl l ↦ absurd (omega (arith, bit-set, h.gone bit l)) ]

  bit-taken : taken_at s (64 * word + bit) ≡ true
  bit-taken = sym (h.rest bit bit-below bit-from) ∙ eq-eqb (bit_at left bit) 1 bit-set

  pub bit-within : 64 * word + bit < length g.tiles.now
  bit-within = marked-within g s 0 free (omega (arith, ground.column)) (64 * word + bit) bit-taken

  skipped : (k : ℕ) → 64 * word + n ≤ k → k < 64 * word + bit → taken_at s k ≡ false
  skipped k l m =
      let i = k - 64 * word in
      let at : 64 * word + i ≡ k = omega arith in
      let clear = (bit_at-trailing_zeros w64 left some fits).2 i (omega arith) in
      ap (taken_at s) (sym at) ∙ sym (h.rest i (omega (arith, m, bit-below)) (omega arith)) ∙ ap (λ b. nat_eq b 1) clear

  -- the lowest number that is left is that of the next change
  pub bit-changes : (value x y : ℕ) → g.value ≢ value → x < g.width → y * g.width + x ≡ 64 * word + bit
      → changes_below g s value (64 * word + n) ++ record { x = x; y = y; before = g.value; after = value } ∷ []
      ≡ changes_below g s value (64 * word + (bit + 1))
  bit-changes value x y other column at =
      let next : y * g.width + suc x ≡ 64 * word + (bit + 1) = omega (arith, at) in
      ap (λ es. es ++ record { x = x; y = y; before = g.value; after = value } ∷ []) (
      sym (changes-unmarked g s value (64 * word + n) (64 * word + bit) (omega (arith, ground.column)) (omega (arith, bit-from)) skipped)
      ∙ ap (changes_below g s value) (sym at)
      )
      ∙ sym (changes-marked g s value y x free other column (ap (taken_at s) at ∙ bit-taken))
      ∙ ap (changes_below g s value) next

  pub IsLeft-next : IsLeft s word (bit + 1) (bit_and left (bit_not w64 (1 * 2 ^ bit % 2 ^ 64)))
  IsLeft-next =
      let less = cleared left some fits in
      let lowest = bit_at-trailing_zeros w64 left some fits in record {
        within = omega (arith, bit-below);
        gone = λ i l. elim (cases_eq i bit) [
          | inl here ↦ ap (bit_at _) here ∙ less.1
          | inr other ↦ less.2 i (omega (arith, l, bit-below)) other ∙ lowest.2 i (omega (arith, l, other))
        ];
        rest = λ i l m. ap (λ b. nat_eq b 1) (less.2 i l (λ e. omega (arith, e, m))) ∙ h.rest i l (omega (arith, bit-from, m));
      }

  pub bits-fewer : bit_and left (bit_not w64 (1 * 2 ^ bit % 2 ^ 64)) < left
  bits-fewer = (cleared left some fits).0
