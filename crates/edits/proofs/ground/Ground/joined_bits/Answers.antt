use Rattle.std.proofs.Common.{◌≡◌, ◌≢◌, inl, inr, ℕ, suc, true, ◌+◌, ◌*◌, ◌%◌, ◌^◌, ◌<◌, w64, nat_eq, arith}
use Rattle.std.specs.Int.{bit_at, bit_not}
use Rattle.std.proofs.lemmas.Bool.{cases_lt}
use Rattle.std.proofs.lemmas.Nat.{le_or_l}
use Rattle.std.proofs.lemmas.Nat.Bits.{bit_at_above}
use Rattle.edits.specs.declared.ground.Ground.{Ground}
use Rattle.edits.specs.Flooding.{AreSideBySide, IsLed, free_at}
use Rattle.edits.proofs.Flooded.{IsLed-step}
use Rattle.edits.proofs.Marking.{other_no, other_yes, stepped, stepped-from, stepped-keeps, stepped-left, stepped-right}
use Rattle.edits.proofs.ground.Ground.joined_bits.Goals as goal

-- one step along the rows of a word, within a mask of free cells; the starts are the bits in which a row begins
module _ (g : Ground) (word next starts mask : ℕ) (some : 0 < g.width) (fits : starts < 2 ^ 64)
    (row_starts : (i : ℕ) → i < 64 → nat_eq (bit_at starts i) 1 ≡ nat_eq ((64 * word + i) % g.width) 0) where
  abbrev inner : ℕ
  inner = bit_not w64 starts

  abbrev first : ℕ
  first = 64 * word

  yes : (i : ℕ) → i < 64 → bit_at inner i ≡ 1 → (first + i) % g.width ≢ 0
  yes i l e = other_yes starts i ((first + i) % g.width) fits l (row_starts i l) e

  no : (i : ℕ) → i < 64 → (first + i) % g.width ≢ 0 → bit_at inner i ≡ 1
  no i l e = other_no starts i ((first + i) % g.width) fits l (row_starts i l) e

  -- it leads to free cells that are joined to the start
  step-led : ((i : ℕ) → i < 64 → bit_at mask i ≡ 1 → free_at g (first + i) ≡ true)
      → ((i : ℕ) → i < 64 → bit_at next i ≡ 1 → (bit_at mask i ≡ 1) × IsLed g (first + i))
      → (i : ℕ) → i < 64 → bit_at (stepped next inner mask) i ≡ 1 → (bit_at mask i ≡ 1) × IsLed g (first + i)
  step-led free led i l e = elim (stepped-from next inner mask i l e) [
    | inl own ↦ led i l own
    | inr (on, inl k) ↦
        (on, IsLed-step g some (first + k.0) (first + i) (led k.0 (omega (arith, k.1)) k.2).1 (inr (inr (inl (omega (arith, k.1), yes i l k.3)))) (free i l on))
    | inr (on, inr k) ↦ elim (cases_lt (suc i) 64) [
      | inl m ↦ (on, IsLed-step g some (first + suc i) (first + i) (led (suc i) m k.0).1 (inr (inr (inr (omega arith, yes (suc i) m k.1)))) (free i l on))
      | inr m ↦ absurd (omega (arith, k.1, bit_at_above inner 64 (suc i) (omega arith) m))
    ]
  ]

  -- and to each free cell that stands beside one of the cells
  step-closed : (i j : ℕ) → i < 64 → j < 64 → AreSideBySide g (first + i) (first + j) → bit_at next i ≡ 1 → bit_at mask j ≡ 1
      → bit_at (stepped next inner mask) j ≡ 1
  step-closed i j l m side e on = elim side [
    | inl s ↦ stepped-right next inner mask j m i (omega (arith, s.0)) e (no j m s.1) on
    | inr s ↦ stepped-left next inner mask j m i (omega (arith, s.0)) e (no i l s.1) on
  ]

pub first_bits-next-requires-clause-inner : goal.first_bits-next-requires-clause-inner
first_bits-next-requires-clause-inner c i l e =
    other_yes c.row_starts-inner.result i ((64 * c.args.word + i) % c.args.self.now.width) (omega arith) l (c.row_starts-inner.ensures i l) e

pub loop-next-preserved : goal.loop-next-preserved
loop-next-preserved c =
    let g = c.args.self.now in
    let starts = c.row_starts-inner.result in
    let inner : ℕ = bit_not w64 starts in
    let next = c.loop-next.next in
    let mask = c.args.mask in
    let inv = c.loop-next.invariant in
    let some : 0 < g.width = omega (arith, c.requires.ground.column) in
    let fits : starts < 2 ^ 64 = omega arith in
    record {
      seeds = λ i l e. stepped-keeps next inner mask i l (inv.seeds i l e);
      led = step-led g c.args.word next starts mask some fits c.row_starts-inner.ensures c.requires.free inv.led;
      closed = step-closed g c.args.word next starts mask some fits c.row_starts-inner.ensures;
      more = le_or_l next _;
    }
