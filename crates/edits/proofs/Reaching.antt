-- What a fill reaches from the cells of a batch.
use Rattle.std.proofs.Common.{◌≡◌, ◌⊎◌, inl, inr, ℕ, ◌+◌, ◌-◌, ◌*◌, ◌/◌, ◌%◌, ◌^◌, ◌<◌, ◌≤◌, List, [], length, Bool, true, false, not, ◌&&◌, ◌↔◌, refl, sym, ap}
use Rattle.std.proofs.Common.{◌∙◌, subst, arith}
use Rattle.std.specs.List.{slice_get}
use Rattle.std.specs.Int.{bit_at}
use Rattle.std.proofs.lemmas.Bool.{cases_lt, false≢true}
use Rattle.std.proofs.lemmas.Nat.{mod-mul-add, div-mul-add}
use Rattle.std.proofs.lemmas.Nat.Bits.{bit_at_above}
use Rattle.std.proofs.lemmas.Option.{slice_get_past}
use Rattle.std.proofs.Math.Nat.{mul-le-mul}
use Rattle.map_model.specs.Lists.{Each}
use Rattle.edits.specs.declared.ground.Ground.{Ground}
use Rattle.edits.specs.declared.flood.Batch.{Batch}
use Rattle.edits.specs.declared.flood.Spread.{Spread}
use Rattle.edits.specs.Covering.{lets_change}
use Rattle.edits.specs.Joining.{AreJoined, AreNeighbours, is_value}
use Rattle.edits.specs.Marks.{has_bit, is_marked, room}
use Rattle.edits.specs.Flooding.{AreAllowed, AreNear, InBatch, IsBatch, IsClosed, IsGround, IsLed, IsSound, Means, cell_of, free_at, free_in, is_taken}
use Rattle.edits.specs.Flooding.{start_of, taken_at}
use Rattle.edits.proofs.Flooded.{IsLed-step, free_at-read, free_in-at, free_in-column, is_taken-at, is_taken-column, neighbours-near}
use Rattle.edits.proofs.Joined.{AreJoined-self, along_path, start_free}
use Rattle.edits.proofs.Marking.{shl_high, shl_low, shr_bit}

-- ---- the cells of a batch
pub in_batch : (b : Batch) (i : ℕ) → i < 64 → bit_at b.bits i ≡ 1 → InBatch b (64 * b.word + i)
in_batch b i l e = (omega arith, let bit : (64 * b.word + i) % 64 ≡ i = omega arith in ap (bit_at b.bits) bit ∙ e)

-- what is free beside a cell of a batch is joined to the start
pub IsLed-batch : (g : Ground) (s : Spread) (b : Batch) → IsGround g → IsSound g s → IsBatch s b → (i r : ℕ) → i < 64 → bit_at b.bits i ≡ 1
    → AreNear g (64 * b.word + i) r → free_at g r ≡ true → IsLed g r
IsLed-batch g s b ground sound batch i r l e near free =
    IsLed-step g (omega (arith, ground.column)) (64 * b.word + i) r (sound.led (64 * b.word + i) (batch.taken (64 * b.word + i) (in_batch b i l e))) near free

-- the bits moved up, where they stay in the word, and where they go into the next
pub up_from : (bits by i : ℕ) → i < 64 → bit_at (bits * 2 ^ by % 2 ^ 64) i ≡ 1 → (by ≤ i) × (bit_at bits (i - by) ≡ 1)
up_from bits by i l e = elim (cases_lt i by) [
  | inl below ↦ absurd (omega (arith, e, shl_low bits by i l below))
  | inr from ↦ (from, sym (shl_high bits by i l from) ∙ e)
]

pub down_from : (bits by i : ℕ) → bits < 2 ^ 64 → bit_at (bits / 2 ^ by) i ≡ 1 → (by + i < 64) × (bit_at bits (by + i) ≡ 1)
down_from bits by i fits e =
    let set = sym (shr_bit bits by i) ∙ e in
    elim (cases_lt (by + i) 64) [
      | inl l ↦ (l, set)
      | inr past ↦ absurd (omega (arith, set, bit_at_above bits 64 (by + i) fits past))
    ]

-- a number that was reached
pub reached_at : (g : Ground) (s : Spread) (r p : ℕ) → r ≡ p → (free_at g r ≡ true → taken_at s r ≡ true) → free_at g p ≡ true → taken_at s p ≡ true
reached_at g s r p e h free = subst (λ n. taken_at s n ≡ true) e (h (subst (λ n. free_at g n ≡ true) (sym e) free))

-- ---- the start
pub IsLed-start : (g : Ground) → IsGround g → free_at g (g.start.1 * g.width + g.start.0) ≡ true → IsLed g (g.start.1 * g.width + g.start.0)
unfolding IsLed
IsLed-start g ground free =
    let x = g.start.0 in
    let y = g.start.1 in
    let cell : start_of g ≡ cell_of g (y * g.width + x) = λ i. (sym (mod-mul-add y g.width x ground.column) i, sym (div-mul-add y g.width x ground.column) i) in
    subst (AreJoined (free_in g) (start_of g)) cell (AreJoined-self (free_in g) (start_of g) (free_in-at g x y ground.column ∙ free))

-- ---- nothing was looked at
first_means : (g : Ground) (p : ℕ) (allowed : Bool) → (free_at g p ≡ (is_value (slice_get g.tiles.now p) g.value && allowed)) → Means g p allowed allowed
first_means g p true e = e ∙ and_true (is_value (slice_get g.tiles.now p) g.value)
  where
    and_true : (a : Bool) → (a && true) ≡ a
    and_true true = refl
    and_true false = refl
first_means g p false e = e ∙ and_false (is_value (slice_get g.tiles.now p) g.value)
  where
    and_false : (a : Bool) → (a && false) ≡ false
    and_false true = refl
    and_false false = refl

pub taken-first : (s : Spread) → s.taken.words.items ≡ s.open.words.items → (p : ℕ) → taken_at s p ≡ false
unfolding taken_at
taken-first s same p = ap (λ (ws : List ℕ). has_bit ws p && not (is_marked s.open p)) same ∙ no_both (is_marked s.open p)
  where
    no_both : (a : Bool) → (a && not a) ≡ false
    no_both true = refl
    no_both false = refl

pub numbers-first : (g : Ground) (s : Spread) → 0 < g.width → s.taken.words.items ≡ s.open.words.items → AreAllowed g s.open → (p : ℕ)
    → Means g p (is_marked s.open p) (is_marked s.taken p)
numbers-first g s some same allowed p =
    let twice : is_marked s.taken p ≡ is_marked s.open p = ap (λ (ws : List ℕ). has_bit ws p) same in
    rw twice (first_means g p (is_marked s.open p) (free_at-read g some p ∙ by_place (cases_lt p (length g.tiles.now))))
  where
    by_place : (p < length g.tiles.now) ⊎ (length g.tiles.now ≤ p)
        → (is_value (slice_get g.tiles.now p) g.value && lets_change g.selection.now (cell_of g p))
        ≡ (is_value (slice_get g.tiles.now p) g.value && is_marked s.open p)
    by_place (inl l) = ap (λ b. is_value (slice_get g.tiles.now p) g.value && b) (sym (allowed p l))
    by_place (inr l) =
        let none = ap (λ o. is_value o g.value) (slice_get_past g.tiles.now p l) in
        ap (λ b. b && lets_change g.selection.now (cell_of g p)) none ∙ sym (ap (λ b. b && is_marked s.open p) none)

pub IsSound-first : (g : Ground) (s : Spread) → IsGround g → room s.open ≡ 64 * (length g.tiles.now / 64 + 1) → s.taken.words.items ≡ s.open.words.items
    → AreAllowed g s.open
    → s.pending.items ≡ [] → 64 * s.first ≡ room s.open → s.end ≡ 0 → IsSound g s
IsSound-first g s ground rooms same allowed none first end =
    let no = λ (p : ℕ) (e : taken_at s p ≡ true). false≢true (sym (taken-first s same p) ∙ e) in
    let few = mul-le-mul ground.low ground.narrow in
    record {
      large = omega (arith, rooms);
      same_room = ap (λ (ws : List ℕ). 64 * length ws) same;
      small = omega (arith, rooms, few, ground.size);
      numbers = numbers-first g s (omega (arith, ground.column)) same allowed;
      led = λ p e. absurd (no p e);
      inner = λ p r e at side free. absurd (no p e);
      pending = subst (λ (bs : List Batch). Each (IsBatch s) bs) (sym none) tt;
      from = λ p e. absurd (no p e);
      to = λ p e. absurd (no p e);
      first = omega (arith, first);
      end = omega (arith, end);
    }

-- ---- nothing waits
pub is_taken-keeps : (g : Ground) (s t : Spread) → ((p : ℕ) → taken_at s p ≡ true → taken_at t p ≡ true) → (q : ℕ × ℕ) → is_taken g s q ≡ true
    → is_taken g t q ≡ true
is_taken-keeps g s t keeps q h =
    let column = is_taken-column g s q h in
    is_taken-at g t q.0 q.1 column ∙ keeps (q.1 * g.width + q.0) (sym (is_taken-at g s q.0 q.1 column) ∙ h)

-- what is taken is joined to the start, and what is joined is taken
pub taken-joined : (g : Ground) (s : Spread) → IsSound g s → IsClosed g s [] → (free_in g (start_of g) ≡ true → is_taken g s (start_of g) ≡ true)
    → (q : ℕ × ℕ) → (is_taken g s q ≡ true) ↔ AreJoined (free_in g) (start_of g) q
unfolding IsLed
taken-joined g s sound closed start q = (there, back)
  where
    there : is_taken g s q ≡ true → AreJoined (free_in g) (start_of g) q
    there h =
        let column = is_taken-column g s q h in
        let cell : cell_of g (q.1 * g.width + q.0) ≡ q = λ i. (mod-mul-add q.1 g.width q.0 column i, div-mul-add q.1 g.width q.0 column i) in
        subst (AreJoined (free_in g) (start_of g)) cell (sound.led (q.1 * g.width + q.0) (sym (is_taken-at g s q.0 q.1 column) ∙ h))

    none : (p r : ℕ) → (taken_at s r ≡ true) ⊎ ⊥ → taken_at s r ≡ true
    none p r (inl h) = h
    none p r (inr h) = absurd h

    step : (p r : ℕ × ℕ) → is_taken g s p ≡ true → AreNeighbours p r → free_in g r ≡ true → is_taken g s r ≡ true
    step p r h n f =
        let column = is_taken-column g s p h in
        let next = free_in-column g r f in
        is_taken-at g s r.0 r.1 next
        ∙ none (p.1 * g.width + p.0) (r.1 * g.width + r.0) (closed (p.1 * g.width + p.0) (r.1 * g.width + r.0) (sym (is_taken-at g s p.0 p.1 column) ∙ h)
        (neighbours-near g p r column next n)
        (sym (free_in-at g r.0 r.1 next) ∙ f))

    back : AreJoined (free_in g) (start_of g) q → is_taken g s q ≡ true
    back j = along_path (free_in g) (λ r. is_taken g s r ≡ true) step (start_of g) j.0 q j.1 (start (start_free (free_in g) (start_of g) q j))
