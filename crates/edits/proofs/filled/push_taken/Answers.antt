use Rattle.std.proofs.Common.{◌≡◌, ◌++◌, ℕ, ◌+◌, ◌-◌, ◌*◌, ◌^◌, ◌<◌, length, true, nat_eq, add-zero, ap, sym, ◌∙◌, arith}
use Rattle.std.specs.Int.{bit_at}
use Rattle.std.proofs.lemmas.Bool.{eq-eqb}
use Rattle.std.proofs.lemmas.Nat.Bits.{bit_at_ones}
use Rattle.edits.specs.declared.flood.Spread.{Spread}
use Rattle.edits.specs.declared.ground.Ground.{Ground}
use Rattle.edits.specs.Flooding.{changes_below, free_in, is_taken, taken_at}
use Rattle.edits.specs.Stretches.{stretch_edits}
use Rattle.edits.proofs.Fills.{changes-row, marked-within}
use Rattle.edits.proofs.WordBits.{row-below}
use Rattle.edits.proofs.filled.push_taken.Goals as goal

-- all numbers of a word with all bits are taken
all-taken : (s : Spread) (word bits : ℕ) → ((i : ℕ) → i < 64 → nat_eq (bit_at bits i) 1 ≡ taken_at s (64 * word + i)) → bits ≡ 2 ^ 64 - 1 → (k : ℕ) → k < 64
    → taken_at s (64 * word + k) ≡ true
all-taken s word bits taken all k l = sym (taken k l) ∙ ap (λ n. nat_eq (bit_at n k) 1) all ∙ eq-eqb (bit_at (2 ^ 64 - 1) k) 1 (bit_at_ones 64 k l)

first-within : (g : Ground) (s : Spread) (word bits : ℕ) → 0 < g.width → ((q : ℕ × ℕ) → is_taken g s q ≡ true → free_in g q ≡ true)
    → ((i : ℕ) → i < 64 → nat_eq (bit_at bits i) 1 ≡ taken_at s (64 * word + i)) → bits ≡ 2 ^ 64 - 1 → 64 * word < length g.tiles.now
first-within g s word bits some free taken all =
    let at : 64 * word + 0 ≡ 64 * word = add-zero (64 * word) in
    marked-within g s 0 free some (64 * word) (ap (taken_at s) (sym at) ∙ all-taken s word bits taken all 0 (omega arith))

pub row_of-row-requires-clause-within : goal.row_of-row-requires-clause-within
row_of-row-requires-clause-within c =
    first-within c.args.ground.now c.args.spread.now c.args.word c.taken_bits.result
    (omega (arith, c.requires.ground.column)) c.requires.free c.taken_bits.ensures c.if-taken_bits.true

pub push_stretch-requires-clause-row : goal.push_stretch-requires-clause-row
push_stretch-requires-clause-row c =
    let g = c.args.ground.now in
    let row = c.row_of-row.result in
    let own = c.row_of-row.ensures in
    let number = 64 * c.args.word in
    let at : row.y * g.width + (number - row.number) ≡ number = omega (arith, own.row, own.from) in
    let within = first-within g c.args.spread.now c.args.word c.taken_bits.result
    (omega (arith, c.requires.ground.column)) c.requires.free c.taken_bits.ensures c.if-taken_bits.true in
    let below = row-below g c.requires.ground (number - row.number) row.y number own.to at within in
    omega (arith, below, c.requires.ground.low)

pub returns-then-first-ground : goal.returns-then-first-ground
returns-then-first-ground c =
    let g = c.args.ground.now in
    let s = c.args.spread.now in
    let value = c.args.value in
    let row = c.row_of-row.result in
    let own = c.row_of-row.ensures in
    let number = 64 * c.args.word in
    let x = number - row.number in
    let at : number ≡ row.y * g.width + x = omega (arith, own.row, own.from) in
    let end : row.y * g.width + (x + 64) ≡ number + 64 = omega (arith, at) in
    let size : x + 64 - x ≡ 64 = omega arith in
    let taken = λ (k : ℕ) (l : k < 64). let here : row.y * g.width + (x + k) ≡ number + k = omega (arith, at) in ap (taken_at s) here
    ∙ all-taken s c.args.word c.taken_bits.result c.taken_bits.ensures c.if-taken_bits.true k l in
    c.in_ok-push_stretch.ensures
    ∙ ap (λ n. c.args.cells.now.items ++ stretch_edits row.y x g.value value n) size
    ∙ ap (λ es. es ++ stretch_edits row.y x g.value value 64) (c.requires.so_far ∙ ap (changes_below g s value) at)
    ∙ sym (changes-row g s value row.y x 64 c.requires.free c.requires.other (omega arith) taken)
    ∙ ap (changes_below g s value) end
