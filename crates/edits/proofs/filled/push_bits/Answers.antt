use Rattle.std.proofs.Common.{◌≡◌, [], ◌∷◌, ◌++◌, ◌+◌, ◌-◌, ◌*◌, w64, add-zero, ap, sym, subst, ◌∙◌, arith}
use Rattle.std.specs.Int.{trailing_zeros}
use Rattle.edits.specs.Flooding.{changes_below}
use Rattle.edits.proofs.Fills.{changes-unmarked}
use Rattle.edits.proofs.WordBits.{IsLeft, IsLeft-next, bit-changes, bit-from, bit-within, bits-fewer, none-left, row-below}
use Rattle.edits.proofs.filled.push_bits.Goals as goal

pub loop-left-init : goal.loop-left-init
loop-left-init c = (
  0,
  record { within = omega arith; gone = λ i l. absurd (omega arith); rest = λ i l m. c.taken_bits-left.ensures i l },
  c.requires.so_far ∙ ap (changes_below c.args.ground.now c.args.spread.now c.args.value) (sym (add-zero (64 * c.args.word))),
  omega arith,
  omega arith,
)

pub row_of-row-requires-clause-from : goal.row_of-row-requires-clause-from
row_of-row-requires-clause-from c = let from = bit-from c.args.ground.now c.args.spread.now c.args.word c.loop-left.invariant.0 c.loop-left.left
    c.requires.ground c.requires.free c.loop-left.invariant.1 (omega arith) (omega arith) in omega (arith, from, c.loop-left.invariant.4)

pub row_of-row-requires-clause-within : goal.row_of-row-requires-clause-within
row_of-row-requires-clause-within c = bit-within c.args.ground.now c.args.spread.now c.args.word c.loop-left.invariant.0 c.loop-left.left c.requires.ground
    c.requires.free c.loop-left.invariant.1 (omega arith) (omega arith)

pub overflow_cast-row : goal.overflow_cast-row
overflow_cast-row c =
    let g = c.args.ground.now in
    let row = c.row_of-row.result in
    let own = c.row_of-row.ensures in
    let number = 64 * c.args.word + trailing_zeros w64 c.loop-left.left in
    let at : row.y * g.width + (number - row.number) ≡ number = omega (arith, own.row, own.from) in
    let below = row-below g c.requires.ground (number - row.number) row.y number own.to at
    (bit-within c.args.ground.now c.args.spread.now c.args.word c.loop-left.invariant.0 c.loop-left.left c.requires.ground c.requires.free
    c.loop-left.invariant.1 (omega arith) (omega arith)) in
    omega (arith, below, c.requires.ground.low)

pub loop-left-smaller : goal.loop-left-smaller
loop-left-smaller c = bits-fewer c.args.ground.now c.args.spread.now c.args.word c.loop-left.invariant.0 c.loop-left.left c.requires.ground c.requires.free
    c.loop-left.invariant.1 (omega arith) (omega arith)

pub loop-left-preserved : goal.loop-left-preserved
loop-left-preserved c =
    let g = c.args.ground.now in
    let row = c.row_of-row.result in
    let own = c.row_of-row.ensures in
    let bit = trailing_zeros w64 c.loop-left.left in
    let x = 64 * c.args.word + bit - row.number in
    let at : row.y * g.width + x ≡ 64 * c.args.word + bit = omega (arith, own.row, own.from) in (
      bit + 1,
      IsLeft-next c.args.ground.now c.args.spread.now c.args.word c.loop-left.invariant.0 c.loop-left.left c.requires.ground c.requires.free
          c.loop-left.invariant.1 (omega arith) (omega arith),
      c.in_ok-push.ensures.items ∙ ap (λ es. es ++ (record { x = x; y = row.y; before = g.value; after = c.args.value } ∷ [])) c.loop-left.invariant.2
          ∙ bit-changes c.args.ground.now c.args.spread.now c.args.word c.loop-left.invariant.0 c.loop-left.left c.requires.ground c.requires.free
          c.loop-left.invariant.1 (omega arith) (omega arith) c.args.value x row.y c.requires.other own.to at,
      own.row,
      omega (arith, own.from),
    )

pub returns : goal.returns
returns c =
    let n = c.loop-left.invariant.0 in
    let left = subst (IsLeft c.args.spread.now c.args.word n) c.loop-left-test.false c.loop-left.invariant.1 in
    c.loop-left.invariant.2
    ∙ sym (changes-unmarked c.args.ground.now c.args.spread.now c.args.value (64 * c.args.word + n) (64 * c.args.word + 64)
    (omega (arith, c.requires.ground.column)) (omega (arith, left.within))
    (none-left c.args.spread.now c.args.word n left))
