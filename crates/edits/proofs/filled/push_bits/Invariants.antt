use Rattle.std.proofs.Common.{◌≡◌, ℕ, ◌+◌, ◌*◌, ◌≤◌}
use Rattle.edits.specs.Flooding.{changes_below}
use Rattle.edits.specs.Stretches.{IsRowStart}
use Rattle.edits.proofs.WordBits.{IsLeft}
use Rattle.edits.proofs.filled.push_bits.Given as goal

-- the changes of so many numbers of the word are added
abbrev pub invariant-loop-left : goal.invariant-loop-left
invariant-loop-left l =
    (n : ℕ) × IsLeft l.spread l.word n l.left × (l.cells.items ≡ changes_below l.ground l.spread l.value (64 * l.word + n))
    × IsRowStart l.ground.width l.row × (l.row.number ≤ 64 * l.word + n)

abbrev pub decreases-loop-left : goal.decreases-loop-left
decreases-loop-left l = l.left
