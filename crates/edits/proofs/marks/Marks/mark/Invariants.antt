use Rattle.std.proofs.Common.{◌≡◌, ℕ, ◌*◌, ◌<◌, ◌≤◌, ◌||◌, length}
use Rattle.edits.specs.Marks.{has_bit, is_between}
use Rattle.edits.proofs.marks.Marks.mark.Given as goal

abbrev pub invariant-loop-word : goal.invariant-loop-word
invariant-loop-word l =
    (length l.self.words.items ≡ length l.initial.self.words.items)
    × ((k : ℕ) → k < 64 * l.word → has_bit l.self.words.items k ≡ (has_bit l.initial.self.words.items k || is_between l.first l.end k))
    × ((k : ℕ) → 64 * l.word ≤ k → has_bit l.self.words.items k ≡ has_bit l.initial.self.words.items k)
