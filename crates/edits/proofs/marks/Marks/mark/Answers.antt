use Rattle.std.proofs.Common.{◌≡◌, ◌≢◌, ◌⊎◌, inl, inr, ℕ, ◌-◌, ◌*◌, ◌/◌, ◌%◌, ◌<◌, ◌||◌, length, set, ap, ◌∙◌, sym, arith}
use Rattle.std.proofs.Math.ListN.{length-set}
use Rattle.std.specs.Prelude.{bit_or}
use Rattle.std.proofs.lemmas.Bool.{cases_lt}
use Rattle.std.proofs.lemmas.List.{get_or_read}
use Rattle.edits.specs.Marks.{has_bit, is_between}
use Rattle.edits.proofs.Marking.{has_bit-set_or, has_bit-set_other, between-word}
use Rattle.edits.proofs.marks.Marks.mark.Goals as goal
use Rattle.edits.proofs.marks.Marks.mark.Goals.{then-word-first, else-word-first, then-word-last, else-word-last}

pub loop-word-preserved : goal.loop-word-preserved
loop-word-preserved c =
    let old = c.args.self.now.words.items in
    let words = c.loop-word.self.words.items in
    let at = c.loop-word.word in
    let bits = c.bits_between.result in
    let first = c.args.first in
    let last = c.args.end - 1 in
    let inside : at < length words = omega (arith, c.loop-word.invariant.0) in
    let low : ((at ≡ first / 64) × (c.if-word-first.low ≡ first % 64)) ⊎ ((at ≢ first / 64) × (c.if-word-first.low ≡ 0)) =
    elim c.if-word-first.branch [ then-word-first w ↦ inl (w.if-word-first.true, w.low-is) | else-word-first w ↦ inr (w.if-word-first.false, w.low-is) ] in
    let high : ((at ≡ last / 64) × (c.if-word-last.high ≡ last % 64)) ⊎ ((at ≢ last / 64) × (c.if-word-last.high ≡ 63)) =
    elim c.if-word-last.branch [ then-word-last w ↦ inl (w.if-word-last.true, w.high-is) | else-word-last w ↦ inr (w.if-word-last.false, w.high-is) ] in
    let word = get_or_read words at c.index_mut.result.now inside c.index_mut.ensures.value 0 in
    let unchanged = λ (k : ℕ) (apart : at ≢ k / 64). has_bit-set_other words at (bit_or c.index_mut.result.now bits) k apart in
    let here = λ (k : ℕ) (e : at ≡ k / 64).
    ap (λ v. has_bit (set words at (bit_or v bits)) k) word
    ∙ has_bit-set_or words at bits k inside e
    ∙ ap (λ b. has_bit words k || b) (c.bits_between.ensures (k % 64) (omega arith)
    ∙ between-word first c.args.end at c.if-word-first.low c.if-word-last.high k (omega arith) (omega arith) (omega arith) low high (sym e)) in (
      length-set words at (bit_or c.index_mut.result.now bits) ∙ c.loop-word.invariant.0,
      λ k l. elim (cases_lt k (64 * at)) [
        | inl below ↦ unchanged k (omega arith) ∙ c.loop-word.invariant.1 k below
        | inr from ↦ here k (omega arith) ∙ ap (λ b. b || is_between first c.args.end k) (c.loop-word.invariant.2 k from)
      ],
      λ k l. unchanged k (omega arith) ∙ c.loop-word.invariant.2 k (omega arith),
    )
