use Rattle.std.proofs.Common.{◌+◌, ◌*◌, ap, ◌∙◌, sym, arith}
use Rattle.std.specs.Int.{bit_at}
use Rattle.std.proofs.lemmas.Nat.Bits.{bit_at-zero}
use Rattle.edits.proofs.Flooded.{free_at-within}
use Rattle.edits.proofs.Spreading.{covers-closed}
use Rattle.edits.proofs.flood.Spread.reach.Goals as goal
use Rattle.edits.proofs.flood.Spread.reach.Goals.{else-word-words-via-then-word-words+else-seeds-word-ne0, else-word-words-via-else-word-words}

pub returns-else-word-words-clause-covers : goal.returns-else-word-words-clause-covers
returns-else-word-words-clause-covers c i l e free =
    let g = c.args.ground.now in
    elim c.else-word-words.branch [
      | else-word-words-via-then-word-words+else-seeds-word-ne0 w ↦
          covers-closed g c.args.self.now c.args.word w.word.result c.args.seeds w.word.ensures c.requires.sound.numbers
          (λ j m f. let clear = sym f ∙ ap (λ n. bit_at n j) w.if-seeds-word-ne0.false ∙ bit_at-zero j in absurd (omega (arith, clear))) i l e free
      | else-word-words-via-else-word-words w ↦
          let inside = free_at-within g (omega (arith, c.requires.ground.column)) (64 * c.args.word + i) free in
          absurd (omega (arith, inside, c.requires.sound.large, c.words.ensures, w.if-word-words.false))
    ]
