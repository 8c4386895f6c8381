use Rattle.std.proofs.Common.{◌≡◌, inl, inr, length, ◌*◌, ◌<◌, ap, sym, subst, ◌∙◌, arith}
use Rattle.std.proofs.lemmas.Bool.{cases_lt, false_from_ne_true}
use Rattle.edits.specs.Flooding.{changes_below, taken_at}
use Rattle.map_model.specs.Alike.{AreAlike}
use Rattle.edits.proofs.FilledAlike.{changes-alike}
use Rattle.edits.proofs.Fills.{changes-unmarked, marked-within}
use Rattle.edits.proofs.filled.changes_of.Goals as goal

pub loop-word-init : goal.loop-word-init
loop-word-init c =
    let g = c.args.ground.now in
    let s = c.args.spread.now in
    let some : 0 < g.width = omega (arith, c.requires.ground.column) in
    let first = c.min-word.result in
    c.in_ok-cells.ensures.items
    ∙ sym (changes-unmarked g s c.args.value 0 (64 * first) some (omega arith)
    (λ k l m. false_from_ne_true (taken_at s k) (λ t. omega (arith, m, c.min-word.ensures, c.requires.sound.from k t))))

pub returns-clause-cells : goal.returns-clause-cells
returns-clause-cells c =
    let g = c.args.ground.now in
    let s = c.args.spread.now in
    let some : 0 < g.width = omega (arith, c.requires.ground.column) in
    let all : c.loop-word.word ≡ s.end = omega (arith, c.min-word.ensures) in
    let size = length g.tiles.now in
    c.loop-word.invariant ∙ ap (λ n. changes_below g s c.args.value (64 * n)) all
    ∙ elim (cases_lt (64 * s.end) size) [
      | inl l ↦ sym (changes-unmarked g s c.args.value (64 * s.end) size some (omega arith)
          (λ k a b. false_from_ne_true (taken_at s k) (λ t. omega (arith, a, c.requires.sound.to k t))))
      | inr l ↦ changes-unmarked g s c.args.value size (64 * s.end) some l
          (λ k a b. false_from_ne_true (taken_at s k) (λ t. omega (arith, a, marked-within g s c.args.value c.requires.free some k t)))
    ]

pub returns-clause-alike : goal.returns-clause-alike
returns-clause-alike c =
    let g = c.args.ground.now in
    let some : 0 < g.width = omega (arith, c.requires.ground.column) in
    subst AreAlike (sym (returns-clause-cells c)) (changes-alike g c.args.spread.now c.args.value some c.requires.free (length g.tiles.now))
