use Rattle.std.proofs.Common.{◌≡◌, inl, inr, ◌/◌, ◌%◌, true, subst, sym, ap, ◌∙◌, arith}
use Rattle.std.proofs.lemmas.Bool.{cases_eq}
use Rattle.edits.specs.Flooding.{InBatch, free_at, taken_at}
use Rattle.edits.proofs.Spreading.{Spreads-then}
use Rattle.edits.proofs.flood.Spread.take_around.Goals as goal

pub returns-clause-covers : goal.returns-clause-covers
returns-clause-covers c p r b near free =
    let g = c.args.ground.now in
    let w = g.width in
    let above = c.in_ok-take_above.ensures in
    let below = c.in_ok-take_below.ensures in
    let left = c.in_ok-take_left.ensures in
    let right = c.in_ok-take_right.ensures in
    elim near [
      | inl e ↦ right.spreads.keeps r (left.spreads.keeps r
          (subst (λ n. taken_at c.take_below.new.self n ≡ true) (sym e) (below.covers p b (subst (λ n. free_at g n ≡ true) e free))))
      | inr (inl e) ↦ right.spreads.keeps r (left.spreads.keeps r (below.spreads.keeps r (above.covers r (subst (InBatch c.args.from) e b) free)))
      | inr (inr side) ↦ elim (cases_eq (p / 64) (r / 64)) [
        | inl same ↦
            let own = right.spreads.keeps p (left.spreads.keeps p (below.spreads.keeps p (above.spreads.keeps p (c.requires.batch.taken p b)))) in
            right.sound.inner p r own same side free
        | inr other ↦ elim side [
          | inl e ↦
              subst (λ n. taken_at c.take_right.new.self n ≡ true) (sym e.0)
              (right.covers p b (omega (arith, e.0)) (λ h. e.1 (ap (λ n. n % w) e.0 ∙ h)) (subst (λ n. free_at g n ≡ true) e.0 free))
          | inr e ↦
              right.spreads.keeps r (left.covers r (subst (InBatch c.args.from) e.0 b) (omega (arith, e.0)) (λ h. e.1 (ap (λ n. n % w) e.0 ∙ h)) free)
        ]
      ]
    ]

pub returns-clause-spreads : goal.returns-clause-spreads
returns-clause-spreads c =
    let g = c.args.ground.now in
    Spreads-then g c.args.self.now c.take_left.new.self c.take_right.new.self
    (Spreads-then g c.args.self.now c.take_below.new.self c.take_left.new.self
    (Spreads-then g c.args.self.now c.take_above.new.self c.take_below.new.self c.in_ok-take_above.ensures.spreads c.in_ok-take_below.ensures.spreads)
    c.in_ok-take_left.ensures.spreads)
    c.in_ok-take_right.ensures.spreads
