use Rattle.std.proofs.Common.{◌≡◌, suc, ◌+◌, false, sym, ap, ◌∙◌, arith}
use Rattle.std.specs.List.{slice_get}
use Rattle.std.specs.Str.{bytes_eq}
use Rattle.std.proofs.lemmas.Iterator.Adapters.{position_from-zero}
use Rattle.map_model.specs.Properties.{has_name}
use Rattle.map_model.proofs.properties.find_property.Goals as goal

pub loop-at-init : goal.loop-at-init
loop-at-init c =
    let ps = c.args.properties.now in
    rw c.iter-property-items.ensures (
    record {
      next = tt;
      finite = tt;
      fits = omega arith;
      place = sym (position_from-zero (has_name c.args.name.now) ps);
      items = λ k. let same : k ≡ 0 + k = omega arith in ap (slice_get ps) same;
    }
    )

pub returns-then-eq-clause-property : goal.returns-then-eq-clause-property
returns-then-eq-clause-property c =
    let here : c.loop-at.at ≡ c.loop-at.at + 0 = omega arith in
    ap (slice_get c.args.properties.now) here ∙ sym (rw c.in-Some.ensures.steps at c.loop-at.invariant.items 0)

pub loop-at-preserved : goal.loop-at-preserved
loop-at-preserved c =
    let passed : bytes_eq c.in-Some.property.now.name c.args.name.now ≡ false = rw (← c.as_str.ensures) (sym c.if-eq.ensures) in
    let from = rw c.in-Some.ensures.steps at c.loop-at.invariant.place in
    let fits = rw c.in-Some.ensures.steps at c.loop-at.invariant.fits in
    record {
      next = tt;
      finite = tt;
      fits = omega (arith, fits);
      place = rw passed at from;
      items = λ k.
          let behind : c.loop-at.at + suc k ≡ c.loop-at.at + 1 + k = omega arith in
          (rw c.in-Some.ensures.steps at c.loop-at.invariant.items (suc k)) ∙ ap (slice_get c.args.properties.now) behind;
    }
