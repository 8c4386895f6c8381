use Rattle.std.proofs.Common.{◌≡◌, ◌-◌, [], true, false, is_some, refl, sym, ap, ◌∙◌, arith}
use mathlib.Core.List.{reverse}
use Rattle.std.specs.Option.{option_copied}
use Rattle.std.proofs.lemmas.Bool.Decides.{nat_tests}
use Rattle.std.proofs.lemmas.Iterator.Adapters.{position_from-zero}
use Rattle.map_model.specs.Groups.{holds}
use Rattle.map_model.specs.Ways.{LeadsFrom}
use Rattle.map_model.proofs.Walks.{holds-own, holds-no_groups, holds-no_group, holds-group}
use Rattle.map_model.proofs.Ways.{at_drop, leads-own, leads-group, way-held, way-pushed}
use Rattle.map_model.proofs.groups.+find_way.Goals.{then-layer-id, else-layer-id+in-Some-layers, else-layer-id+in_default-2, else-layer-id+in_default}
use Rattle.map_model.proofs.groups.+find_way.Goals as goal

pub loop-at-init : goal.loop-at-init
loop-at-init t c =
    rw c.iter-layer-items.ensures (
    record {
      next = tt;
      finite = tt;
      fits = omega arith;
      place = sym (position_from-zero (holds c.args.id c.args.groups) c.args.layers.now);
      left = refl;
      empty = c.requires.empty;
    }
    )

pub returns-then-leads-clause-way : goal.returns-then-leads-clause-way
returns-then-leads-clause-way t c done =
    let l = c.in-Some.layer.now in
    let own : (holds c.args.id c.args.groups l ≡ true) × LeadsFrom c.args.id c.args.groups (reverse c.if-layer-id.way'.items) l =
    elim c.if-layer-id.branch [
      | then-layer-id w ↦ rw w.way'-is
          (sym (holds-own c.args.id c.args.groups l w.if-layer-id.true), leads-own c.args.id c.args.groups l _ c.loop-at.invariant.empty w.if-layer-id.true)
      | else-layer-id+in-Some-layers w ↦
          let ks = w.in-Some-layers.inside.now in
          let group = sym w.layers.ensures ∙ ap option_copied w.in-Some-layers.is in
          let way = w.find_way.ensures.way (sym w.leads-is ∙ c.if-leads.true) in
          rw w.way'-is (
            sym (holds-group c.args.id c.args.groups l ks w.if-layer-id.false (λ z. omega (arith, z, w.if-groups-gt0.true)) group)
                ∙ way-held c.args.id (c.args.groups - 1) ks _ way,
            leads-group c.args.id c.args.groups l ks _ w.if-layer-id.false (λ z. omega (arith, z, w.if-groups-gt0.true)) group way,
          )
      | else-layer-id+in_default-2 w ↦ let bad : true ≡ false = sym c.if-leads.true ∙ w.leads-is in absurd cc
      | else-layer-id+in_default w ↦ let bad : true ≡ false = sym c.if-leads.true ∙ w.leads-is in absurd cc
    ] in
    let place = rw own.0 at (rw c.in-Some.ensures.steps at c.loop-at.invariant.place) in
    let here = at_drop c.args.layers.now c.loop-at.at l _ (rw c.in-Some.ensures.steps at c.loop-at.invariant.left) in
    rw c.push.ensures.items (way-pushed c.args.id c.args.groups c.args.layers.now l c.if-layer-id.way'.items c.loop-at.at (sym place) here.0 own.1)

pub loop-at-preserved : goal.loop-at-preserved
loop-at-preserved t c =
    let l = c.in-Some.layer.now in
    let passed : (holds c.args.id c.args.groups l ≡ false) × (c.if-layer-id.way'.items ≡ []) =
    elim c.if-layer-id.branch [
      | then-layer-id w ↦ absurd (grind (arith, nat_tests, w.if-layer-id.true, sym w.leads-is ∙ c.if-leads.false))
      | else-layer-id+in-Some-layers w ↦
          let none = w.find_way.ensures.none (sym w.leads-is ∙ c.if-leads.false) in
          rw w.way'-is (
            sym (holds-group c.args.id c.args.groups l w.in-Some-layers.inside.now w.if-layer-id.false (λ z. omega (arith, z, w.if-groups-gt0.true))
                (sym w.layers.ensures ∙ ap option_copied w.in-Some-layers.is)) ∙ ap is_some none.0,
            none.1,
          )
      | else-layer-id+in_default-2 w ↦ rw w.way'-is
          (sym (holds-no_groups c.args.id c.args.groups l w.if-layer-id.false (omega (arith, w.if-groups-gt0.false))), c.loop-at.invariant.empty)
      | else-layer-id+in_default w ↦ rw w.way'-is (
        sym (holds-no_group c.args.id c.args.groups l w.if-layer-id.false (sym w.layers.ensures ∙ ap option_copied w.in_default.is)),
        c.loop-at.invariant.empty,
      )
    ] in
    let from = rw c.in-Some.ensures.steps at c.loop-at.invariant.place in
    let fits = rw c.in-Some.ensures.steps at c.loop-at.invariant.fits in
    let here = at_drop c.args.layers.now c.loop-at.at l _ (rw c.in-Some.ensures.steps at c.loop-at.invariant.left) in
    record {
      next = tt;
      finite = tt;
      fits = omega (arith, fits);
      place = rw passed.0 at from;
      left = here.1;
      empty = passed.1;
    }
