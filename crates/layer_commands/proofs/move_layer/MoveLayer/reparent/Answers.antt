use Rattle.std.proofs.Common.{◌≡◌, Some, Ok, true, false, arith, sym, ap, ◌∙◌}
use Rattle.std.specs.Option.{option_copied}
use Rattle.map_model.specs.Layers.{layer_at, layer_place}
use Rattle.map_model.specs.Moving.{layer_fits, tier_in}
use Rattle.edits.specs.LayerEdits.{siblings_or_fault}
use Rattle.layer_commands.proofs.Moving.{above-refused, deep-refused, inside-refused, reparent_made}
use Rattle.layer_commands.proofs.move_layer.MoveLayer.reparent.Goals as goal

pub returns-then-is_parent_in-clause-refusal : goal.returns-then-is_parent_in-clause-refusal
returns-then-is_parent_in-clause-refusal c =
    let d = c.args.document.now in
    let l = c.in-Some-layer_at.moved.now in
    let ls = c.in_ok-layers.layers.now in
    let place : layer_place d.map c.args.layer ≡ Some c.in-Some.from = rw c.map-map.ensures at (sym c.layer_place.ensures.place ∙ c.in-Some.is) in
    let there : layer_at d.map c.in-Some.from ≡ Some l = rw c.map-map.ensures at (sym c.layer_at.ensures ∙ ap option_copied c.in-Some-layer_at.is) in
    let are : siblings_or_fault d.map c.args.parent ≡ Ok ls = rw c.map-map.ensures at c.in_ok-layers.ensures in
    inside-refused d c.args.layer c.args.place c.args.parent c.in-Some.from l ls place there are (sym c.is_parent_in.ensures ∙ c.if-is_parent_in.true)

pub returns-then-at-others-clause-refusal : goal.returns-then-at-others-clause-refusal
returns-then-at-others-clause-refusal c =
    let d = c.args.document.now in
    let l = c.in-Some-layer_at.moved.now in
    let ls = c.in_ok-layers.layers.now in
    let place : layer_place d.map c.args.layer ≡ Some c.in-Some.from = rw c.map-map.ensures at (sym c.layer_place.ensures.place ∙ c.in-Some.is) in
    let there : layer_at d.map c.in-Some.from ≡ Some l = rw c.map-map.ensures at (sym c.layer_at.ensures ∙ ap option_copied c.in-Some-layer_at.is) in
    let are : siblings_or_fault d.map c.args.parent ≡ Ok ls = rw c.map-map.ensures at c.in_ok-layers.ensures in
    let count = c.other_layers-others.ensures in
    above-refused d c.args.layer c.args.place c.args.parent c.in-Some.from l ls place there are (sym c.is_parent_in.ensures ∙ c.if-is_parent_in.false)
    (omega (arith, count, c.if-at-others.true))

pub returns-then-not-layer_fits-clause-refusal : goal.returns-then-not-layer_fits-clause-refusal
returns-then-not-layer_fits-clause-refusal c =
    let d = c.args.document.now in
    let l = c.in-Some-layer_at.moved.now in
    let ls = c.in_ok-layers.layers.now in
    let place : layer_place d.map c.args.layer ≡ Some c.in-Some.from = rw c.map-map.ensures at (sym c.layer_place.ensures.place ∙ c.in-Some.is) in
    let there : layer_at d.map c.in-Some.from ≡ Some l = rw c.map-map.ensures at (sym c.layer_at.ensures ∙ ap option_copied c.in-Some-layer_at.is) in
    let are : siblings_or_fault d.map c.args.parent ≡ Ok ls = rw c.map-map.ensures at c.in_ok-layers.ensures in
    let count = c.other_layers-others.ensures in
    let deep : layer_fits (tier_in d.map c.args.parent) l ≡ false = rw c.map-map.ensures at (sym c.layer_fits.ensures ∙ c.if-not-layer_fits.true) in
    deep-refused d c.args.layer c.args.place c.args.parent c.in-Some.from l ls place there are (sym c.is_parent_in.ensures ∙ c.if-is_parent_in.false)
    (omega (arith, count, c.if-at-others.false)) deep

pub returns-clause-command : goal.returns-clause-command
returns-clause-command c =
    let d = c.args.document.now in
    let l = c.in-Some-layer_at.moved.now in
    let ls = c.in_ok-layers.layers.now in
    let place : layer_place d.map c.args.layer ≡ Some c.in-Some.from = rw c.map-map.ensures at (sym c.layer_place.ensures.place ∙ c.in-Some.is) in
    let there : layer_at d.map c.in-Some.from ≡ Some l = rw c.map-map.ensures at (sym c.layer_at.ensures ∙ ap option_copied c.in-Some-layer_at.is) in
    let are : siblings_or_fault d.map c.args.parent ≡ Ok ls = rw c.map-map.ensures at c.in_ok-layers.ensures in
    let count = c.other_layers-others.ensures in
    let fits : layer_fits (tier_in d.map c.args.parent) l ≡ true = rw c.map-map.ensures at (sym c.layer_fits.ensures ∙ c.if-not-layer_fits.false) in
    reparent_made d c.args.layer c.args.place c.args.parent c.in-Some.from l ls place there are (sym c.is_parent_in.ensures ∙ c.if-is_parent_in.false)
    (omega (arith, count, c.if-at-others.false)) fits (rw c.map-map.ensures at c.layer_place.ensures.well_formed)
