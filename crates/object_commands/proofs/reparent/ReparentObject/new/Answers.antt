use Rattle.std.proofs.Common.{◌≡◌, Some, Ok, true, false, arith, sym, ◌∙◌}
use Rattle.map_model.specs.Keeping.{object_tier}
use Rattle.map_model.specs.Lookups.{layer_of}
use Rattle.map_model.specs.Moving.{object_fits}
use Rattle.map_model.specs.Objects.{object_at, object_place}
use Rattle.map_model.specs.Properties.{tier_of}
use Rattle.edits.specs.ObjectEdits.{objects_or_fault}
use Rattle.object_commands.proofs.Reparenting.{above-refused, deep-refused, full-refused, reparent_made}
use Rattle.object_commands.proofs.reparent.ReparentObject.new.Goals as goal

pub returns-then-at-others-clause-refusal : goal.returns-then-at-others-clause-refusal
returns-then-at-others-clause-refusal c =
    let d = c.args.document.now in
    let o = c.in-Some.moved.now in
    let os = c.in_ok-objects.objects.now in
    let place : object_place d.map c.args.object ≡ Some c.in-Some.from = rw c.map-map.ensures at (sym c.in-Some.ensures.place) in
    let there : object_at d.map c.in-Some.from ≡ Some o = rw c.map-map.ensures at c.in-Some.ensures.object in
    let are : objects_or_fault (layer_of d.map c.args.layer) ≡ Ok os = rw c.map-map.ensures at c.in_ok-objects.ensures in
    let count = c.other_objects-others.ensures in
    above-refused d c.args.object c.args.layer c.args.place c.in-Some.from o os place there are (omega (arith, count, c.if-at-others.true))

pub returns-then-others-ge-MAX_OBJECTS-clause-refusal : goal.returns-then-others-ge-MAX_OBJECTS-clause-refusal
returns-then-others-ge-MAX_OBJECTS-clause-refusal c =
    let d = c.args.document.now in
    let o = c.in-Some.moved.now in
    let os = c.in_ok-objects.objects.now in
    let place : object_place d.map c.args.object ≡ Some c.in-Some.from = rw c.map-map.ensures at (sym c.in-Some.ensures.place) in
    let there : object_at d.map c.in-Some.from ≡ Some o = rw c.map-map.ensures at c.in-Some.ensures.object in
    let are : objects_or_fault (layer_of d.map c.args.layer) ≡ Ok os = rw c.map-map.ensures at c.in_ok-objects.ensures in
    let count = c.other_objects-others.ensures in
    full-refused d c.args.object c.args.layer c.args.place c.in-Some.from o os place there are (omega (arith, count, c.if-at-others.false))
    (omega (arith, count, c.if-others-ge-MAX_OBJECTS.true))

pub returns-then-not-object_fits-clause-refusal : goal.returns-then-not-object_fits-clause-refusal
returns-then-not-object_fits-clause-refusal c =
    let d = c.args.document.now in
    let o = c.in-Some.moved.now in
    let os = c.in_ok-objects.objects.now in
    let place : object_place d.map c.args.object ≡ Some c.in-Some.from = rw c.map-map.ensures at (sym c.in-Some.ensures.place) in
    let there : object_at d.map c.in-Some.from ≡ Some o = rw c.map-map.ensures at c.in-Some.ensures.object in
    let are : objects_or_fault (layer_of d.map c.args.layer) ≡ Ok os = rw c.map-map.ensures at c.in_ok-objects.ensures in
    let count = c.other_objects-others.ensures in
    let deep : object_fits (object_tier (tier_of d.map c.args.layer)) o ≡ false =
    rw c.map-map.ensures at (sym c.object_fits.ensures ∙ c.if-not-object_fits.true) in
    deep-refused d c.args.object c.args.layer c.args.place c.in-Some.from o os place there are (omega (arith, count, c.if-at-others.false))
    (omega (arith, count, c.if-others-ge-MAX_OBJECTS.false)) deep

pub returns-clause-command : goal.returns-clause-command
returns-clause-command c =
    let d = c.args.document.now in
    let o = c.in-Some.moved.now in
    let os = c.in_ok-objects.objects.now in
    let place : object_place d.map c.args.object ≡ Some c.in-Some.from = rw c.map-map.ensures at (sym c.in-Some.ensures.place) in
    let there : object_at d.map c.in-Some.from ≡ Some o = rw c.map-map.ensures at c.in-Some.ensures.object in
    let are : objects_or_fault (layer_of d.map c.args.layer) ≡ Ok os = rw c.map-map.ensures at c.in_ok-objects.ensures in
    let count = c.other_objects-others.ensures in
    let fits : object_fits (object_tier (tier_of d.map c.args.layer)) o ≡ true =
    rw c.map-map.ensures at (sym c.object_fits.ensures ∙ c.if-not-object_fits.false) in
    reparent_made d c.args.object c.args.layer c.args.place c.in-Some.from o os place there are (omega (arith, count, c.if-at-others.false))
    (omega (arith, count, c.if-others-ge-MAX_OBJECTS.false)) fits (rw c.map-map.ensures at c.in-Some.ensures.well_formed)
