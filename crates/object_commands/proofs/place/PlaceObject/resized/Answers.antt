use Rattle.std.proofs.Common.{◌≡◌, false, ℤ, pos, Some, sym, ap, ◌∙◌, refl, rules, w32}
use Rattle.std.proofs.lemmas.Int.{to_z-of_z}
use Rattle.map_model.specs.Objects.{object_at, object_place}
use Rattle.map_model.specs.WellFormed.{IsWellFormed}
use Rattle.edits.specs.ObjectEdits.{is_object_size, resized}
use Rattle.object_commands.specs.declared.place.PlacingKind.TheVariants.{Resize}
use Rattle.object_commands.proofs.Placements.{given_by, resized-IsPlacing, place_object_made}
use Rattle.object_commands.proofs.place.PlaceObject.resized.Goals as goal

pub returns-clause-command : goal.returns-clause-command
returns-clause-command c =
    let d = c.args.document.now in
    let place = c.in-Some.place in
    let o = c.in-Some.found.now in
    let sizes : ℤ × ℤ = (c.in-Some-sizes.width, c.in-Some-sizes.height) in
    let asked : ℤ × ℤ = (pos c.args.width, pos c.args.height) in
    let given = given_by (is_object_size c.args.width c.args.height) sizes asked c.in-Some-sizes.ensures in
    let width = to_z-of_z w32 c.in-Some-sizes.width (search rules) ∙ ap (λ (s : ℤ × ℤ). s.0) given.1 in
    let height = to_z-of_z w32 c.in-Some-sizes.height (search rules) ∙ ap (λ (s : ℤ × ℤ). s.1) given.1 in
    let there : object_place d.map c.args.object ≡ Some place = rw c.map.ensures at (sym c.in-Some.ensures.place) in
    let found : object_at d.map place ≡ Some o = rw c.map.ensures at c.in-Some.ensures.object in
    let well_formed : IsWellFormed d.map = rw c.map.ensures at c.in-Some.ensures.well_formed in
    rw (c.new.ensures, c.new-2.ensures, width, height) (
    place_object_made d Resize c.args.object false place o (resized c.args.width c.args.height) c.eq.result refl there found well_formed
    (resized-IsPlacing c.args.width c.args.height given.0) (rw (width, height) at c.eq.ensures)
    (rw (there, given.0) refl)
    )
