use Rattle.std.proofs.Common.{◌≡◌, Some, sym, refl, rules, w32}
use Rattle.std.proofs.lemmas.Int.{to_z-of_z}
use Rattle.map_model.specs.Objects.{object_at, object_place}
use Rattle.map_model.specs.WellFormed.{IsWellFormed}
use Rattle.edits.specs.ObjectEdits.{moved}
use Rattle.object_commands.specs.declared.place.PlacingKind.TheVariants.{Move}
use Rattle.object_commands.proofs.Placements.{moved-IsPlacing, place_object_made}
use Rattle.object_commands.proofs.place.PlaceObject.moved.Goals as goal

pub returns-clause-command : goal.returns-clause-command
returns-clause-command c =
    let d = c.args.document.now in
    let place = c.in-Some.place in
    let o = c.in-Some.found.now in
    let x = to_z-of_z w32 c.args.x (search rules) in
    let y = to_z-of_z w32 c.args.y (search rules) in
    let there : object_place d.map c.args.object ≡ Some place = rw c.map.ensures at (sym c.in-Some.ensures.place) in
    let found : object_at d.map place ≡ Some o = rw c.map.ensures at c.in-Some.ensures.object in
    let well_formed : IsWellFormed d.map = rw c.map.ensures at c.in-Some.ensures.well_formed in
    rw (c.new.ensures, c.new-2.ensures, x, y) (
    place_object_made d Move c.args.object c.args.follows place o (moved c.args.x c.args.y) c.eq.result refl there found well_formed
    (moved-IsPlacing c.args.x c.args.y c.requires.x c.requires.y) (rw (x, y) at c.eq.ensures) (rw there refl)
    )
