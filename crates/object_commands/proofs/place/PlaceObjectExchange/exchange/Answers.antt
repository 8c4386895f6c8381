use Rattle.std.proofs.Common.{◌∙◌}
use Rattle.map_model.specs.Objects.{object_placing}
use Rattle.map_model.proofs.LensLaws.{mapped}
use Rattle.map_model.proofs.StayPut.{placing_with_id-laws}
use Rattle.command_api.proofs.Swaps.{shown_swapped}
use Rattle.object_commands.specs.Changes.{AllowsPlacing}
use Rattle.object_commands.proofs.Placements.{placing-given, placing-put, placed-there, AllowsPlacing-put}
use Rattle.object_commands.proofs.place.PlaceObjectExchange.exchange.Goals as goal

pub set_placing-requires-clause-there : goal.set_placing-requires-clause-there
set_placing-requires-clause-there c =
    let p = c.args.self.now in
    placed-there p.object p.place p.is_made p.after p.placing c.args.document.now c.requires.fits

pub returns : goal.returns
returns c =
    let p = c.args.self.now in
    let d = c.args.document.now in
    let set = c.set_placing in
    let stands = c.requires.fits.allowed.stands in
    let document = rw c.get.ensures at set.ensures.document ∙ placing-put p.object p.place d stands p.placing in
    rw c.new-self.ensures (
    shown_swapped p.is_made (AllowsPlacing p.object p.place) (placing_with_id-laws p.object) c.requires.fits
    (placing-given p.object p.place d stands set.result (mapped object_placing _ _ set.ensures.given)) document
    (rw document (AllowsPlacing-put p.object p.place d p.placing set.result stands set.ensures.back))
    )
