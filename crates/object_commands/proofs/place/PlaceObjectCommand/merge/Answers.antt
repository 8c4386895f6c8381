use Rattle.std.proofs.Common.{◌≡◌, sym, ap, ◌∙◌}
use Rattle.map_model.specs.Lens.{placing_with_id, put}
use Rattle.map_model.proofs.StayPut.{placing_with_id-laws}
use Rattle.command_api.proofs.Swaps.{shown_merged}
use Rattle.object_commands.specs.Changes.{AllowsPlacing}
use Rattle.object_commands.proofs.Placements.{place_object-WhenEqual, tag-object, placing_test, Decides-placing_test, AllowsPlacing-back}
use Rattle.object_commands.proofs.place.PlaceObjectCommand.merge.Goals as goal

pub returns-clause-merged : goal.returns-clause-merged
returns-clause-merged c told =
    let p = c.args.self.now in
    let newer = c.in-Place in
    let d = c.args.document.now in
    let asked = rw c.in-Place.is at c.requires in
    let same : newer.object ≡ p.object = sym (tag-object p.kind p.object p.follows newer.object (c.moves.ensures.0 c.if-not-moves.false)) in
    let decides = Decides-placing_test p.placing newer.after in
    let test : c.eq-self.result ≡ placing_test p.placing newer.after = c.eq-self.ensures ∙ ap (λ q. placing_test q newer.after) c.get.ensures in
    rw (c.in-Place.is, c.new-self.ensures) (
    shown_merged p.is_made (AllowsPlacing p.object p.place) (placing_with_id-laws p.object) (place_object-WhenEqual p.kind p.object p.follows)
    (λ t. decides.0 (sym test ∙ t)) (λ q. test ∙ decides.1 q) (rw same at asked.0) (ap (λ id. put (placing_with_id id) newer.before d) same) asked.1
    (AllowsPlacing-back p.object p.place d newer.before p.placing)
    )
