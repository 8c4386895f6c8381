use Rattle.std.proofs.Common.{sym, ap, ◌∙◌}
use Rattle.serde_json.specs.Data.{object}
use Rattle.map_json.specs.Reading.{object_at}
use Rattle.map_json.proofs.GivenLaws.{id_given, object_given}
use Rattle.map_json.proofs.given.given_object.Goals as goal

pub returns-clause-id : goal.returns-clause-id
returns-clause-id c =
    let tree = ap object (sym c.in_ok-has_id.ensures.members) ∙ sym c.into_value.ensures in
    id_given c.in_ok-members.members c.in_ok-object.object c.in_ok-members.ensures.words (ap object_at tree ∙ c.in_ok-object.ensures)

pub returns-clause-sound : goal.returns-clause-sound
returns-clause-sound c = λ tier room.
    let tree = ap object (sym c.in_ok-has_id.ensures.members) ∙ sym c.into_value.ensures in
    object_given tier room c.in_ok-members.members c.in_ok-object.object c.in_ok-members.ensures.words (ap object_at tree ∙ c.in_ok-object.ensures)
    (sym c.in_ok-names_are_distinct.ensures ∙ c.if-not-branch.false)
