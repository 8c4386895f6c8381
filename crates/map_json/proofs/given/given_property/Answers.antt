use Rattle.std.proofs.Common.{subst}
use Rattle.map_values.specs.Presence.{Gives}
use Rattle.map_json.specs.Reading.{property_at}
use Rattle.map_json.proofs.GivenLaws.{property_given}
use Rattle.map_json.proofs.given.given_property.Goals as goal

pub returns-clause-sound : goal.returns-clause-sound
returns-clause-sound c = λ tier room.
    property_given tier room c.in_ok-members.members c.read.result c.in_ok-members.ensures.words
    (subst (λ d. Gives c.read.result (property_at d)) c.into_value.ensures c.read.ensures)
