use Rattle.std.proofs.Common.{arith}
use Rattle.map_json.specs.Reading.{property_at}
use Rattle.json_members.proofs.MembersLemmas.{get_member-without}
use Rattle.map_json.proofs.property.PropertyElement.read.Goals as goal

pub returns-in_err-kind : goal.returns-in_err-kind
unfolding property_at
returns-in_err-kind g c = grind (arith, get_member-without)

pub returns-in_err-value : goal.returns-in_err-value
unfolding property_at
returns-in_err-value g c = grind (arith, get_member-without)

pub returns : goal.returns
unfolding property_at
returns g c = grind (arith, get_member-without)
