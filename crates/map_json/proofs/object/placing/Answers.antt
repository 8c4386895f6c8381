use Rattle.std.proofs.Common.{arith}
use Rattle.map_json.specs.Reading.{placing_of}
use Rattle.json_members.proofs.MembersLemmas.{get_member-without}
use Rattle.map_json.proofs.object.placing.Goals as goal

pub returns-in_err-optional_pixels-2-clause-value : goal.returns-in_err-optional_pixels-2-clause-value
unfolding placing_of
returns-in_err-optional_pixels-2-clause-value g c = grind (arith, get_member-without)

pub returns-in_err-optional_pixels-3-clause-value : goal.returns-in_err-optional_pixels-3-clause-value
unfolding placing_of
returns-in_err-optional_pixels-3-clause-value g c = grind (arith, get_member-without)

pub returns-in_err-optional_pixels-4-clause-value : goal.returns-in_err-optional_pixels-4-clause-value
unfolding placing_of
returns-in_err-optional_pixels-4-clause-value g c = grind (arith, get_member-without)

pub returns-clause-value : goal.returns-clause-value
unfolding placing_of
returns-clause-value g c = grind (arith, get_member-without)

pub returns-clause-left : goal.returns-clause-left
unfolding placing_of
returns-clause-left g c = grind (arith, get_member-without)
