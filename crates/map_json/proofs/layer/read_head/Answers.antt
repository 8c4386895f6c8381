use Rattle.std.proofs.Common.{arith}
use Rattle.map_json.specs.Reading.{head_of}
use Rattle.json_members.proofs.MembersLemmas.{get_member-without}
use Rattle.map_json.proofs.layer.read_head.Goals as goal

pub returns-in_err-id-clause-value : goal.returns-in_err-id-clause-value
unfolding head_of
returns-in_err-id-clause-value g c = grind (arith, get_member-without)

pub returns-in_err-name-clause-value : goal.returns-in_err-name-clause-value
unfolding head_of
returns-in_err-name-clause-value g c = grind (arith, get_member-without)

pub returns-in_err-visible-clause-value : goal.returns-in_err-visible-clause-value
unfolding head_of
returns-in_err-visible-clause-value g c = grind (arith, get_member-without)

pub returns-in_err-properties-clause-value : goal.returns-in_err-properties-clause-value
unfolding head_of
returns-in_err-properties-clause-value g c = grind (arith, get_member-without)

pub returns-clause-value : goal.returns-clause-value
unfolding head_of
returns-clause-value g c = grind (arith, get_member-without)
