use Rattle.std.proofs.Common.{arith}
use Rattle.map_json.specs.Reading.{object_at}
use Rattle.json_members.proofs.MembersLemmas.{get_member-without}
use Rattle.map_json.proofs.Bodies.{placing_of-without_id}
use Rattle.map_json.proofs.object.ObjectElement.read.Goals as goal

pub returns-in_err-placing : goal.returns-in_err-placing
unfolding object_at
returns-in_err-placing g c = grind (arith, placing_of-without_id, get_member-without)

pub returns-in_err-name : goal.returns-in_err-name
unfolding object_at
returns-in_err-name g c = grind (arith, placing_of-without_id, get_member-without)

pub returns-in_err-visible : goal.returns-in_err-visible
unfolding object_at
returns-in_err-visible g c = grind (arith, placing_of-without_id, get_member-without)

pub returns-in_err-gid : goal.returns-in_err-gid
unfolding object_at
returns-in_err-gid g c = grind (arith, placing_of-without_id, get_member-without)

pub returns-in_err-properties : goal.returns-in_err-properties
unfolding object_at
returns-in_err-properties g c = grind (arith, placing_of-without_id, get_member-without)

pub returns : goal.returns
unfolding object_at
returns g c = grind (arith, placing_of-without_id, get_member-without)
