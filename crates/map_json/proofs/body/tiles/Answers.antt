use Rattle.std.proofs.Common.{arith}
use Rattle.map_json.specs.Reading.{tiles_of}
use Rattle.json_members.proofs.MembersLemmas.{get_member-without}
use Rattle.map_json.proofs.body.tiles.Goals as goal

pub returns-in_err-no_compression-clause-value : goal.returns-in_err-no_compression-clause-value
unfolding tiles_of
returns-in_err-no_compression-clause-value g c = grind (arith, get_member-without)

pub returns-in_err-same_or_absent-clause-value : goal.returns-in_err-same_or_absent-clause-value
unfolding tiles_of
returns-in_err-same_or_absent-clause-value g c = grind (arith, get_member-without)

pub returns-in_err-same_or_absent-2-clause-value : goal.returns-in_err-same_or_absent-2-clause-value
unfolding tiles_of
returns-in_err-same_or_absent-2-clause-value g c = grind (arith, get_member-without)

pub returns-in_err-cells-clause-value : goal.returns-in_err-cells-clause-value
unfolding tiles_of
returns-in_err-cells-clause-value g c = grind (arith, get_member-without)

pub returns-clause-value : goal.returns-clause-value
unfolding tiles_of
returns-clause-value g c = grind (arith, get_member-without)
