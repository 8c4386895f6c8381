use Rattle.std.proofs.Common.{arith}
use Rattle.map_json.specs.Reading.{tileset_at}
use Rattle.json_members.proofs.MembersLemmas.{get_member-without}
use Rattle.map_json.proofs.tileset.TilesetElement.read.Goals as goal

pub returns-in_err-source : goal.returns-in_err-source
unfolding tileset_at
returns-in_err-source g c = grind (arith, get_member-without)

pub returns : goal.returns
unfolding tileset_at
returns g c = grind (arith, get_member-without)
