use Rattle.std.proofs.Common.{◌≡◌, length}
use Rattle.serde_json.specs.View.{members_view}
use Rattle.tmx_maps.specs.SameMap.{plain_members}
use Rattle.tmx_maps.proofs.same_map.next_said.Given as goal

abbrev pub invariant-loop-key : goal.invariant-loop-key
invariant-loop-key l = plain_members l.place (members_view l.members) ≡ plain_members l.place (members_view l.fn.members)

abbrev pub decreases-loop-key : goal.decreases-loop-key
decreases-loop-key l = length l.members
