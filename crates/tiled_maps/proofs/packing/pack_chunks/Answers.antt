use Rattle.std.proofs.Common.{codes}
use Rattle.serde_json.specs.View.{members_view}
use Rattle.tiled_maps.specs.Packing.{ArrayRelated, ObjectRelated, OwnPacked}
use Rattle.tiled_maps.proofs.PackedWalks.{member_put}
use Rattle.tiled_maps.proofs.packing.pack_chunks.Goals as goal

pub returns-in_ok-put-in-Some : goal.returns-in_ok-put-in-Some
returns-in_ok-put-in-Some c =
    member_put (codes "chunks") (ArrayRelated (ObjectRelated (OwnPacked c.args.frame))) (members_view c.args.members.now.entries) _ _ _ _
    c.in-Some.ensures.found c.in-Some.ensures.left c.in_ok-chunks-in-Some.ensures c.in_ok-put-in-Some.ensures.ok
