use Rattle.serde_json.specs.View.{members_view}
use Rattle.tiled_maps.specs.Packed.{note_name, frame_at}
use Rattle.tiled_maps.proofs.PackedLaws.{LayerPacked-some}
use Rattle.tiled_maps.proofs.packing.pack_layer.Goals as goal

pub returns : goal.returns
returns c =
    let ms = members_view c.args.members.now.entries in
    LayerPacked-some (frame_at note_name ms) c.in-Some.frame ms _ _ _ c.in-Some.ensures c.in_ok-pack_data.ensures c.in_ok-pack_chunks.ensures
    c.in_ok-rename.ensures
