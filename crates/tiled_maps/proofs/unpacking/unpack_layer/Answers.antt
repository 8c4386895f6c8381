use Rattle.serde_json.specs.View.{members_view}
use Rattle.std.proofs.Common.{◌≡◌, true, sym, ap, ◌∙◌}
use Rattle.tiled_maps.specs.Packed.{compression, note_name, is_packed, renamed}
use Rattle.tiled_maps.proofs.PackedWalks.{layer_unpacked-packed}
use Rattle.tiled_maps.proofs.unpacking.unpack_layer.Goals as goal

pub returns : goal.returns
returns c =
    let ms = members_view c.args.members.now.entries in
    let own = members_view c.unpack_data.new.members.entries in
    let all = members_view c.unpack_chunks.new.members.entries in
    let is : is_packed ms ≡ true = sym c.if-not-is_packed.ensures in
    layer_unpacked-packed c.args.cells ms own all _ is c.in_ok-unpack_data.ensures c.in_ok-unpack_chunks.ensures
    (c.in_ok-rename.ensures ∙ ap (renamed compression note_name) c.in_ok-check_void.ensures)
