-- The heads of layers.
use Rattle.std.specs.Prelude.{refl}
use Rattle.fractions.specs.declared.place.Place.TheVariants as places
use Rattle.fractions.specs.Lines.{unmoved}
use Rattle.map_model.specs.declared.heads.LayerHead.{LayerHead}
use Rattle.map_model.specs.declared.owner.MemberOwner.TheVariants as owners
use Rattle.map_model.specs.Heads.{layer_head_with_id}
use Rattle.map_json.specs.LayerHeads.{is_layer_member, layer_head_at, layer_head_members}
use Rattle.refusals.specs.declared.edit_fault.EditFault.TheVariants.{NoSuchLayer}
use Rattle.command_api.specs.Heads.{LayersHead}
use Rattle.command_api.proofs.ShownHeads.{layer-covered}
use Rattle.map_json.proofs.HeadedLayers.{layer_put-well_formed, layer_without-well_formed}
use Rattle.map_model.proofs.HeadLaws.{layer_head-laws}
use Rattle.member_commands.specs.Heads.{AreHeadParts, HeadParts}

abbrev pub layer_heads : HeadParts LayerHead
layer_heads = record {
  owner = owners.Layer;
  lens = layer_head_with_id;
  shown = LayersHead;
  absence = NoSuchLayer;
  place = places.Elsewhere;
  moved = λ f d. unmoved;
  is_own = is_layer_member;
  members = layer_head_members;
  read = λ d. layer_head_at;
}

pub layer_heads-laws : AreHeadParts layer_heads
layer_heads-laws = record {
  absence = λ e. cc;
  inner = refl;
  lawful = layer_head-laws;
  owned = λ id h. refl;
  undone = λ id name h d. refl;
  fits = λ id name h d f. f;
  covered = layer-covered;
  put_in = layer_put-well_formed;
  taken_out = layer_without-well_formed;
}
