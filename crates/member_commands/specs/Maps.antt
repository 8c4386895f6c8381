-- The heads of maps.
use Rattle.std.specs.Prelude.{refl}
use Rattle.fractions.specs.declared.place.Place.TheVariants as places
use Rattle.fractions.specs.Lines.{unmoved}
use Rattle.map_model.specs.declared.heads.MapHead.{MapHead}
use Rattle.map_model.specs.declared.owner.MemberOwner.TheVariants as owners
use Rattle.map_model.specs.Heads.{head_of_map}
use Rattle.map_json.specs.MapHeads.{is_map_member, map_head_at, map_head_members}
use Rattle.refusals.specs.declared.edit_fault.EditFault.TheVariants.{NoSuchLayer}
use Rattle.command_api.specs.Heads.{MapsHead}
use Rattle.command_api.proofs.ShownHeads.{map-covered}
use Rattle.map_json.proofs.MapHeadLaws.{map_put-well_formed, map_without-well_formed}
use Rattle.map_model.proofs.HeadLaws.{map_head-laws}
use Rattle.member_commands.specs.Heads.{AreHeadParts, HeadParts}

-- a document has one map, whatever the id, so it is never absent
abbrev pub map_heads : HeadParts MapHead
map_heads = record {
  owner = λ id. owners.Map;
  lens = λ id. head_of_map;
  shown = λ id. MapsHead;
  absence = NoSuchLayer;
  place = places.Elsewhere;
  moved = λ f d. unmoved;
  is_own = is_map_member;
  members = map_head_members;
  read = λ d. map_head_at d.map;
}

pub map_heads-laws : AreHeadParts map_heads
map_heads-laws = record {
  absence = λ e. cc;
  inner = refl;
  lawful = λ id. map_head-laws;
  owned = λ id h. refl;
  undone = λ id name h d. refl;
  fits = λ id name h d f. f;
  covered = λ id. map-covered;
  put_in = λ id. map_put-well_formed;
  taken_out = λ id. map_without-well_formed;
}
