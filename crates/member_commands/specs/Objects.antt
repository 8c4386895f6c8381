-- The heads of objects.
use Rattle.std.specs.Prelude.{ℕ, List, Bool, not, ◌||◌, refl}
use Rattle.std.specs.Str.{bytes_eq}
use Rattle.fractions.specs.declared.place.Place.TheVariants as places
use Rattle.map_model.specs.declared.heads.ObjectHead.{ObjectHead}
use Rattle.map_model.specs.declared.names.TheConstants.{ID, PROPERTIES}
use Rattle.map_model.specs.declared.owner.MemberOwner.TheVariants as owners
use Rattle.map_model.specs.Heads.{head_with_id}
use Rattle.map_json.specs.Moves.{moved_in}
use Rattle.map_json.specs.ObjectHeads.{head_at, head_members}
use Rattle.json_trees.specs.declared.names.TheConstants.{RESERVED_NAME}
use Rattle.refusals.specs.declared.edit_fault.EditFault.TheVariants.{NoSuchObject}
use Rattle.command_api.specs.Heads.{ObjectsHead}
use Rattle.command_api.proofs.ShownHeads.{object-covered}
use Rattle.map_json.proofs.HeadedObjects.{put-well_formed, without-well_formed}
use Rattle.map_model.proofs.HeadLaws.{head_with_id-laws}
use Rattle.member_commands.specs.Heads.{AreHeadParts, HeadParts}

-- all members of an object but its id and its properties, and the one with the reserved name
abbrev pub is_object_member : List ℕ → Bool
is_object_member name = not (bytes_eq name ID.now || bytes_eq name PROPERTIES.now || bytes_eq name RESERVED_NAME.now)

abbrev pub object_heads : HeadParts ObjectHead
object_heads = record {
  owner = owners.Object;
  lens = head_with_id;
  shown = ObjectsHead;
  absence = NoSuchObject;
  place = places.Object;
  moved = λ f d. moved_in f d.map;
  is_own = is_object_member;
  members = head_members;
  read = λ d. head_at;
}

pub object_heads-laws : AreHeadParts object_heads
object_heads-laws = record {
  absence = λ e. cc;
  inner = refl;
  lawful = head_with_id-laws;
  owned = λ id h. refl;
  undone = λ id name h d. refl;
  fits = λ id name h d f. f;
  covered = object-covered;
  put_in = put-well_formed is_object_member refl;
  taken_out = without-well_formed;
}
