-- The heads of tilesets.
use Rattle.std.specs.Prelude.{refl}
use Rattle.fractions.specs.declared.place.Place.TheVariants as places
use Rattle.fractions.specs.Lines.{unmoved}
use Rattle.map_model.specs.declared.heads.TilesetHead.{TilesetHead}
use Rattle.map_model.specs.declared.owner.MemberOwner.TheVariants as owners
use Rattle.map_model.specs.Heads.{tileset_head_with_id}
use Rattle.map_json.specs.TilesetHeads.{is_tileset_member, tileset_head_at, tileset_head_members}
use Rattle.refusals.specs.declared.edit_fault.EditFault.TheVariants.{NoSuchTileset}
use Rattle.command_api.specs.Heads.{TilesetsHead}
use Rattle.command_api.proofs.ShownHeads.{tileset-covered}
use Rattle.map_json.proofs.TilesetHeadLaws.{tileset_put-well_formed, tileset_without-well_formed}
use Rattle.map_model.proofs.HeadLaws.{tileset_head-laws}
use Rattle.member_commands.specs.Heads.{AreHeadParts, HeadParts}

abbrev pub tileset_heads : HeadParts TilesetHead
tileset_heads = record {
  owner = owners.Tileset;
  lens = tileset_head_with_id;
  shown = TilesetsHead;
  absence = NoSuchTileset;
  place = places.Elsewhere;
  moved = λ f d. unmoved;
  is_own = is_tileset_member;
  members = tileset_head_members;
  read = λ d. tileset_head_at;
}

pub tileset_heads-laws : AreHeadParts tileset_heads
tileset_heads-laws = record {
  absence = λ e. cc;
  inner = refl;
  lawful = tileset_head-laws;
  owned = λ id h. refl;
  undone = λ id name h d. refl;
  fits = λ id name h d f. f;
  covered = tileset-covered;
  put_in = tileset_put-well_formed;
  taken_out = tileset_without-well_formed;
}
