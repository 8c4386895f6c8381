-- A head that was read from the members of another one, with some put in or taken out: the map is well formed with it.
use Rattle.std.proofs.Common.{◌≡◌, ℕ, ◌+◌, ◌-◌, ◌≤◌, List, Option, Some, None, option_and_then, true, refl, sym, ap, ◌∙◌, subst, arith}
use Rattle.std.specs.Prelude.{Ok, find}
use Rattle.serde_json.specs.Data.{Members}
use Rattle.serde_json.specs.Find.{get_member}
use Rattle.map_model.specs.declared.heads.TilesetHead.{TilesetHead}
use Rattle.map_model.specs.declared.limits.TheConstants.{MAX_DEPTH}
use Rattle.map_model.specs.declared.names.TheConstants.{SOURCE}
use Rattle.map_model.specs.declared.parts.Tileset.{Tileset}
use Rattle.map_model.specs.Document.{DocumentParts}
use Rattle.map_model.specs.Format.{tileset_names}
use Rattle.map_model.specs.Heads.{tileset_head, tileset_head_with_id, tileset_with_head}
use Rattle.map_model.specs.Keeping.{tileset_tier}
use Rattle.map_model.specs.Lens.{put}
use Rattle.map_model.specs.Tilesets.{tileset_with}
use Rattle.map_model.specs.WellFormed.{IsTileset, IsWellFormed}
use Rattle.map_model.proofs.LensLaws.{some-eq}
use Rattle.map_model.proofs.TilesetChanges.{tileset_with-IsTileset, with_tileset-keeps}
use Rattle.json_members.specs.Members.{put_all, without, without_all}
use Rattle.fractions.specs.declared.lines.Fractions.{Fractions}
use Rattle.fractions.specs.declared.lines.Moved.{Moved}
use Rattle.fractions.specs.declared.place.Place.TheVariants as places
use Rattle.fractions.specs.Lines.{members_said, put_words, remove_word}
use Rattle.map_values.specs.Presence.{optional}
use Rattle.map_values.specs.Scalars.{text_at}
use Rattle.map_json.specs.TilesetHeads.{IsTilesetHead, is_tileset_member, tileset_head_at, tileset_head_members, tileset_head_own}
use Rattle.map_json.specs.Words.{AreWords, all_named}
use Rattle.map_json.proofs.Fine.{AreFineMembers}
use Rattle.map_json.proofs.HeadWords.{AreFlat, rest_fine, text_flat, words_fine}
use Rattle.map_json.proofs.Noting.{put_words-elsewhere, remove_word-elsewhere}
use Rattle.map_json.proofs.Sound.{by_bind, kept_sound, ok_is, optional_text_sound}
use Rattle.map_json.proofs.WrittenTrees.{AreReadableOwn, text_readable}

-- ---- what members say
own_readable : (h : TilesetHead) → IsTilesetHead h → AreReadableOwn (tileset_head_own h)
own_readable h is = (refl, text_readable h.source is.source, tt)

own_flat : (h : TilesetHead) → AreFlat (tileset_head_own h)
own_flat h = (text_flat h.source, tt)

tileset_head_sound : (n : ℕ) → tileset_tier + n ≤ MAX_DEPTH → (ms : Members) (h : TilesetHead) → AreFineMembers n ms → tileset_head_at ms ≡ Ok h
    → IsTilesetHead h
unfolding tileset_head_at
tileset_head_sound n room ms h fine e =
    by_bind (optional text_at (get_member SOURCE.now ms)) _ h e (λ source source_is e1.
    let made : IsTilesetHead (record { source = source; kept = without_all tileset_names ms }) = record {
      source = optional_text_sound n SOURCE.now ms fine source source_is;
      kept = kept_sound tileset_tier n tileset_names ms room fine;
    } in
    subst IsTilesetHead (ok_is (record { source = source; kept = without_all tileset_names ms }) h e1) made)

-- ---- documents
-- a document whose tileset has a head
record HasTilesetHead (first_id : ℕ) (d : DocumentParts) (h : TilesetHead) : Type 0 where
  tileset : Tileset
  there : tileset_with d.map first_id ≡ Some tileset
  is : tileset_head tileset ≡ h

has_tileset_head : (first_id : ℕ) (d : DocumentParts) (h : TilesetHead) → (tileset_head_with_id first_id).get d ≡ Some h → HasTilesetHead first_id d h
has_tileset_head first_id d h e = by_tileset (tileset_with d.map first_id) refl e
  where
    by_tileset : (o : Option Tileset) → tileset_with d.map first_id ≡ o → option_and_then (λ t. Some (tileset_head t)) o ≡ Some h
        → HasTilesetHead first_id d h
    by_tileset None there q = cc
    by_tileset (Some t) there q = record { tileset = t; there = there; is = some-eq (tileset_head t) h q }

own-is : (first_id : ℕ) (d : DocumentParts) (own : TilesetHead) → IsWellFormed d.map → HasTilesetHead first_id d own → IsTilesetHead own
own-is first_id d own h has =
    let is = tileset_with-IsTileset d.map first_id has.tileset has.there h in
    rw (← has.is) (record { source = is.source; kept = is.kept })

-- the map is well formed with a head that a tileset may have
with_head : (first_id : ℕ) (d : DocumentParts) (own new : TilesetHead) → IsWellFormed d.map → HasTilesetHead first_id d own → IsTilesetHead new
    → IsWellFormed (put (tileset_head_with_id first_id) new d).map
with_head first_id d own new h has fresh =
    let is = tileset_with-IsTileset d.map first_id has.tileset has.there h in
    with_tileset-keeps d.map first_id (tileset_with_head new) has.tileset has.there (λ t. refl)
    (record { low = is.low; high = is.high; source = fresh.source; kept = fresh.kept }) h

-- ---- heads that were read
pub tileset_put-well_formed : (first_id : ℕ) (f : Fractions) (m : Moved) (words : Members) (own new : TilesetHead) (d : DocumentParts) → IsWellFormed d.map
    → (tileset_head_with_id first_id).get d ≡ Some own → AreWords (members_said f places.Elsewhere m words) → all_named is_tileset_member words ≡ true
    → tileset_head_at (put_words f places.Elsewhere m words (tileset_head_members own)) ≡ Ok new
    → IsWellFormed (put (tileset_head_with_id first_id) new d).map
tileset_put-well_formed first_id f m words own new d h given are named e =
    let has = has_tileset_head first_id d own given in
    let is = own-is first_id d own h has in
    let said = members_said f places.Elsewhere m words in
    let read = ap tileset_head_at (sym (put_words-elsewhere f m words (tileset_head_members own))) ∙ e in
    let fine = words_fine (tileset_head_own own) own.kept is.kept (own_readable own is) (own_flat own) said (omega arith) are in
    with_head first_id d own new h has
    (tileset_head_sound (MAX_DEPTH - tileset_tier) (omega arith) (put_all said (tileset_head_members own)) new fine read)

pub tileset_without-well_formed : (first_id : ℕ) (f : Fractions) (name : List ℕ) (own new : TilesetHead) (d : DocumentParts) → IsWellFormed d.map
    → (tileset_head_with_id first_id).get d ≡ Some own → tileset_head_at (remove_word f places.Elsewhere name (tileset_head_members own)) ≡ Ok new
    → IsWellFormed (put (tileset_head_with_id first_id) new d).map
tileset_without-well_formed first_id f name own new d h given e =
    let has = has_tileset_head first_id d own given in
    let is = own-is first_id d own h has in
    let read = ap tileset_head_at (sym (remove_word-elsewhere f name (tileset_head_members own))) ∙ e in
    let fine = rest_fine (tileset_head_own own) own.kept is.kept (own_readable own is) (own_flat own) name in
    with_head first_id d own new h has
    (tileset_head_sound (MAX_DEPTH - tileset_tier) (omega arith) (without name (tileset_head_members own)) new fine read)
