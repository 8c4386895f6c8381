-- The document after an edit of its tilesets, or the edit's refusal.
use Rattle.std.specs.Prelude.{ℕ, List, Bool, ◌&&◌, not, min, max, nat_eq, nat_lt, nat_le, Result, Ok, length}
use Rattle.std.specs.List.{list_all, list_any}
use Rattle.std.specs.Option.{ok_or}
use Rattle.map_model.specs.declared.limits.TheConstants.{MAX_FIRST_ID, MAX_TILESETS}
use Rattle.map_model.specs.declared.parts.MapParts.{MapParts}
use Rattle.map_model.specs.declared.parts.Tileset.{Tileset}
use Rattle.map_model.specs.Document.{DocumentParts, with_map}
use Rattle.map_model.specs.NewMap.{external_tileset}
use Rattle.map_model.specs.Renumbering.{has_losses, map_renumbered}
use Rattle.map_model.specs.Tilesets.{tileset_place, has_uses, with_tileset_at, without_tileset_at}
use Rattle.map_model.specs.Refusing.{◌>>=◌, ◌>>◌, check}
use Rattle.refusals.specs.declared.edit_fault.EditFault.{EditFault}
use Rattle.refusals.specs.declared.edit_fault.EditFault.TheVariants.{NoSuchTileset, TilesetInUse, FirstIdNotAbove, OutOfRange, TooMany}

-- ---- a tileset more
-- whether the first ids of all tilesets are below this one
abbrev pub is_above : ℕ → List Tileset → Bool
is_above first_id ts = list_all (λ t. nat_lt t.first_id first_id) ts

-- whether it is a first id that a tileset can have
abbrev pub is_first_id : ℕ → Bool
is_first_id first_id = nat_le 1 first_id && nat_le first_id MAX_FIRST_ID

-- the tileset goes last
abbrev pub with_last_tileset : Tileset → MapParts → MapParts
with_last_tileset t m = with_tileset_at (length m.tilesets) t m

abbrev pub after_add_tileset : DocumentParts → ℕ → List ℕ → Result DocumentParts EditFault
after_add_tileset d first_id source = do
  check (is_above first_id d.map.tilesets) FirstIdNotAbove
  check (is_first_id first_id) OutOfRange
  check (nat_lt (length d.map.tilesets) MAX_TILESETS) TooMany
  Ok (with_map (with_last_tileset (external_tileset first_id source)) d)

-- ---- a tileset more, as it is given
abbrev pub after_put_tileset : DocumentParts → Tileset → Result DocumentParts EditFault
after_put_tileset d t = do
  check (is_above t.first_id d.map.tilesets) FirstIdNotAbove
  check (nat_lt (length d.map.tilesets) MAX_TILESETS) TooMany
  Ok (with_map (with_last_tileset t) d)

-- ---- a tileset with another first id
-- whether another tileset than the one with a first id has a number, or lies between the two
abbrev pub is_in_way : ℕ → ℕ → Tileset → Bool
is_in_way first_id number t =
    not (nat_eq t.first_id first_id) && (nat_le (min first_id number) t.first_id && nat_le t.first_id (max first_id number))

-- its values go along, where all stay those of the tiles that they are
abbrev pub after_number_tileset : DocumentParts → ℕ → ℕ → Result DocumentParts EditFault
after_number_tileset d first_id number = do
  at ← ok_or (tileset_place d.map first_id) NoSuchTileset
  check (is_first_id number) OutOfRange
  check (not (list_any (is_in_way first_id number) d.map.tilesets)) FirstIdNotAbove
  check (not (has_losses d.map first_id number)) OutOfRange
  Ok (with_map (map_renumbered first_id number) d)

-- ---- a tileset less
abbrev pub after_remove_tileset : DocumentParts → ℕ → Result DocumentParts EditFault
after_remove_tileset d first_id = do
  at ← ok_or (tileset_place d.map first_id) NoSuchTileset
  check (not (has_uses d.map first_id)) TilesetInUse
  Ok (with_map (without_tileset_at at) d)
