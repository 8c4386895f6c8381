-- What a stamp and an erase do, and why one is refused.
use Rattle.std.specs.Prelude.{◌≡◌, ℕ, ◌%◌, ◌<◌, ◌≤◌, ◌^◌, Result, Ok, length}
use Rattle.std.specs.List.{list_all}
use Rattle.map_model.specs.declared.limits.TheConstants.{MAX_SIDE}
use Rattle.map_model.specs.Document.{DocumentParts, with_map}
use Rattle.map_model.specs.Lookups.{layer_of}
use Rattle.refusals.specs.declared.edit_fault.EditFault.{EditFault}
use Rattle.refusals.specs.declared.edit_fault.EditFault.TheVariants.{UnknownTile}
use Rattle.map_model.specs.Refusing.{◌>>◌, check}
use Rattle.edits.specs.declared.area.Area.{Area}
use Rattle.edits.specs.Blocks.{ValueBlock, stamp_over, erase_over}
use Rattle.edits.specs.Covering.{covered_map, where_selected}
use Rattle.edits.specs.Refusals.{tiles_or_fault, is_known}

-- ---- stamp
-- the document after a stamp, or its refusal: of its layer, or of its values, also of those that fall outside the map
abbrev pub after_stamp : DocumentParts → ℕ → ValueBlock → Result DocumentParts EditFault
after_stamp d id block = do
  tiles_or_fault (layer_of d.map id)
  check (list_all (is_known d.map) block.values) UnknownTile
  Ok (with_map (covered_map id (where_selected d.selection (stamp_over block))) d)

-- a block that a line can spell: its width is that of a map, and its values, fewer than 2 ^ 32, are whole rows
pub record IsBlock (block : ValueBlock) : Type 0 where
  pub wide : 1 ≤ block.width
  pub narrow : block.width ≤ MAX_SIDE
  pub whole : length block.values % block.width ≡ 0
  pub few : length block.values < 2 ^ 32

-- ---- erase
-- the document after an erase, or its refusal
abbrev pub after_erase : DocumentParts → ℕ → Area → Result DocumentParts EditFault
after_erase d id area = do
  tiles_or_fault (layer_of d.map id)
  Ok (with_map (covered_map id (where_selected d.selection (erase_over area))) d)
