-- What a frame is and does. Like a paint, it holds the cells that differ between the documents on its two sides.
use Rattle.std.specs.Prelude.{ℕ, ◌*◌, ◌/◌, ◌%◌, ◌-◌, List, Some, Bool, true, false, ◌||◌, codes, length, map, nat_eq, if◌then◌else◌}
use Rattle.std.specs.List.{range_with_len}
use Rattle.map_model.specs.declared.edit.CellEdit.{CellEdit}
use Rattle.map_model.specs.Document.{painted}
use Rattle.edits.specs.declared.area.Area.{Area}
use Rattle.edits.specs.Blocks.{ValueBlock}
use Rattle.command_api.specs.Exchange.{Exchange, change_of}
use Rattle.command_api.specs.Law.{Change}
use Rattle.command_api.specs.Names.{Names, WhenEqual}
use Rattle.command_api.specs.Offers.{Shown, Nothing, Cells}
use Rattle.command_api.specs.Tag.{OfLayer}
use Rattle.paint_commands.specs.Painting.{IsDifference, side_of}
use Rattle.own_commands.specs.declared.frame.TheConstants.{FRAME_ID}
use Rattle.own_commands.specs.declared.frame.Frame.{Frame}

-- ---- the block of a frame
-- whether a number is the first or the last of so many
abbrev pub is_end : ℕ → ℕ → Bool
is_end at size = nat_eq at 0 || nat_eq at (size - 1)

-- the value of a cell of the block, row by row: the tile on the border of the area, and 0 within, which leaves a cell as it is
abbrev pub frame_value : Area → ℕ → ℕ → ℕ
frame_value a tile at = if is_end (at % a.width) a.width || is_end (at / a.width) a.height then tile else 0

abbrev pub frame_block : Area → ℕ → ValueBlock
frame_block a tile = record { x = a.x; y = a.y; width = a.width; values = map (frame_value a tile) (range_with_len 0 (a.width * a.height)) }

-- ---- the command
-- what a frame on a layer is called
abbrev pub frame_names : ℕ → Bool → Names
frame_names layer follows = record {
  text = codes "Frame";
  action = codes "frame tiles";
  tag = Some (record { kind = FRAME_ID; subject = OfLayer layer });
  vanishing = WhenEqual;
  follows = follows;
}

-- it fits the documents of which its cells are the difference to the turned one
abbrev pub frame_exchange : Frame → Exchange
frame_exchange f = record {
  names = frame_names f.layer f.follows;
  obsolete = nat_eq (length f.cells) 0;
  made = Some f.is_made;
  exchanged = painted f.layer f.cells (side_of f.is_made);
  fits = IsDifference f.is_made f.layer f.cells;
}

abbrev pub frame_change : Frame → Change
frame_change f = change_of (frame_exchange f)

-- it shows its cells where it follows
abbrev pub shown_frame : Bool → ℕ → List CellEdit → Shown
shown_frame false layer cells = Nothing
shown_frame true layer cells = Cells FRAME_ID layer cells

abbrev pub frame_shown : Frame → Shown
frame_shown f = shown_frame f.follows f.layer f.cells
