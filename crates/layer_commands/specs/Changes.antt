-- What each command is and does.
use Rattle.std.specs.Prelude.{◌+◌, List, Bool, true, false, Option, Some, None}
use Rattle.map_model.specs.declared.parts.Layer.{Layer}
use Rattle.map_model.specs.declared.parts.MapParts.{MapParts}
use Rattle.map_model.specs.declared.place.LayerPlace.{LayerPlace}
use Rattle.map_model.specs.declared.canvas.Canvas.{Canvas}
use Rattle.map_model.specs.Canvas.{with_canvas, IsCanvasOf}
use Rattle.map_model.specs.Layers.{last_place, next_ids_of}
use Rattle.map_model.specs.Lens.{of_layer, name, visible}
use Rattle.map_model.specs.Slot.{layer_slot, new_layer_slot}
use Rattle.command_api.specs.Law.{Change}
use Rattle.command_api.specs.Exchange.{Exchange, change_of}
use Rattle.command_api.specs.Swap.{swap}
use Rattle.command_api.specs.Link.{link}
use Rattle.command_api.specs.Move.{FitsMove}
use Rattle.layer_commands.specs.declared.add.AddLayer.{AddLayer}
use Rattle.layer_commands.specs.declared.remove.RemoveLayer.{RemoveLayer}
use Rattle.layer_commands.specs.declared.move_layer.MoveLayer.{MoveLayer}
use Rattle.layer_commands.specs.declared.rename.RenameLayer.{RenameLayer}
use Rattle.layer_commands.specs.declared.notes.Note.{Note}
use Rattle.layer_commands.specs.declared.resize.OtherSize.{OtherSize}
use Rattle.layer_commands.specs.declared.resize.ResizeMap.{ResizeMap}
use Rattle.layer_commands.specs.declared.show.ShowLayer.{ShowLayer}
use Rattle.map_model.specs.Document.{DocumentParts, with_map}
use Rattle.edits.specs.LayerEdits.{with_layer_moved}
use Rattle.layer_commands.specs.Notes.{with_notes, FitNotes}
use Rattle.layer_commands.specs.Names.{rename_names, show_names, add_names, remove_names, move_names, resize_names}

-- ---- parts of a layer that are exchanged
abbrev pub rename_exchange : RenameLayer → Exchange
rename_exchange c = swap rename_names (of_layer c.layer name) c.is_same c.name

abbrev pub rename_change : RenameLayer → Change
rename_change c = change_of (rename_exchange c)

abbrev pub show_exchange : ShowLayer → Exchange
show_exchange c = swap show_names (of_layer c.layer visible) c.is_same c.visible

abbrev pub show_change : ShowLayer → Change
show_change c = change_of (show_exchange c)

-- ---- layers that are put in and taken out
-- the command that adds a layer with the next layer id, behind the last one that stands in no group
abbrev pub numbered : MapParts → Option Layer → AddLayer
numbered m layer = record {
  id = m.next_layer_id;
  place = last_place m;
  next = next_ids_of m;
  raised = record { layer = m.next_layer_id + 1; object = m.next_object_id };
  layer = Some layer;
}

abbrev pub add_exchange : AddLayer → Exchange
add_exchange c = link add_names (new_layer_slot c.place c.next c.raised) c.layer

abbrev pub add_change : AddLayer → Change
add_change c = change_of (add_exchange c)

abbrev pub remove_exchange : RemoveLayer → Exchange
remove_exchange c = link remove_names (layer_slot c.place) c.layer

abbrev pub remove_change : RemoveLayer → Change
remove_change c = change_of (remove_exchange c)

-- ---- move
-- the layer at a place goes to another one
abbrev pub moving : LayerPlace → LayerPlace → Exchange
moving from to = record {
  names = move_names;
  obsolete = false;
  made = None;
  exchanged = with_map (with_layer_moved from to);
  fits = FitsMove (layer_slot from) (layer_slot to);
}

-- the two places change places too
abbrev pub move_exchange : MoveLayer → Exchange
move_exchange c = moving c.from c.to

abbrev pub move_change : MoveLayer → Change
move_change c = change_of (move_exchange c)

-- ---- resize
-- the document on the canvas and with the notes
abbrev pub resized_with : Bool → Canvas → List (Option Note) → DocumentParts → DocumentParts
resized_with false canvas notes d = with_notes notes (with_canvas canvas d)
resized_with true canvas notes d = with_canvas canvas (with_notes notes d)

abbrev pub FitsResized : Bool → Canvas → List (Option Note) → DocumentParts → Type 0
FitsResized false canvas notes d = IsCanvasOf d canvas × FitNotes notes (with_canvas canvas d)
FitsResized true canvas notes d = FitNotes notes d × IsCanvasOf (with_notes notes d) canvas

-- the document changes places with the canvas, and owners with their notes; what was done last is undone first
abbrev pub sized : Bool → Canvas → List (Option Note) → Exchange
sized notes_first canvas notes = record {
  names = resize_names;
  obsolete = false;
  made = None;
  exchanged = resized_with notes_first canvas notes;
  fits = FitsResized notes_first canvas notes;
}

abbrev pub size_exchange : OtherSize → Exchange
size_exchange o = sized o.notes_first o.canvas o.notes.items

abbrev pub resize_exchange : ResizeMap → Exchange
resize_exchange c = size_exchange c.other.value

abbrev pub resize_change : ResizeMap → Change
resize_change c = change_of (resize_exchange c)
