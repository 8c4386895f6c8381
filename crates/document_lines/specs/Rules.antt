-- The table of rules: what each line may do.
use Rattle.std.specs.Prelude.{List, ℕ, Result, Ok, Err}
use Rattle.map_model.specs.Document.{DocumentParts}
use Rattle.map_json.specs.Trees.{text_of}
use Rattle.map_store.specs.Files.{SameOthers}
use Rattle.refusals.specs.declared.edit_fault.EditFault.{EditFault}
use Rattle.command_api.specs.Names.{Names}
use Rattle.edits.specs.declared.selecting.Selecting.TheVariants.{Nothing, Rectangle}
use Rattle.edits.specs.Filling.{after_fill}
use Rattle.edits.specs.Selecting.{after_select}
use Rattle.edits.specs.Stamping.{after_erase, after_stamp}
use Rattle.edits.specs.LayerEdits.{after_add, after_remove, after_rename, after_show, after_move}
use Rattle.edits.specs.ObjectEdits.{after_add_object, after_move_object, after_resize_object, after_remove_object}
use Rattle.edits.specs.PropertyEdits.{after_set_property, after_remove_property}
use Rattle.edits.specs.Resizing.{after_resize}
use Rattle.edits.specs.TilesetEdits.{after_add_tileset, after_remove_tileset}
use Rattle.layer_commands.specs.Names.{add_names, remove_names, rename_names, show_names, move_names, resize_names}
use Rattle.object_commands.specs.Names.{add_object_names, move_object_names, resize_object_names, remove_object_names}
use Rattle.property_commands.specs.Names.{set_property_names, remove_property_names, add_tileset_names, remove_tileset_names}
use Rattle.paint_commands.specs.Names.{erase_names, fill_names, stamp_names, select_names}
use Rattle.undo_stack.specs.History.{History, current}
use Rattle.undo_stack.specs.Macros.{Begins, Ends}
use Rattle.undo_stack.specs.Moving.{StepsBack, StepsOn, GoesTo, MarksClean, UnmarksClean, Clears}
use Rattle.undo_stack.specs.Reading.{text_at, undo_text_of, redo_text_of}
use Rattle.undo_group.specs.Groups.{removed}
use Rattle.session.specs.declared.line.Line.{Line}
use Rattle.session.specs.declared.line.Line.TheVariants.{Quiet, New, Open, Save, Close, Discard, Use, Documents, Stamp, Erase, Fill, Select, SelectNone, Tile}
use Rattle.session.specs.declared.line.Line.TheVariants.{AddLayer, RemoveLayer, RenameLayer, ShowLayer, MoveLayer, Resize, AddObject, MoveObject, ResizeObject}
use Rattle.session.specs.declared.line.Line.TheVariants.{RemoveObject, SetProperty, RemoveProperty, AddTileset, RemoveTileset, Undo, Redo, Goto, Clean, Begin}
use Rattle.session.specs.declared.line.Line.TheVariants.{End, Limit, Dirty, Clear, Show, Status, UndoText, RedoText, StepText}
use Rattle.refusals.specs.declared.line_fault.LineFault.{LineFault}
use Rattle.refusals.specs.declared.refusal.Refusal.TheVariants as refusals
use Rattle.session.specs.declared.reply.Reply.TheVariants as replies
use Rattle.session.specs.Grammar.{line_of}
use Rattle.session.specs.TypedValues.{property_value, type_name}
use Rattle.document_lines.specs.Acts.{Act, Refuses, Answers, Passes, OrNoMemory, action_or, LimitsTo, Calls, Becomes, Pushes, WithActive, answer_of, GoesOn}
use Rattle.document_lines.specs.Acts.{Named, Closes, NotTaken, Creates, Uses, TellsText, FileAct, Alone, NewName, OfActive, OutsideMacros, FilesStay}
use Rattle.document_lines.specs.Acts.{OrStoreFails, OrNoMemoryForFile, Loads, Saves}
use Rattle.document_lines.specs.Answers.{documents_text, status_reply, step_text_reply, tile_reply}
use Rattle.document_lines.specs.Machine.{Machine, Workspace, active_of}

-- the rule of a line: an act on the files, on the open documents or on the active history, or an edit with its names and the document after it
pub data Rule : Type 1 where
  OnFiles : FileAct Machine → Rule
  OnDocuments : Act Machine → Rule
  OnActive : Act History → Rule
  Edits : Names → (DocumentParts → Result DocumentParts EditFault) → Rule

-- what a line of that rule may do; an edit may want memory, whichever it is
abbrev pub Allows : Rule → Act Workspace
Allows (OnFiles act) old reply new = act old.stored new.stored old.machine reply new.machine
Allows (OnDocuments act) old reply new = Alone act old.stored new.stored old.machine reply new.machine
Allows (OnActive act) old reply new = Alone (WithActive act (active_of old.machine)) old.stored new.stored old.machine reply new.machine
Allows (Edits names edit) old reply new =
    Alone (WithActive (OrNoMemory (λ h. Pushes (answer_of names (edit (current h))) h)) (active_of old.machine)) old.stored new.stored old.machine reply
    new.machine

abbrev pub rule_of : Line → Rule
rule_of Quiet = OnDocuments Passes
-- the open documents, and the files
rule_of (New name width height tile_width tile_height source) =
    OnDocuments (NotTaken name (OrNoMemory (Creates name width height tile_width tile_height source)))
rule_of (Open name file) = OnFiles (NewName name (OrStoreFails FilesStay (OrNoMemoryForFile (Loads name file))))
rule_of (Save file) = OnFiles (OfActive (OutsideMacros (OrStoreFails (SameOthers file) (OrNoMemoryForFile (Saves file)))))
rule_of (Close name) = OnDocuments (Named name (Closes name))
rule_of (Discard name) = OnDocuments (Named name (λ h. GoesOn (removed name)))
rule_of (Use choice) = OnDocuments (Uses choice)
rule_of Documents = OnDocuments (OrNoMemory (Answers λ m. replies.Documents (documents_text m.group)))
rule_of Status = OnDocuments (Answers λ m. status_reply (active_of m))
rule_of UndoText = OnDocuments (TellsText undo_text_of)
rule_of RedoText = OnDocuments (TellsText redo_text_of)
-- cells and the selection
rule_of (Stamp layer x y width values follows) = Edits (stamp_names layer follows)
    (λ d. after_stamp d layer (record { x = x; y = y; width = width; values = values }))
rule_of (Erase layer x y width height follows) = Edits (erase_names layer follows)
    (λ d. after_erase d layer (record { x = x; y = y; width = width; height = height }))
rule_of (Fill layer x y value) = Edits fill_names (λ d. after_fill d layer x y value)
rule_of (Select mode x y width height) = Edits select_names (λ d. after_select d (Rectangle mode (record { x = x; y = y; width = width; height = height })))
rule_of SelectNone = Edits select_names (λ d. after_select d Nothing)
rule_of (Tile layer x y) = OnActive (Answers λ h. tile_reply (current h).map layer x y)
-- layers and the map's size
rule_of (AddLayer kind name) = Edits add_names (λ d. after_add d kind name)
rule_of (RemoveLayer layer) = Edits remove_names (λ d. after_remove d layer)
rule_of (RenameLayer layer name) = Edits rename_names (λ d. after_rename d layer name)
rule_of (ShowLayer layer visible) = Edits show_names (λ d. after_show d layer visible)
rule_of (MoveLayer layer place) = Edits move_names (λ d. after_move d layer place)
rule_of (Resize width height dx dy) = Edits resize_names (λ d. after_resize d width height dx dy)
-- objects
rule_of (AddObject layer x y width height name) = Edits add_object_names (λ d. after_add_object d layer x y width height name)
rule_of (MoveObject object x y follows) = Edits (move_object_names object follows) (λ d. after_move_object d object x y)
rule_of (ResizeObject object width height) = Edits resize_object_names (λ d. after_resize_object d object width height)
rule_of (RemoveObject object) = Edits remove_object_names (λ d. after_remove_object d object)
-- properties and tilesets
rule_of (SetProperty owner name value follows) = Edits (set_property_names owner name follows)
    (λ d. after_set_property d owner name (type_name value) (property_value value))
rule_of (RemoveProperty owner name) = Edits remove_property_names (λ d. after_remove_property d owner name)
rule_of (AddTileset first_id source) = Edits add_tileset_names (λ d. after_add_tileset d first_id source)
rule_of (RemoveTileset first_id) = Edits remove_tileset_names (λ d. after_remove_tileset d first_id)
-- the active document's history
rule_of Undo = OnActive (Calls StepsBack)
rule_of Redo = OnActive (Calls StepsOn)
rule_of (Goto index) = OnActive (Calls (GoesTo index))
rule_of Clean = OnActive (Calls MarksClean)
rule_of (Begin text action) = OnActive (Calls (Begins text (action_or text action)))
rule_of End = OnActive (Calls Ends)
rule_of (Limit limit) = OnActive (LimitsTo limit)
rule_of Dirty = OnActive (Becomes UnmarksClean)
rule_of Clear = OnActive (Becomes Clears)
rule_of Show = OnActive (OrNoMemory (Answers λ h. replies.Map (text_of (current h).map)))
rule_of (StepText i) = OnActive (OrNoMemory (Answers λ h. step_text_reply (text_at h i)))

-- what a line may do
abbrev pub MachineStep : Line → Act Workspace
MachineStep line = Allows (rule_of line)

abbrev pub MachineStepOf : Result Line LineFault → Act Workspace
MachineStepOf (Ok line) = MachineStep line
MachineStepOf (Err fault) = Refuses (refusals.Line fault)

-- what the bytes of a line may do
abbrev pub MachineStepIn : List ℕ → Act Workspace
MachineStepIn bytes = MachineStepOf (line_of bytes)
