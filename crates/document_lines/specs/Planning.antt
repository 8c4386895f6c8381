-- What planning a line says of one document.
use Rattle.std.specs.Prelude.{◌≡◌, Some, Result, Ok, Err, ◌⊎◌, ⊤}
use Rattle.map_model.specs.Document.{DocumentParts}
use Rattle.refusals.specs.declared.edit_fault.EditFault.{EditFault}
use Rattle.fractions.specs.declared.lines.Fractions.{Fractions}
use Rattle.command_api.specs.Law.{Change, IsSame}
use Rattle.command_api.specs.Offers.{Shown, Nothing}
use Rattle.layer_commands.specs.Changes.{add_change, remove_change, rename_change, show_change, move_change, resize_change}
use Rattle.member_commands.specs.Changes.{set_head_change, set_head_shown, set_value_change, set_value_shown}
use Rattle.member_commands.specs.Layers.{layer_heads}
use Rattle.member_commands.specs.Maps.{map_heads}
use Rattle.member_commands.specs.Tilesets.{tileset_heads}
use Rattle.member_commands.specs.Objects.{object_heads}
use Rattle.object_commands.specs.Changes.{add_object_change, remove_object_change, place_object_change, place_object_shown, reparent_object_change}
use Rattle.property_commands.specs.PropertyChanges.{put_property_change, set_property_change, set_property_shown, remove_property_change}
use Rattle.property_commands.specs.TilesetChanges.{add_tileset_change, number_tileset_change, remove_tileset_change}
use Rattle.paint_commands.specs.Painting.{paint_change, paint_shown}
use Rattle.paint_commands.specs.Selection.{select_change}
use Rattle.undo_stack.specs.History.{History, current}
use Rattle.undo_stack.specs.History as histories
use Rattle.undo_stack.specs.Pushing.{step_of}
use Rattle.refusals.specs.declared.refusal.Refusal.{Refusal}
use Rattle.refusals.specs.declared.refusal.Refusal.TheVariants as refusals
use Rattle.refusals.specs.declared.more_fault.MoreFault.{MoreFault}
use Rattle.refusals.specs.Layers.{refusal_of_edit, refusal_of_more}
use Rattle.session.specs.declared.reply.Reply.{Reply}
use Rattle.session.specs.declared.reply.Reply.TheVariants as replies
use Rattle.document_lines.specs.declared.planned.Edit.{Edit}
use Rattle.document_lines.specs.declared.planned.Edit.TheVariants.{Paint, AddLayer, RemoveLayer, RenameLayer, ShowLayer, MoveLayer, Select, ResizeMap}
use Rattle.document_lines.specs.declared.planned.Edit.TheVariants.{AddObject, RemoveObject, PlaceObject, SetProperty, RemoveProperty, AddTileset, RemoveTileset}
use Rattle.document_lines.specs.declared.planned.Edit.TheVariants.{SetObjectHead, SetLayerHead, SetMapHead, ReparentObject, PutProperty, SetTilesetHead}
use Rattle.document_lines.specs.declared.planned.Edit.TheVariants.{NumberTileset, SetTilesetMember}
use Rattle.document_lines.specs.declared.planned.Planned.{Planned}
use Rattle.document_lines.specs.declared.planned.Planned.TheVariants as planned
use Rattle.document_lines.specs.Acts.{Act, answer_of}
use Rattle.session.specs.declared.more_line.MoreLine.{MoreLine}
use Rattle.document_lines.specs.MoreRules.{answer_of_more}
use Rattle.document_lines.specs.Rules.{Rule, OnFiles, OnDocuments, OnActive, Edits}

-- what a planned edit does
abbrev pub edit_change : Edit → Change
edit_change (Paint command) = paint_change command
edit_change (AddLayer command) = add_change command
edit_change (RemoveLayer command) = remove_change command
edit_change (RenameLayer command) = rename_change command
edit_change (ShowLayer command) = show_change command
edit_change (MoveLayer command) = move_change command
edit_change (Select command) = select_change command
edit_change (ResizeMap command) = resize_change command
edit_change (AddObject command) = add_object_change command
edit_change (RemoveObject command) = remove_object_change command
edit_change (PlaceObject command) = place_object_change command
edit_change (SetProperty command) = set_property_change command
edit_change (RemoveProperty command) = remove_property_change command
edit_change (AddTileset command) = add_tileset_change command
edit_change (RemoveTileset command) = remove_tileset_change command
edit_change (SetObjectHead command) = set_head_change object_heads command.value
edit_change (SetLayerHead command) = set_head_change layer_heads command.value
edit_change (SetMapHead command) = set_head_change map_heads command.value
edit_change (ReparentObject command) = reparent_object_change command
edit_change (PutProperty command) = put_property_change command
edit_change (SetTilesetHead command) = set_head_change tileset_heads command.value
edit_change (NumberTileset command) = number_tileset_change command
edit_change (SetTilesetMember command) = set_value_change command.value

-- what a planned edit shows to the step before it
abbrev pub edit_shown : Edit → Shown
edit_shown (Paint command) = paint_shown command
edit_shown (PlaceObject command) = place_object_shown command
edit_shown (SetProperty command) = set_property_shown command
edit_shown (SetObjectHead command) = set_head_shown object_heads command.value
edit_shown (SetLayerHead command) = set_head_shown layer_heads command.value
edit_shown (SetMapHead command) = set_head_shown map_heads command.value
edit_shown (SetTilesetHead command) = set_head_shown tileset_heads command.value
edit_shown (SetTilesetMember command) = set_value_shown command.value
edit_shown edit = Nothing

-- a refusal has left all as it was
abbrev pub KeepsReply : {S : Type 0} → Reply → S → S → Type 0
KeepsReply (replies.Refused refusal) old new = new ≡ old
KeepsReply reply old new = ⊤

-- the plan of a line that is refused
abbrev pub refused : Refusal → Planned
refused refusal = planned.Reply (replies.Refused refusal)

-- the plan of an edit, or of its refusal
abbrev pub plan_of : Result Edit EditFault → Planned
plan_of (Ok edit) = planned.Push edit
plan_of (Err fault) = refused (refusal_of_edit fault)

-- and of one that a text of the line may refuse, too
abbrev pub more_plan_of : Result Edit MoreFault → Planned
more_plan_of (Ok edit) = planned.Push edit
more_plan_of (Err fault) = refused (refusal_of_more fault)

-- the plan of a command that does c: an edit that does the same, or there is no memory for it
abbrev pub PlansCommand : Change → Planned → Type 0
PlansCommand c (planned.Push edit) = IsSame c (edit_change edit)
PlansCommand c plan = plan ≡ refused refusals.NoMemory

-- the plan of a command that was made, or of its refusal
abbrev pub PlansMade : {C : Type 0} → (C → Change) → Result C MoreFault → Planned → Type 0
PlansMade change (Ok command) plan = PlansCommand (change command) plan
PlansMade change (Err fault) plan = plan ≡ refused (refusal_of_more fault)

-- the plan of an edit: its command, whose step is the answer, or its refusal, or out of memory
abbrev pub PlansEdit : Result histories.Step Refusal → DocumentParts → Planned → Type 0
PlansEdit answer d planned.Quiet = ⊥
PlansEdit answer d (planned.Reply reply) =
    (reply ≡ replies.Refused refusals.NoMemory) ⊎ ((refusal : Refusal) × (answer ≡ Err refusal) × (reply ≡ replies.Refused refusal))
PlansEdit answer d (planned.Push edit) = (answer ≡ Ok (step_of (edit_change edit) d)) × (edit_change edit).fits_redo d

-- a line about the active document
abbrev pub IsOfActive : Rule → Type 0
IsOfActive (OnFiles act) = ⊥
IsOfActive (OnDocuments act) = ⊥
IsOfActive (OnActive act) = ⊤
IsOfActive (Edits names edit) = ⊤

-- one about the active document that is no edit
abbrev pub IsOfHistory : Rule → Type 0
IsOfHistory (OnActive act) = ⊤
IsOfHistory rule = ⊥

-- the plan of a line that is done: its reply
abbrev pub IsDone : Act History → History → Planned → History → Type 0
IsDone act h (planned.Reply reply) n = act h (Some reply) n × KeepsReply reply h n
IsDone act h plan n = ⊥

-- what a plan says of the active document: its line is done, or it is an edit, with nothing changed yet
abbrev pub PlansOn : Rule → History → Planned → History → Type 0
PlansOn (OnActive act) h plan n = IsDone act h plan n
PlansOn (Edits names edit) h plan n = PlansEdit (answer_of names (edit (current h))) (current h) plan × (n ≡ h)
PlansOn rule h plan n = ⊥

-- what a plan says of a line for all edits: its edit, with nothing changed yet, or its refusal
abbrev pub PlansMore : Fractions → MoreLine → History → Planned → History → Type 0
PlansMore fractions line h plan n = PlansEdit (answer_of_more fractions line (current h)) (current h) plan × (n ≡ h)
