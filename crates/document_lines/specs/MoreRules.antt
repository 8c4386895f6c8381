-- What each line for all edits may do, and what the bytes of any line may do where those lines are read too.
use Rattle.std.specs.Prelude.{List, ℕ, Result, Ok, Err}
use Rattle.map_model.specs.declared.owner.MemberOwner.TheVariants as owners
use Rattle.map_model.specs.Document.{DocumentParts}
use Rattle.fractions.specs.declared.lines.Fractions.{Fractions}
use Rattle.command_api.specs.Names.{Names}
use Rattle.edits.specs.LayerEdits.{after_add_more, after_layer_into}
use Rattle.edits.specs.ObjectEdits.{after_object_into}
use Rattle.edits.specs.TilesetEdits.{after_number_tileset}
use Rattle.layer_commands.specs.Names.{add_names, move_names, resize_names}
use Rattle.object_commands.specs.Names.{add_object_names, reparent_object_names}
use Rattle.property_commands.specs.Names.{add_tileset_names, number_tileset_names, put_property_names, remove_property_names}
use Rattle.member_commands.specs.Edits.{after_put_members, after_remove_member, after_set_member}
use Rattle.member_commands.specs.Names.{put_members_names, remove_member_names, set_member_names}
use Rattle.member_commands.specs.Layers.{layer_heads}
use Rattle.member_commands.specs.Maps.{map_heads}
use Rattle.member_commands.specs.Tilesets.{tileset_heads}
use Rattle.member_commands.specs.Objects.{object_heads}
use Rattle.undo_stack.specs.History.{Step, current, step_named}
use Rattle.refusals.specs.declared.line_fault.LineFault.{LineFault}
use Rattle.refusals.specs.declared.line_fault.LineFault.TheVariants.{UnknownCommand}
use Rattle.refusals.specs.declared.more_fault.MoreFault.{MoreFault}
use Rattle.refusals.specs.declared.refusal.Refusal.{Refusal}
use Rattle.refusals.specs.declared.refusal.Refusal.TheVariants as refusals
use Rattle.refusals.specs.Layers.{refusal_of_more}
use Rattle.session.specs.declared.line.Line.{Line}
use Rattle.session.specs.declared.more_line.MoreLine.{MoreLine}
use Rattle.session.specs.declared.more_line.MoreLine.TheVariants.{SetMember, PutMembers, RemoveMember, AddLayer, PutLayer, PutObject, TakeProperty, PutTileset}
use Rattle.session.specs.declared.more_line.MoreLine.TheVariants.{ReparentObject, ReparentLayer, PutProperty, NumberTileset, Extend}
use Rattle.session.specs.Grammar.{line_of}
use Rattle.session.specs.MoreGrammar.{more_line_of}
use Rattle.document_lines.specs.Acts.{Act, Alone, OrNoMemory, Pushes, Refuses, WithActive}
use Rattle.document_lines.specs.GivenEdits.{after_layer_text, after_object_text, after_property_text, after_take_property, after_tileset_text, made}
use Rattle.document_lines.specs.Machine.{Workspace, active_of}
use Rattle.document_lines.specs.PlaceEdits.{after_extend, parent_of}
use Rattle.document_lines.specs.Rules.{MachineStep, MachineStepIn}
use Rattle.document_lines.specs.declared.dialect.Dialect.{Dialect}
use Rattle.document_lines.specs.declared.dialect.Dialect.TheVariants.{Plain, AllEdits}

-- what the edit of a line is called
abbrev pub more_names_of : MoreLine → Names
more_names_of (SetMember owner name json follows) = set_member_names owner name follows
more_names_of (PutMembers owner json follows) = put_members_names owner follows
more_names_of (RemoveMember owner name) = remove_member_names
more_names_of (AddLayer kind name) = add_names
more_names_of (PutObject layer json) = add_object_names
more_names_of (ReparentObject object layer place) = reparent_object_names
more_names_of (ReparentLayer layer group place) = move_names
more_names_of (PutLayer group place json) = add_names
more_names_of (PutProperty owner json) = put_property_names
more_names_of (TakeProperty owner json) = remove_property_names
more_names_of (PutTileset json) = add_tileset_names
more_names_of (NumberTileset first_id number) = number_tileset_names
more_names_of (Extend left top right bottom) = resize_names

-- the document after it, or its refusal
abbrev pub after_more : Fractions → MoreLine → DocumentParts → Result DocumentParts MoreFault
after_more fractions (SetMember (owners.Object id) name json follows) d = after_set_member object_heads fractions d id name json
after_more fractions (PutMembers (owners.Object id) json follows) d = after_put_members object_heads fractions d id json
after_more fractions (RemoveMember (owners.Object id) name) d = after_remove_member object_heads fractions d id name
after_more fractions (SetMember (owners.Layer id) name json follows) d = after_set_member layer_heads fractions d id name json
after_more fractions (PutMembers (owners.Layer id) json follows) d = after_put_members layer_heads fractions d id json
after_more fractions (RemoveMember (owners.Layer id) name) d = after_remove_member layer_heads fractions d id name
after_more fractions (SetMember owners.Map name json follows) d = after_set_member map_heads fractions d 0 name json
after_more fractions (PutMembers owners.Map json follows) d = after_put_members map_heads fractions d 0 json
after_more fractions (RemoveMember owners.Map name) d = after_remove_member map_heads fractions d 0 name
after_more fractions (SetMember (owners.Tileset id) name json follows) d = after_set_member tileset_heads fractions d id name json
after_more fractions (PutMembers (owners.Tileset id) json follows) d = after_put_members tileset_heads fractions d id json
after_more fractions (RemoveMember (owners.Tileset id) name) d = after_remove_member tileset_heads fractions d id name
after_more fractions (AddLayer kind name) d = made (after_add_more d kind name)
after_more fractions (PutObject layer json) d = after_object_text fractions d layer json
after_more fractions (ReparentObject object layer place) d = made (after_object_into d object layer place)
after_more fractions (ReparentLayer layer group place) d = made (after_layer_into d layer (parent_of group) place)
after_more fractions (PutLayer group place json) d = after_layer_text fractions d (parent_of group) place json
after_more fractions (PutProperty owner json) d = after_property_text fractions d owner json
after_more fractions (TakeProperty owner json) d = after_take_property fractions d owner json
after_more fractions (PutTileset json) d = after_tileset_text fractions d json
after_more fractions (NumberTileset first_id number) d = made (after_number_tileset d first_id number)
after_more fractions (Extend left top right bottom) d = made (after_extend fractions d left top right bottom)

-- the step of an edit with these names, or the edit's refusal
abbrev pub more_answer_of : Names → Result DocumentParts MoreFault → Result Step Refusal
more_answer_of names (Ok d) = Ok (step_named names d)
more_answer_of names (Err fault) = Err (refusal_of_more fault)

-- and of the line's
abbrev pub answer_of_more : Fractions → MoreLine → DocumentParts → Result Step Refusal
answer_of_more fractions line d = more_answer_of (more_names_of line) (after_more fractions line d)

-- what a line for all edits may do; its edit may want memory
abbrev pub MoreStep : Fractions → MoreLine → Act Workspace
MoreStep fractions line old reply new =
    Alone (WithActive (OrNoMemory (λ h. Pushes (answer_of_more fractions line (current h)) h)) (active_of old.machine)) old.stored new.stored old.machine reply
    new.machine

-- ---- any line
-- one that is no line of the others has their fault where it begins with no word of these lines either
abbrev pub MoreStepOf : Fractions → Result MoreLine LineFault → LineFault → Act Workspace
MoreStepOf fractions (Ok line) fault = MoreStep fractions line
MoreStepOf fractions (Err UnknownCommand) fault = Refuses (refusals.Line fault)
MoreStepOf fractions (Err more) fault = Refuses (refusals.Line more)

abbrev pub AnyStepOf : Fractions → Result Line LineFault → List ℕ → Act Workspace
AnyStepOf fractions (Ok line) bytes = MachineStep line
AnyStepOf fractions (Err fault) bytes = MoreStepOf fractions (more_line_of bytes) fault

-- what the bytes of a line may do, where the lines for all edits are read too
abbrev pub AnyStepIn : Fractions → List ℕ → Act Workspace
AnyStepIn fractions bytes = AnyStepOf fractions (line_of bytes) bytes

-- and by which lines are read
abbrev pub MachineStepFor : Dialect → List ℕ → Act Workspace
MachineStepFor Plain = MachineStepIn
MachineStepFor (AllEdits fractions) = AnyStepIn fractions
