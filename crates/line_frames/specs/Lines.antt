-- The lines that are edits of the frame law.
use Rattle.std.specs.Prelude.{◌≡◌, ℕ, List, [], ◌∷◌, true, is_some, if◌then◌else◌, Option, Some, None, option_and_then, Result, Ok}
use Rattle.std.specs.Option.{option_map}
use Rattle.fractions.specs.declared.lines.Fractions.{Fractions}
use Rattle.fractions.specs.declared.lines.Moved.{Moved}
use Rattle.fractions.specs.declared.place.Place.TheVariants as places
use Rattle.fractions.specs.Lines.{unmoved}
use Rattle.map_model.specs.declared.owner.MemberOwner.TheVariants as owners
use Rattle.map_model.specs.Document.{DocumentParts}
use Rattle.map_model.specs.Properties.{setting_with}
use Rattle.serde_json.specs.Data.{object}
use Rattle.serde_json.specs.Find.{get_member}
use Rattle.map_model.specs.declared.names.TheConstants.{ID}
use Rattle.map_model.specs.Refusing.{◌>>=◌, ◌>>◌, check}
use Rattle.refusals.specs.declared.map_refusal.MapRefusal.{MapRefusal}
use Rattle.refusals.specs.declared.map_refusal.MapRefusal.TheVariants.{IdUsedTwice}
use Rattle.map_json.specs.declared.given.GivenObject.{GivenObject}
use Rattle.map_json.specs.Distinctness.{are_named_apart}
use Rattle.map_json.specs.Given.{given_property_at, given_text_at, with_id}
use Rattle.map_json.specs.Reading.{object_at}
use Rattle.map_json.specs.Words.{members_at}
use Rattle.map_json.specs.LayerHeads.{layer_head_at}
use Rattle.map_json.specs.MapHeads.{map_head_said}
use Rattle.map_json.specs.Moves.{moved_in}
use Rattle.map_json.specs.ObjectHeads.{head_at}
use Rattle.map_json.specs.TilesetHeads.{tileset_head_at}
use Rattle.member_commands.specs.Layers.{layer_heads}
use Rattle.member_commands.specs.Maps.{map_heads}
use Rattle.member_commands.specs.Objects.{object_heads}
use Rattle.member_commands.specs.Tilesets.{tileset_heads}
use Rattle.session.specs.TypedValues.{property_value, type_name}
use Rattle.session.specs.declared.line.Line.{Line}
use Rattle.session.specs.declared.line.Line.TheVariants as lines
use Rattle.session.specs.declared.more_line.MoreLine.{MoreLine}
use Rattle.session.specs.declared.more_line.MoreLine.TheVariants as more
use Rattle.document_lines.specs.MoreRules.{after_more}
use Rattle.document_lines.specs.Rules.{Edits, Rule, rule_of}
use Rattle.line_frames.specs.Frames.{Edit, Erase, LayerMembers, MapMembers, ObjectMembers, PutObject, PutProperty, RemoveObject, RemoveProperty}
use Rattle.line_frames.specs.Frames.{SetProperty, Stamp, TilesetMembers}
use Rattle.line_frames.specs.Frames.{after, done}
use Rattle.line_frames.specs.Frames.{HoldsBoth, any_looks_at}
use Rattle.line_frames.specs.Places.{AgreeAt, Place}
use Rattle.map_model.specs.WellFormed.{IsWellFormed}
use Rattle.line_frames.specs.MemberLines.{put_change, remove_change, set_change}

-- ---- lines that every session reads
-- the edit that a line is, of those that the law is proved of
abbrev pub edit_of : Line → Option Edit
edit_of (lines.Stamp layer x y width values follows) = Some (Stamp layer (record { x = x; y = y; width = width; values = values }))
edit_of (lines.Erase layer x y width height follows) = Some (Erase layer (record { x = x; y = y; width = width; height = height }))
edit_of (lines.SetProperty owner name value follows) = Some (SetProperty owner name (setting_with (type_name value) (property_value value)))
edit_of (lines.RemoveProperty owner name) = Some (RemoveProperty owner name)
edit_of (lines.RemoveObject id) = Some (RemoveObject id)
edit_of line = None

-- the document after a line that is an edit; none where it is refused
abbrev pub edited : Rule → DocumentParts → Option DocumentParts
edited (Edits names edit) d = done (edit d)
edited rule d = None

-- ---- lines for all edits
-- what a text says, put to use
abbrev pub said_edit : {A E : Type 0} → (A → Edit) → Result A E → Option Edit
said_edit edit read = option_map edit (done read)

-- the object that a text says, which is moved so far, and whether the text says its id
unfoldable pub object_said : Fractions → Moved → List ℕ → Result GivenObject MapRefusal
object_said fractions moved text = do
  ms ← members_at fractions places.Object moved text
  o ← object_at (object (with_id ms))
  check (are_named_apart o.properties) IdUsedTwice
  Ok (record { object = o; has_id = is_some (get_member ID.now ms) })

-- an object goes into a layer, where it has an id
abbrev pub put_object : ℕ → GivenObject → Option Edit
put_object layer given = if given.has_id then Some (PutObject layer given.object) else None

-- the edit that a line is in a map whose objects are saved so much further than they stand
abbrev pub more_edit_of : Fractions → Moved → MoreLine → Option Edit
more_edit_of f moved (more.SetMember owners.Map name json follows) = Some (MapMembers (set_change map_heads map_head_said f unmoved name json))
more_edit_of f moved (more.PutMembers owners.Map json follows) = Some (MapMembers (put_change map_heads map_head_said f unmoved json))
more_edit_of f moved (more.RemoveMember owners.Map name) = Some (MapMembers (remove_change map_heads map_head_said f unmoved name))
more_edit_of f moved (more.SetMember (owners.Layer id) name json follows) =
    Some (LayerMembers id (set_change layer_heads layer_head_at f unmoved name json))
more_edit_of f moved (more.PutMembers (owners.Layer id) json follows) = Some (LayerMembers id (put_change layer_heads layer_head_at f unmoved json))
more_edit_of f moved (more.RemoveMember (owners.Layer id) name) = Some (LayerMembers id (remove_change layer_heads layer_head_at f unmoved name))
more_edit_of f moved (more.SetMember (owners.Object id) name json follows) = Some (ObjectMembers id (set_change object_heads head_at f moved name json))
more_edit_of f moved (more.PutMembers (owners.Object id) json follows) = Some (ObjectMembers id (put_change object_heads head_at f moved json))
more_edit_of f moved (more.RemoveMember (owners.Object id) name) = Some (ObjectMembers id (remove_change object_heads head_at f moved name))
more_edit_of f moved (more.SetMember (owners.Tileset id) name json follows) =
    Some (TilesetMembers id (set_change tileset_heads tileset_head_at f unmoved name json))
more_edit_of f moved (more.PutMembers (owners.Tileset id) json follows) = Some (TilesetMembers id (put_change tileset_heads tileset_head_at f unmoved json))
more_edit_of f moved (more.RemoveMember (owners.Tileset id) name) = Some (TilesetMembers id (remove_change tileset_heads tileset_head_at f unmoved name))
more_edit_of f moved (more.PutProperty owner json) = said_edit (PutProperty owner) (given_property_at f json)
more_edit_of f moved (more.TakeProperty owner json) = said_edit (RemoveProperty owner) (given_text_at f json)
more_edit_of f moved (more.PutObject layer json) = option_and_then (put_object layer) (done (object_said f moved json))
more_edit_of f moved line = None

-- ---- the law
-- a line that is done does what its edit does
abbrev pub LineLaw : Type 0
LineLaw = (line : Line) (edit : Edit) (d n : DocumentParts) → edit_of line ≡ Some edit → edited (rule_of line) d ≡ Some n → after edit d ≡ Some n

abbrev pub MoreLineLaw : Type 0
MoreLineLaw = (fractions : Fractions) (line : MoreLine) (edit : Edit) (d n : DocumentParts) → more_edit_of fractions (moved_in fractions d.map) line ≡ Some edit
    → done (after_more fractions line d) ≡ Some n → after edit d ≡ Some n

-- ---- lines that are said one after another
-- a line of either kind
pub data Saying : Type 0 where
  Usual : Line → Saying
  More : MoreLine → Saying

-- the document after it; none where it is refused, or no edit
abbrev pub after_line : Fractions → Saying → DocumentParts → Option DocumentParts
after_line fractions (Usual line) d = edited (rule_of line) d
after_line fractions (More line) d = done (after_more fractions line d)

-- the edit that it is in a document
abbrev pub edit_in : Fractions → Saying → DocumentParts → Option Edit
edit_in fractions (Usual line) d = edit_of line
edit_in fractions (More line) d = more_edit_of fractions (moved_in fractions d.map) line

-- a line leads from a well-formed document to another one, and is this edit
pub record Says (fractions : Fractions) (line : Saying) (own : Edit) (d n : DocumentParts) : Type 0 where
  pub well_formed : IsWellFormed d.map
  pub is : after_line fractions line d ≡ Some n
  pub left : IsWellFormed n.map
  pub edit : edit_in fractions line d ≡ Some own

-- and some lines do, one after another
abbrev pub AllSay : Fractions → List Saying → List Edit → DocumentParts → DocumentParts → Type 0
AllSay fractions [] [] d n = n ≡ d
AllSay fractions (line ∷ lines) (edit ∷ edits) d n = (mid : DocumentParts) × Says fractions line edit d mid × AllSay fractions lines edits mid n
AllSay fractions lines edits d n = ⊥

-- lines that lead from a base to theirs are done to ours, as the same edits
abbrev pub LineMergeLaw : Type 0
LineMergeLaw = (fractions : Fractions) (lines : List Saying) (edits : List Edit) (base ours theirs merged : DocumentParts)
    → AllSay fractions lines edits base theirs → AllSay fractions lines edits ours merged
    → ((place : Place) → any_looks_at edits place ≡ true → AgreeAt place ours base)
    → (place : Place) → HoldsBoth edits base ours theirs merged place
