-- Which texts are which lines.
use Rattle.std.specs.Prelude.{◌≡◌, ℕ, ℤ, Bool, true, false, not, ◌||◌, ◌==◌, nat_lt, List, [], ◌∷◌, ◌++◌, length, Option, None, Some, Result, Ok, Err, codes}
use Rattle.std.specs.Prelude.{if◌then◌else◌}
use Rattle.std.specs.List.{join_with_byte, list_all}
use Rattle.std.specs.Str.{bytes_eq, is_utf8}
use Rattle.session.specs.declared.limits.TheConstants.{MAX_LINE, MAX_DOCUMENT_NAME, MAX_FILE_NAME}
use Rattle.session.specs.declared.line.Line.{Line}
use Rattle.session.specs.declared.line.Line.TheVariants.{Quiet, New, Open, Save, Close, Discard, Use, Documents, Stamp, Erase, Fill, Select, SelectNone, Tile}
use Rattle.session.specs.declared.line.Line.TheVariants.{AddLayer, RemoveLayer, RenameLayer, ShowLayer, MoveLayer, Resize, AddObject, MoveObject, ResizeObject}
use Rattle.session.specs.declared.line.Line.TheVariants.{RemoveObject, SetProperty, RemoveProperty, AddTileset, RemoveTileset, Undo, Redo, Goto, Clean, Dirty}
use Rattle.session.specs.declared.line.Line.TheVariants.{Clear, Begin, End, Limit, Show, Status, UndoText, RedoText, StepText}
use Rattle.refusals.specs.declared.line_fault.LineFault.{LineFault}
use Rattle.refusals.specs.declared.line_fault.LineFault.TheVariants.{TooLong, NotUtf8, UnknownCommand, BadWord}
use Rattle.map_model.specs.declared.parts.LayerKind.{LayerKind}
use Rattle.map_model.specs.declared.selection.SelectionMode.{SelectionMode}
use Rattle.map_model.specs.declared.selection.SelectionMode.TheVariants.{Replace, Add, Subtract, Intersect}
use Rattle.map_model.specs.declared.owner.MemberOwner.{MemberOwner}
use Rattle.map_model.specs.declared.owner.Owner.{Owner}
use Rattle.session.specs.declared.typed_value.TypedValue.{TypedValue}
use Rattle.session.specs.declared.typed_value.TypedValue.TheVariants as typed
use Rattle.session.specs.Words.{words, number_of, coordinate_of, numbers_of, choice_of, are_rows, is_name, is_text, cut_at_bars, are_texts, layer_kind_of}
use Rattle.session.specs.Words.{yes_no_of, truth_of, is_key, is_color, owner_of, member_owner_of}

infixl 10 ◌>>=◌
abbrev pub ◌>>=◌ : {A B : Type 0} → Result A LineFault → (A → Result B LineFault) → Result B LineFault
(Ok x) >>= f = f x
(Err e) >>= f = Err e

-- what a word must be
abbrev pub word_is : {A : Type 0} → Option A → Result A LineFault
word_is None = Err BadWord
word_is (Some x) = Ok x

-- the word itself, where it passes
abbrev pub passing : (List ℕ → Bool) → List ℕ → Option (List ℕ)
passing test word = if test word then Some word else None

-- what the word at the front is, and the words after it
unfoldable pub word_at : {A : Type 0} → (List ℕ → Option A) → List (List ℕ) → Result (A × List (List ℕ)) LineFault
word_at value_of [] = Err BadWord
word_at value_of (w ∷ ws) = word_is (value_of w) >>= λ value. Ok (value, ws)

-- the values of a block of that width, joined by commas, and the words after them
unfoldable pub rows_at : ℕ → List (List ℕ) → Result ((ℕ × List ℕ) × List (List ℕ)) LineFault
rows_at width [] = Err BadWord
rows_at width (w ∷ ws) =
    word_is (numbers_of w) >>= λ values. if are_rows width (length values) then Ok ((width, values), ws) else Err BadWord

-- the width of a block and its values, and the words after them
unfoldable pub block_at : List (List ℕ) → Result ((ℕ × List ℕ) × List (List ℕ)) LineFault
block_at ws = word_at number_of ws >>= λ width. rows_at width.0 width.1

-- the text that all further words make
unfoldable pub last_text_at : List (List ℕ) → Result (List ℕ) LineFault
last_text_at [] = Err BadWord
last_text_at (w ∷ ws) =
    if is_text (join_with_byte 32 (w ∷ ws)) then Ok (join_with_byte 32 (w ∷ ws)) else Err BadWord

-- the text that all further words make, as it is cut at its first bars
unfoldable pub last_texts_at : List (List ℕ) → Result (List ℕ × Option (List ℕ)) LineFault
last_texts_at [] = Err BadWord
last_texts_at (w ∷ ws) =
    if are_texts (cut_at_bars (join_with_byte 32 (w ∷ ws))).0 (cut_at_bars (join_with_byte 32 (w ∷ ws))).1
    then Ok (cut_at_bars (join_with_byte 32 (w ∷ ws)))
    else Err BadWord

-- the JSON text that all further words make: of one byte or more
unfoldable pub last_json_at : List (List ℕ) → Result (List ℕ) LineFault
last_json_at [] = Err BadWord
last_json_at (w ∷ ws) = if length (join_with_byte 32 (w ∷ ws)) == 0 then Err BadWord else Ok (join_with_byte 32 (w ∷ ws))

-- no further word
unfoldable pub ends_at : List (List ℕ) → Result (Unit {0}) LineFault
ends_at [] = Ok tt
ends_at (w ∷ ws) = Err BadWord

-- what code returned, seen by view, is what the definition gives
abbrev pub Gives : {X Y : Type 0} → (X → Y) → Result X LineFault → Result Y LineFault → Type 0
Gives view (Ok x) read = read ≡ Ok (view x)
Gives view (Err e) read = read ≡ Err e

-- what a field of a line is
pub data FieldKind : Type 0 where
  Number : FieldKind
  Coordinate : FieldKind
  Block : FieldKind
  Name : FieldKind
  File : FieldKind
  Choice : FieldKind
  LayerSort : FieldKind
  YesNo : FieldKind
  Truth : FieldKind
  Key : FieldKind
  Color : FieldKind
  OwnerName : FieldKind
  OwnerOfMembers : FieldKind

abbrev pub FieldValue : FieldKind → Type 0
FieldValue Number = ℕ
FieldValue Coordinate = ℤ
FieldValue Block = ℕ × List ℕ
FieldValue Name = List ℕ
FieldValue File = List ℕ
FieldValue Choice = Option (List ℕ)
FieldValue LayerSort = LayerKind
FieldValue YesNo = Bool
FieldValue Truth = Bool
FieldValue Key = List ℕ
FieldValue Color = List ℕ
FieldValue OwnerName = Owner
FieldValue OwnerOfMembers = MemberOwner

-- the field at the front of the words, and the words after it
abbrev pub field_at : (kind : FieldKind) → List (List ℕ) → Result (FieldValue kind × List (List ℕ)) LineFault
field_at Number ws = word_at number_of ws
field_at Coordinate ws = word_at coordinate_of ws
field_at Block ws = block_at ws
field_at Name ws = word_at (passing (is_name MAX_DOCUMENT_NAME)) ws
field_at File ws = word_at (passing (is_name MAX_FILE_NAME)) ws
field_at Choice ws = word_at choice_of ws
field_at LayerSort ws = word_at layer_kind_of ws
field_at YesNo ws = word_at yes_no_of ws
field_at Truth ws = word_at truth_of ws
field_at Key ws = word_at (passing is_key) ws
field_at Color ws = word_at (passing is_color) ws
field_at OwnerName ws = word_at owner_of ws
field_at OwnerOfMembers ws = word_at member_owner_of ws

-- what may follow some words: no further word, a text that all further words make, such a text and perhaps another one
-- behind its bars, a JSON text that all further words make, a field and what its value leads to, that word and what it leads to or
-- else the other form, or nothing; the lines are those of either table
pub data LineForm (A : Type 0) : Type 0 where
  Ends : A → LineForm A
  Text : (List ℕ → A) → LineForm A
  Texts : (List ℕ → Option (List ℕ) → A) → LineForm A
  Json : (List ℕ → A) → LineForm A
  Field : (kind : FieldKind) → (FieldValue kind → LineForm A) → LineForm A
  Word : List ℕ → LineForm A → LineForm A → LineForm A
  Fails : LineFault → LineForm A

-- the line that words are by a form, or its fault
abbrev pub read : {A : Type 0} → LineForm A → List (List ℕ) → Result A LineFault
read (Ends line) ws = ends_at ws >>= λ end. Ok line
read (Text line) ws = last_text_at ws >>= λ text. Ok (line text)
read (Texts line) ws = last_texts_at ws >>= λ texts. Ok (line texts.0 texts.1)
read (Json line) ws = last_json_at ws >>= λ json. Ok (line json)
read (Field kind form) ws = field_at kind ws >>= λ value. read (form value.0) value.1
read (Word word form other) [] = Err BadWord
read (Word word form other) (w ∷ ws) = if bytes_eq w word then read form ws else read other (w ∷ ws)
read (Fails fault) ws = Err fault

-- one of those words with what it leads to, or else that fault
abbrev pub choose : {A : Type 0} → List (List ℕ × LineForm A) → LineFault → LineForm A
choose [] fault = Fails fault
choose (pair ∷ pairs) fault = Word pair.0 pair.1 (choose pairs fault)

abbrev pub add_layer_form : LineForm Line
add_layer_form = Field LayerSort λ kind. Text (AddLayer kind)

abbrev pub remove_layer_form : LineForm Line
remove_layer_form = Field Number λ layer. Ends (RemoveLayer layer)

abbrev pub rename_layer_form : LineForm Line
rename_layer_form = Field Number λ layer. Text (RenameLayer layer)

abbrev pub show_layer_form : LineForm Line
show_layer_form = Field Number λ layer. Field YesNo λ visible. Ends (ShowLayer layer visible)

abbrev pub move_layer_form : LineForm Line
move_layer_form = Field Number λ layer. Field Number λ place. Ends (MoveLayer layer place)

abbrev pub new_form : LineForm Line
new_form =
    Field Name λ name. Field Number λ width. Field Number λ height. Field Number λ tile_width. Field Number λ tile_height.
    Text (New name width height tile_width tile_height)

abbrev pub open_form : LineForm Line
open_form = Field Name λ name. Field File λ file. Ends (Open name file)

abbrev pub save_form : LineForm Line
save_form = Field File λ file. Ends (Save file)

abbrev pub close_form : LineForm Line
close_form = Field Name λ name. Ends (Close name)

abbrev pub discard_form : LineForm Line
discard_form = Field Name λ name. Ends (Discard name)

abbrev pub use_form : LineForm Line
use_form = Field Choice λ choice. Ends (Use choice)

-- a line that may follow the step before it has one form for both
abbrev pub stamp_form : Bool → LineForm Line
stamp_form follows =
    Field Number λ layer. Field Coordinate λ x. Field Coordinate λ y. Field Block λ block. Ends (Stamp layer x y block.0 block.1 follows)

abbrev pub erase_form : Bool → LineForm Line
erase_form follows =
    Field Number λ layer. Field Coordinate λ x. Field Coordinate λ y. Field Number λ width. Field Number λ height. Ends (Erase layer x y width height follows)

abbrev pub fill_form : LineForm Line
fill_form =
    Field Number λ layer. Field Coordinate λ x. Field Coordinate λ y. Field Number λ value. Ends (Fill layer x y value)

abbrev pub select_form : SelectionMode → LineForm Line
select_form mode =
    Field Coordinate λ x. Field Coordinate λ y. Field Number λ width. Field Number λ height. Ends (Select mode x y width height)

abbrev pub tile_form : LineForm Line
tile_form = Field Number λ layer. Field Coordinate λ x. Field Coordinate λ y. Ends (Tile layer x y)

abbrev pub resize_form : LineForm Line
resize_form = Field Number λ width. Field Number λ height. Field Coordinate λ dx. Field Coordinate λ dy. Ends (Resize width height dx dy)

abbrev pub add_object_form : LineForm Line
add_object_form =
    Field Number λ layer. Field Coordinate λ x. Field Coordinate λ y. Field Number λ width. Field Number λ height. Text (AddObject layer x y width height)

abbrev pub move_object_form : Bool → LineForm Line
move_object_form follows = Field Number λ object. Field Coordinate λ x. Field Coordinate λ y. Ends (MoveObject object x y follows)

abbrev pub resize_object_form : LineForm Line
resize_object_form = Field Number λ object. Field Number λ width. Field Number λ height. Ends (ResizeObject object width height)

abbrev pub remove_object_form : LineForm Line
remove_object_form = Field Number λ object. Ends (RemoveObject object)

-- the types of properties, each with its value, which goes to the end of that line
abbrev pub value_types : (TypedValue → Line) → List (List ℕ × LineForm Line)
value_types line =
    (codes "string", Text λ text. line (typed.String text))
    ∷ (codes "int", Field Coordinate λ number. Ends (line (typed.Int number)))
    ∷ (codes "bool", Field Truth λ truth. Ends (line (typed.Bool truth)))
    ∷ (codes "color", Field Color λ color. Ends (line (typed.Color color)))
    ∷ (codes "file", Text λ text. line (typed.File text))
    ∷ (codes "object", Field Number λ id. Ends (line (typed.Object id)))
    ∷ []

abbrev pub set_property_form : Bool → LineForm Line
set_property_form follows =
    Field OwnerName λ owner. Field Key λ name. choose (value_types (λ value. SetProperty owner name value follows)) BadWord

abbrev pub remove_property_form : LineForm Line
remove_property_form = Field OwnerName λ owner. Field Key λ name. Ends (RemoveProperty owner name)

abbrev pub add_tileset_form : LineForm Line
add_tileset_form = Field Number λ first_id. Text (AddTileset first_id)

abbrev pub remove_tileset_form : LineForm Line
remove_tileset_form = Field Number λ first_id. Ends (RemoveTileset first_id)

abbrev pub goto_form : LineForm Line
goto_form = Field Number λ index. Ends (Goto index)

abbrev pub begin_form : LineForm Line
begin_form = Texts Begin

abbrev pub limit_form : LineForm Line
limit_form = Field Number λ limit. Ends (Limit limit)

abbrev pub step_text_form : LineForm Line
step_text_form = Field Number λ i. Ends (StepText i)

-- what is selected
abbrev pub select_lines : List (List ℕ × LineForm Line)
select_lines =
    (codes "replace", select_form Replace)
    ∷ (codes "add", select_form Add)
    ∷ (codes "subtract", select_form Subtract)
    ∷ (codes "intersect", select_form Intersect)
    ∷ (codes "none", Ends SelectNone)
    ∷ []

-- what is done with a layer
abbrev pub layer_lines : List (List ℕ × LineForm Line)
layer_lines =
    (codes "add", add_layer_form)
    ∷ (codes "remove", remove_layer_form)
    ∷ (codes "rename", rename_layer_form)
    ∷ (codes "show", show_layer_form)
    ∷ (codes "move", move_layer_form)
    ∷ []

-- what is done with an object
abbrev pub object_lines : List (List ℕ × LineForm Line)
object_lines =
    (codes "move", move_object_form false)
    ∷ (codes "move+", move_object_form true)
    ∷ (codes "add", add_object_form)
    ∷ (codes "resize", resize_object_form)
    ∷ (codes "remove", remove_object_form)
    ∷ []

-- what is done with a property
abbrev pub property_lines : List (List ℕ × LineForm Line)
property_lines =
    (codes "set", set_property_form false)
    ∷ (codes "set+", set_property_form true)
    ∷ (codes "remove", remove_property_form)
    ∷ []

-- what is done with a tileset
abbrev pub tileset_lines : List (List ℕ × LineForm Line)
tileset_lines = (codes "add", add_tileset_form) ∷ (codes "remove", remove_tileset_form) ∷ []

-- the commands of most lines
abbrev pub common_commands : List (List ℕ × LineForm Line)
common_commands =
    (codes "stamp", stamp_form false)
    ∷ (codes "stamp+", stamp_form true)
    ∷ (codes "undo", Ends Undo)
    ∷ (codes "redo", Ends Redo)
    ∷ (codes "tile", tile_form)
    ∷ (codes "use", use_form)
    ∷ (codes "status", Ends Status)
    ∷ (codes "undotext", Ends UndoText)
    ∷ (codes "redotext", Ends RedoText)
    ∷ (codes "object", choose object_lines BadWord)
    ∷ (codes "goto", goto_form)
    ∷ (codes "erase", erase_form false)
    ∷ (codes "fill", fill_form)
    ∷ []

-- the commands of the others
abbrev pub rare_commands : List (List ℕ × LineForm Line)
rare_commands =
    (codes "begin", begin_form)
    ∷ (codes "end", Ends End)
    ∷ (codes "select", choose select_lines BadWord)
    ∷ (codes "layer", choose layer_lines BadWord)
    ∷ (codes "prop", choose property_lines BadWord)
    ∷ (codes "erase+", erase_form true)
    ∷ (codes "tileset", choose tileset_lines BadWord)
    ∷ (codes "resize", resize_form)
    ∷ (codes "text", step_text_form)
    ∷ (codes "clean", Ends Clean)
    ∷ (codes "dirty", Ends Dirty)
    ∷ (codes "clear", Ends Clear)
    ∷ (codes "limit", limit_form)
    ∷ (codes "show", Ends Show)
    ∷ (codes "new", new_form)
    ∷ (codes "open", open_form)
    ∷ (codes "save", save_form)
    ∷ (codes "close", close_form)
    ∷ (codes "discard", discard_form)
    ∷ (codes "list", Ends Documents)
    ∷ []

-- the form of all lines but the quiet ones
abbrev pub line_form : LineForm Line
line_form = choose (common_commands ++ rare_commands) UnknownCommand

-- nothing, spaces alone, or a comment
abbrev pub is_quiet : List ℕ → Bool
is_quiet [] = true
is_quiet (b ∷ bytes) = (b == 35) || list_all (λ c. c == 32) (b ∷ bytes)

-- the line that a text is, or its fault
unfoldable pub line_of : List ℕ → Result Line LineFault
line_of bytes =
    if nat_lt MAX_LINE (length bytes) then Err TooLong
    else if not (is_utf8 bytes) then Err NotUtf8
    else if is_quiet bytes then Ok Quiet
    else read line_form (words bytes)
