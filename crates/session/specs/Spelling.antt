-- How a line is spelled, and that this spelling is read.
use Rattle.std.specs.Prelude.{◌≡◌, ◌≢◌, ℕ, ◌^◌, ◌%◌, ◌<◌, ◌≤◌, ℤ, pos, neg_ℤ, ◌≤ℤ◌, Bool, true, false, List, [], ◌∷◌, ◌++◌, length, map, All, slice_index}
use Rattle.std.specs.Prelude.{IsTrue, Option, None, Some, IfSome, Ok, Err, codes, decimal, ⊤, ◌||◌}
use Rattle.std.specs.List.{join_with_byte, flat_map, AllByRecursion}
use Rattle.std.specs.Fmt.{signed_decimal}
use Rattle.std.specs.Str.{IsUtf8}
use Rattle.session.specs.declared.limits.TheConstants.{MAX_LINE, MAX_DOCUMENT_NAME, MAX_FILE_NAME, MAX_TEXT, MAX_KEY, MAX_COORDINATE}
use Rattle.map_model.specs.declared.limits.TheConstants.{MAX_SIDE}
use Rattle.session.specs.declared.line.Line.{Line}
use Rattle.session.specs.declared.line.Line.TheVariants.{Quiet, New, Open, Save, Close, Discard, Use, Documents, Stamp, Erase, Fill, Select, SelectNone, Tile}
use Rattle.session.specs.declared.line.Line.TheVariants.{AddLayer, RemoveLayer, RenameLayer, ShowLayer, MoveLayer, Resize, AddObject, MoveObject, ResizeObject}
use Rattle.session.specs.declared.line.Line.TheVariants.{RemoveObject, SetProperty, RemoveProperty, AddTileset, RemoveTileset, Undo, Redo, Goto, Clean, Dirty}
use Rattle.session.specs.declared.line.Line.TheVariants.{Clear, Begin, End, Limit, Show, Status, UndoText, RedoText, StepText}
use Rattle.refusals.specs.declared.line_fault.LineFault.TheVariants.{TooLong}
use Rattle.map_model.specs.declared.parts.LayerKind.{LayerKind}
use Rattle.map_model.specs.declared.parts.LayerKind.TheVariants as kinds
use Rattle.map_model.specs.declared.selection.SelectionMode.{SelectionMode}
use Rattle.map_model.specs.declared.selection.SelectionMode.TheVariants.{Replace, Add, Subtract, Intersect}
use Rattle.map_model.specs.declared.owner.MemberOwner.{MemberOwner}
use Rattle.map_model.specs.declared.owner.MemberOwner.TheVariants as members
use Rattle.map_model.specs.declared.owner.Owner.{Owner}
use Rattle.map_model.specs.declared.owner.Owner.TheVariants as owners
use Rattle.session.specs.declared.typed_value.TypedValue.{TypedValue}
use Rattle.session.specs.declared.typed_value.TypedValue.TheVariants as typed
use Rattle.session.specs.Words.{words, bars, is_name_byte, is_color}
use Rattle.session.specs.Grammar.{FieldKind, Number, Coordinate, Block, Name, File, Choice, LayerSort, YesNo, Truth, Key}
use Rattle.session.specs.Grammar.{Color, OwnerName, OwnerOfMembers, FieldValue}
use Rattle.session.specs.Grammar.{is_quiet, line_of}

-- words with one space between each two
abbrev pub spaced : List (List ℕ) → List ℕ
spaced ws = join_with_byte 32 ws

-- numbers with one comma between each two
abbrev pub commas : List ℕ → List ℕ
commas ns = join_with_byte 44 (map decimal ns)

-- the word of a kind of layer
abbrev pub layer_kind_word : LayerKind → List ℕ
layer_kind_word kinds.Tile = codes "tile"
layer_kind_word kinds.Object = codes "object"

-- yes or no
abbrev pub yes_no_word : Bool → List ℕ
yes_no_word true = codes "yes"
yes_no_word false = codes "no"

-- true or false
abbrev pub truth_word : Bool → List ℕ
truth_word true = codes "true"
truth_word false = codes "false"

-- pieces with one colon between each two
abbrev pub colons : List (List ℕ) → List ℕ
colons pieces = join_with_byte 58 pieces

-- the word of an owner
abbrev pub owner_word : Owner → List ℕ
owner_word owners.Map = codes "map"
owner_word (owners.Layer id) = colons (codes "layer" ∷ decimal id ∷ [])
owner_word (owners.Object id) = colons (codes "object" ∷ decimal id ∷ [])

-- the word of an owner of members
abbrev pub member_owner_word : MemberOwner → List ℕ
member_owner_word members.Map = owner_word owners.Map
member_owner_word (members.Layer id) = owner_word (owners.Layer id)
member_owner_word (members.Object id) = owner_word (owners.Object id)
member_owner_word (members.Tileset id) = colons (codes "tileset" ∷ decimal id ∷ [])

-- the text of a macro, and the text of its action behind bars, where it is given
abbrev pub joined_by_bars : List ℕ → Option (List ℕ) → List ℕ
joined_by_bars text None = text
joined_by_bars text (Some action) = text ++ (bars ++ action)

-- a token of a spelled line: a word that is written out, a field with its value, a text that goes to the end, or the texts
-- of a macro or a JSON text, which go there too
pub data Token : Type 0 where
  Fixed : List ℕ → Token
  Given : (kind : FieldKind) → FieldValue kind → Token
  Rest : List ℕ → Token
  RestTexts : List ℕ → Option (List ℕ) → Token
  RestJson : List ℕ → Token

-- the word of a line that may follow the step before it: a `+` says that it does
abbrev pub leading : List ℕ → Bool → List ℕ
leading word false = word
leading word true = word ++ codes "+"

-- the word of a way to select
abbrev pub selection_mode_word : SelectionMode → List ℕ
selection_mode_word Replace = codes "replace"
selection_mode_word Add = codes "add"
selection_mode_word Subtract = codes "subtract"
selection_mode_word Intersect = codes "intersect"

-- the tokens of a property's type and value
abbrev pub value_tokens : TypedValue → List Token
value_tokens (typed.String text) = Fixed (codes "string") ∷ Rest text ∷ []
value_tokens (typed.File text) = Fixed (codes "file") ∷ Rest text ∷ []
value_tokens (typed.Int number) = Fixed (codes "int") ∷ Given Coordinate number ∷ []
value_tokens (typed.Bool truth) = Fixed (codes "bool") ∷ Given Truth truth ∷ []
value_tokens (typed.Color color) = Fixed (codes "color") ∷ Given Color color ∷ []
value_tokens (typed.Object id) = Fixed (codes "object") ∷ Given Number id ∷ []

-- the tokens of each line; a quiet one has none
abbrev pub tokens : Line → List Token
tokens Quiet = []
tokens (New name width height tile_width tile_height source) =
    Fixed (codes "new") ∷ Given Name name ∷ Given Number width ∷ Given Number height ∷ Given Number tile_width
    ∷ Given Number tile_height ∷ Rest source ∷ []
tokens (Open name file) = Fixed (codes "open") ∷ Given Name name ∷ Given File file ∷ []
tokens (Save file) = Fixed (codes "save") ∷ Given File file ∷ []
tokens (Close name) = Fixed (codes "close") ∷ Given Name name ∷ []
tokens (Discard name) = Fixed (codes "discard") ∷ Given Name name ∷ []
tokens (Use choice) = Fixed (codes "use") ∷ Given Choice choice ∷ []
tokens Documents = Fixed (codes "list") ∷ []
tokens (Stamp layer x y width values follows) =
    Fixed (leading (codes "stamp") follows) ∷ Given Number layer ∷ Given Coordinate x ∷ Given Coordinate y
    ∷ Given Block (width, values) ∷ []
tokens (Erase layer x y width height follows) =
    Fixed (leading (codes "erase") follows) ∷ Given Number layer ∷ Given Coordinate x ∷ Given Coordinate y ∷ Given Number width
    ∷ Given Number height ∷ []
tokens (Fill layer x y value) =
    Fixed (codes "fill") ∷ Given Number layer ∷ Given Coordinate x ∷ Given Coordinate y ∷ Given Number value ∷ []
tokens (Select mode x y width height) =
    Fixed (codes "select") ∷ Fixed (selection_mode_word mode) ∷ Given Coordinate x ∷ Given Coordinate y ∷ Given Number width
    ∷ Given Number height ∷ []
tokens SelectNone = Fixed (codes "select") ∷ Fixed (codes "none") ∷ []
tokens (Tile layer x y) = Fixed (codes "tile") ∷ Given Number layer ∷ Given Coordinate x ∷ Given Coordinate y ∷ []
tokens (AddLayer kind name) = Fixed (codes "layer") ∷ Fixed (codes "add") ∷ Given LayerSort kind ∷ Rest name ∷ []
tokens (RemoveLayer layer) = Fixed (codes "layer") ∷ Fixed (codes "remove") ∷ Given Number layer ∷ []
tokens (RenameLayer layer name) = Fixed (codes "layer") ∷ Fixed (codes "rename") ∷ Given Number layer ∷ Rest name ∷ []
tokens (ShowLayer layer visible) =
    Fixed (codes "layer") ∷ Fixed (codes "show") ∷ Given Number layer ∷ Given YesNo visible ∷ []
tokens (MoveLayer layer place) =
    Fixed (codes "layer") ∷ Fixed (codes "move") ∷ Given Number layer ∷ Given Number place ∷ []
tokens (Resize width height dx dy) =
    Fixed (codes "resize") ∷ Given Number width ∷ Given Number height ∷ Given Coordinate dx ∷ Given Coordinate dy ∷ []
tokens (AddObject layer x y width height name) =
    Fixed (codes "object") ∷ Fixed (codes "add") ∷ Given Number layer ∷ Given Coordinate x ∷ Given Coordinate y
    ∷ Given Number width ∷ Given Number height ∷ Rest name ∷ []
tokens (MoveObject object x y follows) =
    Fixed (codes "object") ∷ Fixed (leading (codes "move") follows) ∷ Given Number object ∷ Given Coordinate x ∷ Given Coordinate y ∷ []
tokens (ResizeObject object width height) =
    Fixed (codes "object") ∷ Fixed (codes "resize") ∷ Given Number object ∷ Given Number width ∷ Given Number height ∷ []
tokens (RemoveObject object) = Fixed (codes "object") ∷ Fixed (codes "remove") ∷ Given Number object ∷ []
tokens (SetProperty owner name value follows) =
    Fixed (codes "prop") ∷ Fixed (leading (codes "set") follows) ∷ Given OwnerName owner ∷ Given Key name ∷ value_tokens value
tokens (RemoveProperty owner name) =
    Fixed (codes "prop") ∷ Fixed (codes "remove") ∷ Given OwnerName owner ∷ Given Key name ∷ []
tokens (AddTileset first_id source) =
    Fixed (codes "tileset") ∷ Fixed (codes "add") ∷ Given Number first_id ∷ Rest source ∷ []
tokens (RemoveTileset first_id) = Fixed (codes "tileset") ∷ Fixed (codes "remove") ∷ Given Number first_id ∷ []
tokens Undo = Fixed (codes "undo") ∷ []
tokens Redo = Fixed (codes "redo") ∷ []
tokens (Goto index) = Fixed (codes "goto") ∷ Given Number index ∷ []
tokens Clean = Fixed (codes "clean") ∷ []
tokens Dirty = Fixed (codes "dirty") ∷ []
tokens Clear = Fixed (codes "clear") ∷ []
tokens (Begin text action) = Fixed (codes "begin") ∷ RestTexts text action ∷ []
tokens End = Fixed (codes "end") ∷ []
tokens (Limit limit) = Fixed (codes "limit") ∷ Given Number limit ∷ []
tokens Show = Fixed (codes "show") ∷ []
tokens Status = Fixed (codes "status") ∷ []
tokens UndoText = Fixed (codes "undotext") ∷ []
tokens RedoText = Fixed (codes "redotext") ∷ []
tokens (StepText i) = Fixed (codes "text") ∷ Given Number i ∷ []

-- the word of a document's name, or of none
abbrev pub choice_word : Option (List ℕ) → List ℕ
choice_word None = codes "-"
choice_word (Some name) = name

-- the words of a field
abbrev pub field_words : (kind : FieldKind) → FieldValue kind → List (List ℕ)
field_words Number n = decimal n ∷ []
field_words Coordinate z = signed_decimal z ∷ []
field_words Block block = decimal block.0 ∷ commas block.1 ∷ []
field_words Name name = name ∷ []
field_words File name = name ∷ []
field_words Choice choice = choice_word choice ∷ []
field_words LayerSort kind = layer_kind_word kind ∷ []
field_words YesNo answer = yes_no_word answer ∷ []
field_words Truth truth = truth_word truth ∷ []
field_words Key name = name ∷ []
field_words Color color = color ∷ []
field_words OwnerName owner = owner_word owner ∷ []
field_words OwnerOfMembers owner = member_owner_word owner ∷ []

-- the words of a token
abbrev pub token_words : Token → List (List ℕ)
token_words (Fixed word) = word ∷ []
token_words (Given kind value) = field_words kind value
token_words (Rest text) = words text
token_words (RestTexts text action) = words (joined_by_bars text action)
token_words (RestJson json) = words json

-- the spelling of a line; a quiet one has others too
abbrev pub spelling : Line → List ℕ
spelling line = spaced (flat_map token_words (tokens line))

-- a number that a word can be
abbrev pub IsNumber : ℕ → Type 0
IsNumber n = n < 2 ^ 32

-- a coordinate that a word can be
pub record IsCoordinate (z : ℤ) : Type 0 where
  pub low : neg_ℤ (pos MAX_COORDINATE) ≤ℤ z
  pub high : z ≤ℤ pos MAX_COORDINATE

-- a name up to that limit
pub record IsName (limit : ℕ) (name : List ℕ) : Type 0 where
  pub some : 1 ≤ length name
  pub short : length name ≤ limit
  pub no_dot : slice_index name 0 ≢ 46
  pub no_dash : slice_index name 0 ≢ 45
  pub bytes : All (λ b. IsTrue (is_name_byte b)) name

-- a text of a line
pub record IsText (text : List ℕ) : Type 0 where
  pub some : 1 ≤ length text
  pub short : length text ≤ MAX_TEXT
  pub bytes : All (λ b. (32 ≤ b) × (b ≢ 127)) text
  pub utf8 : IsUtf8 text

-- a piece stands nowhere in the bytes
abbrev pub IsNotIn : List ℕ → List ℕ → Type 0
IsNotIn piece bytes = (prefix back : List ℕ) → bytes ≢ prefix ++ (piece ++ back)

-- a piece does not stand at the end of the bytes
abbrev pub IsNotEndOf : List ℕ → List ℕ → Type 0
IsNotEndOf piece bytes = (prefix : List ℕ) → bytes ≢ prefix ++ piece

-- the text holds no bars, and in front of an action its end makes none with the bars behind it
abbrev pub HasNoBars : List ℕ → Option (List ℕ) → Type 0
HasNoBars text None = IsNotIn bars text
HasNoBars text (Some action) = IsNotIn bars text × IsNotEndOf (codes " ||") text

-- the texts of a macro
pub record AreTexts (text : List ℕ) (action : Option (List ℕ)) : Type 0 where
  pub first : IsText text
  pub second : IfSome action IsText
  pub no_bars : HasNoBars text action

-- the values are whole rows of a block of that width
pub record AreRows (width : ℕ) (values : List ℕ) : Type 0 where
  pub some : 1 ≤ width
  pub narrow : width ≤ MAX_SIDE
  pub rows : length values % width ≡ 0
  pub filled : 1 ≤ length values
  pub numbers : All IsNumber values

-- a document's name, or none
abbrev pub IsChoice : Option (List ℕ) → Type 0
IsChoice choice = IfSome choice (IsName MAX_DOCUMENT_NAME)

-- a property's name that a line can give
pub record IsKey (name : List ℕ) : Type 0 where
  pub some : 1 ≤ length name
  pub short : length name ≤ MAX_KEY
  pub bytes : All (λ b. (33 ≤ b) × (b ≢ 127)) name
  pub utf8 : IsUtf8 name

-- an owner whose id a word can be
abbrev pub IsOwner : Owner → Type 0
IsOwner owners.Map = ⊤
IsOwner (owners.Layer id) = IsNumber id
IsOwner (owners.Object id) = IsNumber id

-- an owner of members whose id a word can be
abbrev pub IsMemberOwner : MemberOwner → Type 0
IsMemberOwner members.Map = IsOwner owners.Map
IsMemberOwner (members.Layer id) = IsOwner (owners.Layer id)
IsMemberOwner (members.Object id) = IsOwner (owners.Object id)
IsMemberOwner (members.Tileset id) = IsNumber id

-- a JSON text of a line; what it says is not looked at
pub record IsJsonText (json : List ℕ) : Type 0 where
  pub some : 1 ≤ length json
  pub utf8 : IsUtf8 json

-- a value that a field can be
abbrev pub IsField : (kind : FieldKind) → FieldValue kind → Type 0
IsField Number n = IsNumber n
IsField Coordinate z = IsCoordinate z
IsField Block block = AreRows block.0 block.1
IsField Name name = IsName MAX_DOCUMENT_NAME name
IsField File name = IsName MAX_FILE_NAME name
IsField Choice choice = IsChoice choice
IsField LayerSort kind = ⊤
IsField YesNo answer = ⊤
IsField Truth truth = ⊤
IsField Key name = IsKey name
IsField Color color = IsTrue (is_color color)
IsField OwnerName owner = IsOwner owner
IsField OwnerOfMembers owner = IsMemberOwner owner

-- a token that can be spelled
abbrev pub IsToken : Token → Type 0
IsToken (Fixed word) = ⊤
IsToken (Given kind value) = IsField kind value
IsToken (Rest text) = IsText text
IsToken (RestTexts text action) = AreTexts text action
IsToken (RestJson json) = IsJsonText json

-- whether a token is a block
abbrev pub is_block_token : Token → Bool
is_block_token (Given Block block) = true
is_block_token token = false

-- whether a token of a line is a block
abbrev pub has_block : List Token → Bool
has_block [] = false
has_block (t ∷ ts) = has_block ts || is_block_token t

-- the lines that have a spelling: their tokens have one, and with a block it is not too long
abbrev pub CanBeSpelled : Line → Type 0
CanBeSpelled line =
    AllByRecursion IsToken (tokens line) × (IsTrue (has_block (tokens line)) → length (spelling line) ≤ MAX_LINE)

-- the bytes say the line: they are its spelling, and for a quiet line nothing, spaces alone or a comment
abbrev pub Says : List ℕ → Line → Type 0
Says bytes Quiet = IsTrue (is_quiet bytes)
Says bytes line = bytes ≡ spelling line

-- a line that can be spelled, and is, is read as that line
abbrev pub SpelledIsRead : Type 0
SpelledIsRead = (line : Line) → CanBeSpelled line → line_of (spelling line) ≡ Ok line

-- what is read as a line says that line, which can be spelled
abbrev pub ReadIsSpelled : Type 0
ReadIsSpelled =
    (bytes : List ℕ) (line : Line) → line_of bytes ≡ Ok line → Says bytes line × CanBeSpelled line

-- what is too long is never read
abbrev pub LongIsNotRead : Type 0
LongIsNotRead = (bytes : List ℕ) → MAX_LINE < length bytes → line_of bytes ≡ Err TooLong

-- each quiet text is read as a quiet line
abbrev pub QuietIsRead : Type 0
QuietIsRead =
    (bytes : List ℕ) → length bytes ≤ MAX_LINE → IsUtf8 bytes → IsTrue (is_quiet bytes) → line_of bytes ≡ Ok Quiet
