-- The number and the words of each refusal.
use Rattle.std.specs.Prelude.{ℕ, List, codes}
use Rattle.refusals.specs.declared.edit_fault.EditFault.{EditFault}
use Rattle.refusals.specs.declared.edit_fault.EditFault.TheVariants as edit_faults
use Rattle.refusals.specs.declared.line_fault.LineFault.{LineFault}
use Rattle.refusals.specs.declared.line_fault.LineFault.TheVariants as line_faults
use Rattle.refusals.specs.declared.map_refusal.MapRefusal.{MapRefusal}
use Rattle.refusals.specs.declared.map_refusal.MapRefusal.TheVariants as map_refusals
use Rattle.refusals.specs.declared.more_fault.MoreFault.{MoreFault}
use Rattle.refusals.specs.declared.more_fault.MoreFault.TheVariants as more_faults
use Rattle.refusals.specs.declared.refusal.Refusal.{Refusal}
use Rattle.refusals.specs.declared.refusal.Refusal.TheVariants.{Line, NoActiveDocument, NameTaken, NoSuchDocument, UnsavedChanges}
use Rattle.refusals.specs.declared.refusal.Refusal.TheVariants.{Stack, Edit, Store, Map, MemberOfOtherLines, NoSuchMember, NoMemory}
use Rattle.refusals.specs.declared.stack_fault.StackFault.{StackFault}
use Rattle.refusals.specs.declared.stack_fault.StackFault.TheVariants as stack_faults
use Rattle.refusals.specs.declared.store_fault.StoreFault.{StoreFault}
use Rattle.refusals.specs.declared.store_fault.StoreFault.TheVariants as store_faults

abbrev pub memory_words : List ℕ
memory_words = codes "90 no memory"

abbrev pub line_words : LineFault → List ℕ
line_words line_faults.TooLong = codes "1 line too long"
line_words line_faults.NotUtf8 = codes "2 not UTF-8"
line_words line_faults.UnknownCommand = codes "3 unknown command"
line_words line_faults.BadWord = codes "4 bad word"

abbrev pub stack_words : StackFault → List ℕ
stack_words stack_faults.MacroOpen = codes "20 macro open"
stack_words stack_faults.NothingToUndo = codes "21 nothing to undo"
stack_words stack_faults.NothingToRedo = codes "22 nothing to redo"
stack_words stack_faults.NoMacroOpen = codes "23 no macro open"
stack_words stack_faults.TooDeep = codes "24 too deep"
stack_words stack_faults.NotEmpty = codes "25 stack not empty"
stack_words stack_faults.NoMemory = memory_words

abbrev pub edit_words : EditFault → List ℕ
edit_words edit_faults.NoSuchLayer = codes "30 no such layer"
edit_words edit_faults.LayerOfAnotherKind = codes "31 layer of another kind"
edit_words edit_faults.OutsideTheMap = codes "32 outside the map"
edit_words edit_faults.UnknownTile = codes "33 unknown tile"
edit_words edit_faults.NoSuchObject = codes "34 no such object"
edit_words edit_faults.NoSuchProperty = codes "35 no such property"
edit_words edit_faults.NoSuchTileset = codes "36 no such tileset"
edit_words edit_faults.TilesetInUse = codes "37 tileset in use"
edit_words edit_faults.FirstIdNotAbove = codes "38 first id not above the others"
edit_words edit_faults.OutOfRange = codes "39 out of range"
edit_words edit_faults.TooMany = codes "40 too many"
edit_words edit_faults.NoMemory = memory_words

abbrev pub store_words : StoreFault → List ℕ
store_words store_faults.Missing = codes "50 no such file"
store_words store_faults.Device = codes "51 store failed"
store_words store_faults.Memory = memory_words

abbrev pub map_words : MapRefusal → List ℕ
map_words map_refusals.NotJson = codes "60 not JSON"
map_words map_refusals.Fraction = codes "61 fraction"
map_words map_refusals.MemberMissing = codes "62 member missing"
map_words map_refusals.MemberOfAnotherKind = codes "63 member of another kind"
map_words map_refusals.Infinite = codes "64 infinite"
map_words map_refusals.Compressed = codes "65 compressed"
map_words map_refusals.BadData = codes "66 bad data"
map_words map_refusals.IdUsedTwice = codes "67 id used twice"
map_words map_refusals.OverLimit = codes "68 over a limit"
map_words map_refusals.NotAMap = codes "69 not a map"

abbrev pub other_lines_words : List ℕ
other_lines_words = codes "41 member of other lines"

abbrev pub no_member_words : List ℕ
no_member_words = codes "42 no such member"

abbrev pub more_words : MoreFault → List ℕ
more_words (more_faults.Edit fault) = edit_words fault
more_words (more_faults.Map refusal) = map_words refusal
more_words more_faults.MemberOfOtherLines = other_lines_words
more_words more_faults.NoSuchMember = no_member_words

-- a refusal's number and its words
abbrev pub refusal_text : Refusal → List ℕ
refusal_text (Line fault) = line_words fault
refusal_text NoActiveDocument = codes "10 no active document"
refusal_text NameTaken = codes "11 name taken"
refusal_text NoSuchDocument = codes "12 no such document"
refusal_text UnsavedChanges = codes "13 unsaved changes"
refusal_text (Stack fault) = stack_words fault
refusal_text (Edit fault) = edit_words fault
refusal_text (Store fault) = store_words fault
refusal_text (Map refusal) = map_words refusal
refusal_text MemberOfOtherLines = other_lines_words
refusal_text NoSuchMember = no_member_words
refusal_text NoMemory = memory_words
