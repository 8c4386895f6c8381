-- What is answered for a text that is to be laid out.
use Rattle.std.specs.Prelude.{◌≡◌, ◌≤◌, IsUtf8, ℕ, List, Option, Some, None, option_map, Result, Ok, Err, Vec}
use Rattle.std.specs.Global.{Global}
use Rattle.json.specs.Token.{Token}
use Rattle.serde_json.specs.Data.{Data, depth, null, boolean, number, string}
use Rattle.serde_json.specs.Read.{read, max_depth, number_of}
use Rattle.serde_json.specs.View.{view}
use Rattle.serde_json.specs.declared.value.Value.{Value}
use Rattle.json_trees.specs.Texts.{IsTreeOf}
use Rattle.map_layout.specs.declared.fault.LayoutFault.{LayoutFault}
use Rattle.map_layout.specs.declared.fault.LayoutFault.TheVariants.{Memory, NotJson, TooDeep}

-- the bytes have no tree
abbrev pub HasNoTree : List ℕ → Type 0
HasNoTree bytes = IsUtf8 bytes → read bytes ≡ None

-- a fault that is answered for bytes
abbrev pub IsFaultOf : List ℕ → LayoutFault → Type 0
IsFaultOf bytes Memory = Unit {0}
IsFaultOf bytes NotJson = HasNoTree bytes
IsFaultOf bytes TooDeep = HasNoTree bytes

-- the text has a tree, and the text that is answered has the same
abbrev pub LaysOut : List ℕ → Result (Vec ℕ Global) LayoutFault → Type 0
LaysOut text (Ok laid) = (d : Data) × IsTreeOf text d × IsTreeOf laid.items d
LaysOut text (Err fault) = IsFaultOf text fault

-- where text and source have the same tree, the source itself is answered
abbrev pub Keeps : List ℕ → List ℕ → Result (Vec ℕ Global) LayoutFault → Type 0
Keeps text source (Ok laid) = (d : Data) → IsTreeOf text d → IsTreeOf source d → laid.items ≡ source
Keeps text source (Err fault) = Unit {0}

-- ---- within both
-- the tree that the bytes have
abbrev pub Reads : List ℕ → Result Value LayoutFault → Type 0
Reads bytes (Ok value) = IsTreeOf bytes (view value) × (depth (view value) ≤ max_depth)
Reads bytes (Err fault) = IsFaultOf bytes fault

-- the value has the tree of the text, and nests no deeper than a text may
abbrev pub IsTreeIn : List ℕ → Value → Type 0
IsTreeIn text value = (read text ≡ Some (view value)) × (depth (view value) ≤ max_depth)

-- what is read of bytes
abbrev pub ReadsTree : List ℕ → Option Value → Type 0
ReadsTree bytes (Some value) = IsTreeOf bytes (view value) × (depth (view value) ≤ max_depth)
ReadsTree bytes None = HasNoTree bytes

-- the tree that a token is, if it is all of one
abbrev pub leaf_of : Token → Option Data
leaf_of Token.begin_object = None
leaf_of Token.end_object = None
leaf_of Token.begin_array = None
leaf_of Token.end_array = None
leaf_of (Token.key s) = None
leaf_of (Token.string s) = Some (string s)
leaf_of (Token.number s) = option_map number (number_of s)
leaf_of (Token.boolean b) = Some (boolean b)
leaf_of Token.null = Some null
leaf_of Token.bad = None
