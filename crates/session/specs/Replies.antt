-- The text of each reply.
use Rattle.std.specs.Prelude.{ℕ, ◌==◌, List, [], ◌∷◌, ◌++◌, Option, None, Some, bit_and, codes, if◌then◌else◌, decimal}
use Rattle.refusals.specs.declared.refusal.Refusal.{Refusal}
use Rattle.refusals.specs.Words.{refusal_text}
use Rattle.session.specs.declared.reply.LocalTile.{LocalTile}
use Rattle.session.specs.declared.reply.Reply.{Reply}
use Rattle.session.specs.declared.reply.Reply.TheVariants.{State, NoDocument, Documents, Saved, Text, Map, EmptyTile, Tile, Refused}

-- the letter where the value has the flag, and a dash where it has not
abbrev pub flag_letter : ℕ → ℕ → List ℕ → List ℕ
flag_letter value flag letter = if bit_and value flag == 0 then codes "-" else letter

-- the four flags of a tile value
abbrev pub flags_text : ℕ → List ℕ
flags_text value =
    flag_letter value 0x80000000 (codes "h") ++ flag_letter value 0x40000000 (codes "v")
    ++ flag_letter value 0x20000000 (codes "d") ++ flag_letter value 0x10000000 (codes "r")

-- the first id of a tileset and the local id of its tile
abbrev pub local_text : Option LocalTile → List ℕ
local_text None = codes "none"
local_text (Some tile) = decimal tile.first_id ++ codes " " ++ decimal tile.local_id

-- what stands behind the head
abbrev pub body_of : Reply → List ℕ
body_of (Documents names) = names
body_of (Text text) = text
body_of (Map text) = text
body_of reply = []

-- a word and a text, with a space between them, where there is a text
abbrev pub word_and : List ℕ → List ℕ → List ℕ
word_and word [] = word
word_and word (b ∷ text) = word ++ codes " " ++ b ∷ text

abbrev pub reply_text : Reply → List ℕ
reply_text (State index count clean depth) =
    codes "ok " ++ decimal index ++ codes "/" ++ decimal count
    ++ (if clean then codes " clean " else codes " dirty ") ++ decimal depth
reply_text NoDocument = codes "ok none clean"
reply_text (Documents names) = word_and (codes "docs") names
reply_text (Saved file size) = codes "saved " ++ file ++ codes " " ++ decimal size
reply_text (Text text) = word_and (codes "text") text
reply_text (Map text) = codes "map " ++ text
reply_text EmptyTile = codes "tile 0"
reply_text (Tile value local) =
    codes "tile " ++ decimal value ++ codes " " ++ flags_text value ++ codes " "
    ++ local_text local
reply_text (Refused refusal) = codes "no " ++ refusal_text refusal

-- the refusal that a reply is, where it is one
abbrev pub refusal_of : Reply → Option Refusal
refusal_of (Refused refusal) = Some refusal
refusal_of reply = None
