-- Lexemes from which JSON is read that needs nothing set aside. Only the crate's private clauses cite it.
use Rattle.std.specs.Prelude.{◌≡◌, ◌⊎◌, ℕ, ◌+◌, ◌-◌, ◌<◌, ◌≤◌, true, false, List, [], ◌∷◌, length, drop, get_or, codes, Option, Some, None}
use Rattle.json.specs.Token.{Token, begin_object, end_object, begin_array, end_array, key, string, number, boolean, null, bad}
use Rattle.json.specs.Text.{content, plain}
use Rattle.json.specs.Word.{ends_word}
use Rattle.json.specs.Lex.{Lexeme, token, comma, colon, lex, between, in_string}
use Rattle.serde_json.specs.Data.{Num}
use Rattle.serde_json.specs.Find.{is_float}
use Rattle.serde_json.specs.Read.{number_of}
use Rattle.fractions.specs.Aside.{reserved_name}
use Rattle.tiled_maps.specs.Packed.{compression, note_name}

abbrev pub infinite : List ℕ
infinite = codes "infinite"

-- what a number's text reads as is no fraction
abbrev pub IsWhole : List ℕ → Type 0
IsWhole s = (n : Num) → number_of s ≡ Some n → is_float n ≡ false

-- the value that begins here is `false`, or a fault
abbrev pub BeginFalse : List Lexeme → Type 0
BeginFalse [] = ⊥
BeginFalse (token begin_object ∷ ls) = ⊥
BeginFalse (token end_object ∷ ls) = ⊥
BeginFalse (token begin_array ∷ ls) = ⊥
BeginFalse (token end_array ∷ ls) = ⊥
BeginFalse (token (key s) ∷ ls) = ⊥
BeginFalse (token (string s) ∷ ls) = ⊥
BeginFalse (token (number s) ∷ ls) = ⊥
BeginFalse (token (boolean true) ∷ ls) = ⊥
BeginFalse (token (boolean false) ∷ ls) = Unit {0}
BeginFalse (token null ∷ ls) = ⊥
BeginFalse (token bad ∷ ls) = Unit {0}
BeginFalse (comma ∷ ls) = ⊥
BeginFalse (colon ∷ ls) = ⊥

-- a colon stands here, and then `false`, or a fault
abbrev pub AreFalse : List Lexeme → Type 0
AreFalse [] = ⊥
AreFalse (token t ∷ ls) = ⊥
AreFalse (comma ∷ ls) = ⊥
AreFalse (colon ∷ ls) = BeginFalse ls

-- the value that begins here is a text of nothing
abbrev pub BeginEmpty : List Lexeme → Type 0
BeginEmpty [] = ⊥
BeginEmpty (token begin_object ∷ ls) = ⊥
BeginEmpty (token end_object ∷ ls) = ⊥
BeginEmpty (token begin_array ∷ ls) = ⊥
BeginEmpty (token end_array ∷ ls) = ⊥
BeginEmpty (token (key s) ∷ ls) = ⊥
BeginEmpty (token (string []) ∷ ls) = Unit {0}
BeginEmpty (token (string (c ∷ s)) ∷ ls) = ⊥
BeginEmpty (token (number s) ∷ ls) = ⊥
BeginEmpty (token (boolean b) ∷ ls) = ⊥
BeginEmpty (token null ∷ ls) = ⊥
BeginEmpty (token bad ∷ ls) = ⊥
BeginEmpty (comma ∷ ls) = ⊥
BeginEmpty (colon ∷ ls) = ⊥

-- a colon stands here, and then a text of nothing
abbrev pub AreEmpty : List Lexeme → Type 0
AreEmpty [] = ⊥
AreEmpty (token t ∷ ls) = ⊥
AreEmpty (comma ∷ ls) = ⊥
AreEmpty (colon ∷ ls) = BeginEmpty ls

-- a name that is none of those of notes
abbrev pub IsOwnName : List ℕ → Type 0
IsOwnName s = (s ≡ reserved_name → ⊥) × (s ≡ note_name → ⊥)

-- the text s, before the lexemes ls
abbrev pub IsPlainText : List ℕ → List Lexeme → Type 0
IsPlainText s ls = IsOwnName s × (s ≡ infinite → AreFalse ls) × (s ≡ compression → AreEmpty ls)

abbrev pub First : Token → List Lexeme → Type 0 → Type 0
First begin_object ls later = later
First end_object ls later = later
First begin_array ls later = later
First end_array ls later = later
First (key s) ls later = Unit {0}
First (string s) ls later = IsPlainText s ls × later
First (number s) ls later = IsWhole s × later
First (boolean b) ls later = later
First null ls later = later
First bad ls later = Unit {0}

abbrev pub ArePlain : List Lexeme → Type 0
ArePlain [] = Unit {0}
ArePlain (token t ∷ ls) = First t ls (ArePlain ls)
ArePlain (comma ∷ ls) = ArePlain ls
ArePlain (colon ∷ ls) = ArePlain ls

-- what is read of a text begins with a byte that is no lowercase letter and no underscore
abbrev pub IsOther : ℕ → Type 0
IsOther c = (c < 95) ⊎ (122 < c)

abbrev pub BeginsOther : Option (List ℕ) → Type 0
BeginsOther None = Unit {0}
BeginsOther (Some []) = ⊥
BeginsOther (Some (c ∷ s)) = IsOther c

-- the text that goes on at one place closes before another
pub record LeavesText (text : List ℕ) (from end : ℕ) : Type 0 where
  pub after : from < end
  pub within : end ≤ length text
  pub lexed : lex in_string (drop from text) ≡ lex between (drop end text)

-- The escape stands for no lowercase letter and no underscore, and behind it the text closes before another place.
pub record LeavesEscaped (text : List ℕ) (escape end : ℕ) : Type 0 where
  pub inside : escape + 1 < length text
  pub other : BeginsOther (content plain (drop escape text))
  pub closed : LeavesText text (escape + 2) end

-- the first byte of `true`, `false` or `null`
abbrev pub BeginsLiteral : ℕ → Type 0
BeginsLiteral x = ((x ≡ 116) ⊎ (x ≡ 102)) ⊎ (x ≡ 110)

-- the last byte is a brace or a line feed
abbrev pub EndsWell : List ℕ → Type 0
EndsWell text = (get_or text (length text - 1) 0 ≡ 125) ⊎ (get_or text (length text - 1) 0 ≡ 10)

-- the look passes from one place to another: if nothing from there on needs to be set aside, neither does the text in between
abbrev pub Leads : List ℕ → ℕ → ℕ → Type 0
Leads text at end = (at < end) × (end ≤ length text) × (ArePlain (lex between (drop end text)) → ArePlain (lex between (drop at text)))

-- a word ends at a place, and the look goes on at the next one
pub record Ends (text : List ℕ) (end next : ℕ) : Type 0 where
  pub ended : ends_word (drop end text) ≡ true
  pub after : end ≤ next
  pub within : next ≤ length text
  pub plain : ArePlain (lex between (drop next text)) → ArePlain (lex between (drop end text))
