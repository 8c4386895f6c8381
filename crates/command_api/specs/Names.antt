-- What a command is called: its texts and its tag, when it may vanish, and whether it follows.
use Rattle.std.specs.Prelude.{◌≡◌, ℕ, List, Option, None, Bool, true, false}
use Rattle.map_model.specs.Document.{DocumentParts}
use Rattle.command_api.specs.Tag.{Tag}

-- when a command is obsolete: never, when the documents on its two sides are equal, or when it says so itself
pub data Vanishing : Type 0 where
  Never : Vanishing
  WhenEqual : Vanishing
  Free : Vanishing

-- whether a command says itself when it is obsolete
abbrev pub is_free : Vanishing → Bool
is_free Never = false
is_free WhenEqual = false
is_free Free = true

-- the names of a command: its text for lists, the text of its action, its tag, when it vanishes, and whether it follows
-- the step before it
pub record Names : Type 0 where
  pub text : List ℕ
  pub action : List ℕ
  pub tag : Option Tag
  pub vanishing : Vanishing
  pub follows : Bool

-- the names of a command that has no tag and follows nothing
abbrev pub untagged : List ℕ → List ℕ → Vanishing → Names
untagged text action vanishing = record { text = text; action = action; tag = None; vanishing = vanishing; follows = false }

-- whether a change between these two documents is obsolete
abbrev pub IsSettled : Vanishing → Bool → DocumentParts → DocumentParts → Type 0
IsSettled Never obsolete here there = obsolete ≡ false
IsSettled WhenEqual obsolete here there = (obsolete ≡ true → there ≡ here) × (there ≡ here → obsolete ≡ true)
IsSettled Free obsolete here there = obsolete ≡ true → there ≡ here
