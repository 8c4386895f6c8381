-- How a line for all edits is spelled, and that this spelling is read.
use Rattle.std.specs.Prelude.{◌≡◌, ℕ, ◌<◌, ◌≤◌, List, [], ◌∷◌, length, Ok, Err, IsErr, codes}
use Rattle.std.specs.List.{flat_map, AllByRecursion}
use Rattle.map_model.specs.declared.parts.MoreLayerKind.{MoreLayerKind}
use Rattle.map_model.specs.declared.parts.MoreLayerKind.TheVariants.{Group, Image}
use Rattle.session.specs.declared.limits.TheConstants.{MAX_LINE}
use Rattle.session.specs.declared.more_line.MoreLine.{MoreLine}
use Rattle.session.specs.declared.more_line.MoreLine.TheVariants.{SetMember, PutMembers, RemoveMember, AddLayer, PutObject, PutLayer}
use Rattle.session.specs.declared.more_line.MoreLine.TheVariants.{ReparentObject, ReparentLayer, PutProperty, TakeProperty, PutTileset, NumberTileset, Extend}
use Rattle.refusals.specs.declared.line_fault.LineFault.TheVariants.{TooLong}
use Rattle.session.specs.Grammar.{Number, Key, OwnerName, OwnerOfMembers, line_of}
use Rattle.session.specs.MoreGrammar.{more_line_of}
use Rattle.session.specs.Spelling.{Token, Fixed, Given, Rest, RestJson, IsToken, leading, spaced, token_words}

-- the word of a further kind of layer
abbrev pub more_layer_kind_word : MoreLayerKind → List ℕ
more_layer_kind_word Group = codes "group"
more_layer_kind_word Image = codes "image"

-- the tokens of each line
abbrev pub more_tokens : MoreLine → List Token
more_tokens (SetMember owner name json follows) =
    Fixed (codes "member") ∷ Fixed (leading (codes "set") follows) ∷ Given OwnerOfMembers owner ∷ Given Key name ∷ RestJson json ∷ []
more_tokens (PutMembers owner json follows) =
    Fixed (codes "member") ∷ Fixed (leading (codes "put") follows) ∷ Given OwnerOfMembers owner ∷ RestJson json ∷ []
more_tokens (RemoveMember owner name) =
    Fixed (codes "member") ∷ Fixed (codes "remove") ∷ Given OwnerOfMembers owner ∷ Given Key name ∷ []
more_tokens (AddLayer kind name) = Fixed (codes "layer") ∷ Fixed (codes "add") ∷ Fixed (more_layer_kind_word kind) ∷ Rest name ∷ []
more_tokens (PutObject layer json) = Fixed (codes "object") ∷ Fixed (codes "put") ∷ Given Number layer ∷ RestJson json ∷ []
more_tokens (ReparentObject object layer place) =
    Fixed (codes "object")
    ∷ Fixed (codes "into")
    ∷ Given Number object
    ∷ Given Number layer
    ∷ Given Number place
    ∷ []
more_tokens (ReparentLayer layer group place) =
    Fixed (codes "layer")
    ∷ Fixed (codes "into")
    ∷ Given Number layer
    ∷ Given Number group
    ∷ Given Number place
    ∷ []
more_tokens (PutLayer group place json) =
    Fixed (codes "layer") ∷ Fixed (codes "put") ∷ Given Number group ∷ Given Number place ∷ RestJson json ∷ []
more_tokens (PutProperty owner json) = Fixed (codes "prop") ∷ Fixed (codes "put") ∷ Given OwnerName owner ∷ RestJson json ∷ []
more_tokens (TakeProperty owner json) = Fixed (codes "prop") ∷ Fixed (codes "take") ∷ Given OwnerName owner ∷ RestJson json ∷ []
more_tokens (PutTileset json) = Fixed (codes "tileset") ∷ Fixed (codes "put") ∷ RestJson json ∷ []
more_tokens (NumberTileset first_id number) =
    Fixed (codes "tileset") ∷ Fixed (codes "number") ∷ Given Number first_id ∷ Given Number number ∷ []
more_tokens (Extend left top right bottom) =
    Fixed (codes "extend")
    ∷ Given Number left
    ∷ Given Number top
    ∷ Given Number right
    ∷ Given Number bottom
    ∷ []

-- the spelling of a line
abbrev pub more_spelling : MoreLine → List ℕ
more_spelling line = spaced (flat_map token_words (more_tokens line))

-- the lines that have a spelling: their tokens have one, and it is not too long
pub record CanBeSpelledMore (line : MoreLine) : Type 0 where
  pub tokens : AllByRecursion IsToken (more_tokens line)
  pub short : length (more_spelling line) ≤ MAX_LINE

-- a line that can be spelled is what its spelling is read as
abbrev pub MoreSpelledIsRead : Type 0
MoreSpelledIsRead = (line : MoreLine) → CanBeSpelledMore line → more_line_of (more_spelling line) ≡ Ok line

-- what is read as a line is its spelling, and it can be spelled
abbrev pub MoreReadIsSpelled : Type 0
MoreReadIsSpelled =
    (bytes : List ℕ) (line : MoreLine) → more_line_of bytes ≡ Ok line → (bytes ≡ more_spelling line) × CanBeSpelledMore line

-- what is too long is never read
abbrev pub MoreLongIsNotRead : Type 0
MoreLongIsNotRead = (bytes : List ℕ) → MAX_LINE < length bytes → more_line_of bytes ≡ Err TooLong

-- what is read as a line for all edits is no other line
abbrev pub MoreIsNotALine : Type 0
MoreIsNotALine = (bytes : List ℕ) (line : MoreLine) → more_line_of bytes ≡ Ok line → IsErr (line_of bytes)
