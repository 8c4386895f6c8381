-- The words of a line, and what a word can be.
use Rattle.std.specs.Prelude.{◌≡◌, ◌<◌, ◌≤◌, take, drop, ℕ, ◌+◌, ◌%◌, ◌^◌, Bool, true, false, not, ◌&&◌, ◌||◌, ◌==◌, nat_lt, nat_le, List, [], ◌∷◌, length}
use Rattle.std.specs.Prelude.{Option, None, Some, ℤ, pos, negsuc, zero, suc, option_and_then, slice_index, codes, if◌then◌else◌}
use Rattle.std.specs.Option.{option_map}
use Rattle.std.specs.Borrow.{Bor}
use Rattle.std.specs.List.{slice_split, list_all}
use Rattle.std.specs.Char.{is_ascii_digit, is_ascii_alphanumeric}
use Rattle.std.specs.Str.{bytes_eq}
use Rattle.std.specs.Str.Parse.{digits_value}
use Rattle.map_model.specs.declared.parts.LayerKind.{LayerKind}
use Rattle.map_model.specs.declared.parts.LayerKind.TheVariants as kinds
use Rattle.map_model.specs.declared.owner.MemberOwner.{MemberOwner}
use Rattle.map_model.specs.declared.owner.MemberOwner.TheVariants as members
use Rattle.map_model.specs.declared.owner.Owner.{Owner}
use Rattle.map_model.specs.declared.owner.Owner.TheVariants as owners
use Rattle.session.specs.declared.limits.TheConstants.{MAX_TEXT, MAX_KEY, MAX_COORDINATE, MAX_DOCUMENT_NAME}
use Rattle.map_model.specs.declared.limits.TheConstants.{MAX_SIDE}

-- the words of a text stand between its spaces
abbrev pub words : List ℕ → List (List ℕ)
words bytes = slice_split (λ b. b == 32) bytes

-- a byte, and no leading zero
abbrev pub is_numeral_prefix : List ℕ → Bool
is_numeral_prefix word = nat_lt 0 (length word) && (length word == 1 || not (slice_index word 0 == 48))

-- the value of digits, where it is below 2^32
abbrev pub digits_of : List ℕ → Option ℕ
digits_of word =
    if list_all is_ascii_digit word && nat_lt (digits_value 10 word) (2 ^ 32) then Some (digits_value 10 word) else None

-- the number that a word is: `0`, or digits without a leading zero, of a value below 2^32
unfoldable pub number_of : List ℕ → Option ℕ
number_of word = if is_numeral_prefix word then digits_of word else None

-- the digits in front of other bytes, if any, and their value
pub record AreLeadingDigits (bytes : List ℕ) (len value : ℕ) : Type 0 where
  pub within : len ≤ length bytes
  pub digits : list_all is_ascii_digit (take len bytes) ≡ true
  pub value_is : digits_value 10 (take len bytes) ≡ value
  pub small : value < 2 ^ 32
  pub end : len < length bytes → is_ascii_digit (slice_index bytes len) ≡ false

-- digits in front have a value of 2^32 or more
pub record HasLargePrefix (bytes : List ℕ) : Type 0 where
  pub len : ℕ
  pub within : len ≤ length bytes
  pub digits : list_all is_ascii_digit (take len bytes) ≡ true
  pub large : 2 ^ 32 ≤ digits_value 10 (take len bytes)

-- a number that is not above the greatest distance of a coordinate
abbrev pub as_distance : ℕ → Option ℕ
as_distance n = if nat_le n MAX_COORDINATE then Some n else None

-- the distance that a word is: a number that is not above the greatest distance
unfoldable pub distance_of : List ℕ → Option ℕ
distance_of word = option_and_then as_distance (number_of word)

-- the number below 0 that is so far from it; there is none for 0
abbrev pub below_zero : ℕ → Option ℤ
below_zero zero = None
below_zero (suc n) = Some (negsuc n)

-- the coordinate that a word is: a distance, or a `-` and a distance other than 0
unfoldable pub coordinate_of : List ℕ → Option ℤ
coordinate_of [] = None
coordinate_of (b ∷ word) =
    if b == 45 then option_and_then below_zero (distance_of word)
    else option_map pos (distance_of (b ∷ word))

-- the numbers of words
abbrev pub all_numbers : List (List ℕ) → Option (List ℕ)
all_numbers [] = Some []
all_numbers (w ∷ ws) = option_and_then (λ n. option_map (λ ns. n ∷ ns) (all_numbers ws)) (number_of w)

-- the numbers of a word of numbers, joined by commas
unfoldable pub numbers_of : List ℕ → Option (List ℕ)
numbers_of word = all_numbers (slice_split (λ b. b == 44) word)

-- so many values are the rows of a block of that width
abbrev pub are_rows : ℕ → ℕ → Bool
are_rows width count = nat_le 1 width && nat_le width MAX_SIDE && (count % width == 0)

-- a letter, a digit, `_`, `.` or `-`
abbrev pub is_name_byte : ℕ → Bool
is_name_byte b = is_ascii_alphanumeric b || b == 95 || b == 46 || b == 45

-- a name: from 1 such byte up to the limit, the first neither `.` nor `-`
abbrev pub is_name : ℕ → List ℕ → Bool
is_name limit word =
    nat_le 1 (length word) && nat_le (length word) limit
    && not (slice_index word 0 == 46) && not (slice_index word 0 == 45) && list_all is_name_byte word

-- the document's name that a word is, or `-` for none
abbrev pub choice_of : List ℕ → Option (Option (List ℕ))
choice_of word =
    if bytes_eq word (codes "-") then Some None
    else if is_name MAX_DOCUMENT_NAME word then Some (Some word)
    else None

-- a byte of a text
abbrev pub is_text_byte : ℕ → Bool
is_text_byte b = nat_le 32 b && not (b == 127)

-- a text: from 1 byte up to the most, none of them a control
abbrev pub is_text : List ℕ → Bool
is_text bytes = nat_le 1 (length bytes) && nat_le (length bytes) MAX_TEXT && list_all is_text_byte bytes

-- what stands between the text of a macro and the text of its action
abbrev pub bars : List ℕ
bars = codes " || "

-- a text is cut at its first bars: what stands in front of them and what stands behind, or all of it and nothing
abbrev pub cut_at_bars : List ℕ → List ℕ × Option (List ℕ)
cut_at_bars [] = ([], None)
cut_at_bars (b ∷ bytes) =
    if bytes_eq (take (length bars) (b ∷ bytes)) bars then ([], Some (drop (length bars) (b ∷ bytes)))
    else (b ∷ (cut_at_bars bytes).0, (cut_at_bars bytes).1)

-- a text, and another one where it is given
abbrev pub are_texts : List ℕ → Option (List ℕ) → Bool
are_texts text None = is_text text
are_texts text (Some action) = is_text text && is_text action

-- the pieces of what is left of a text
abbrev pub pieces_left : ℕ → Option (Bor (List ℕ)) → List (List ℕ)
pieces_left separator None = []
pieces_left separator (Some text) = slice_split (λ b. b == separator) text.now

-- the kind of layer that a word is
abbrev pub layer_kind_of : List ℕ → Option LayerKind
layer_kind_of word =
    if bytes_eq word (codes "tile") then Some kinds.Tile
    else if bytes_eq word (codes "object") then Some kinds.Object
    else None

-- the yes or no that a word is
abbrev pub yes_no_of : List ℕ → Option Bool
yes_no_of word =
    if bytes_eq word (codes "yes") then Some true
    else if bytes_eq word (codes "no") then Some false
    else None

-- true or false
abbrev pub truth_of : List ℕ → Option Bool
truth_of word =
    if bytes_eq word (codes "true") then Some true
    else if bytes_eq word (codes "false") then Some false
    else None

-- a byte of a key: neither a control nor a space
abbrev pub is_key_byte : ℕ → Bool
is_key_byte b = nat_le 33 b && not (b == 127)

-- a property's name that a line can give: from 1 such byte up to the most
abbrev pub is_key : List ℕ → Bool
is_key word = nat_le 1 (length word) && nat_le (length word) MAX_KEY && list_all is_key_byte word

-- a digit of a colour: `0` to `9` or `a` to `f`
abbrev pub is_color_digit : ℕ → Bool
is_color_digit b = is_ascii_digit b || (nat_le 97 b && nat_le b 102)

-- a colour: `#` and 6 or 8 digits
abbrev pub is_color : List ℕ → Bool
is_color [] = false
is_color (b ∷ digits) = b == 35 && (length digits == 6 || length digits == 8) && list_all is_color_digit digits

-- the owner of this kind with an id
abbrev pub owner_with : List ℕ → ℕ → Option Owner
owner_with kind id =
    if bytes_eq kind (codes "layer") then Some (owners.Layer id)
    else if bytes_eq kind (codes "object") then Some (owners.Object id)
    else None

-- the owner that pieces name: the map, or a kind and an id
abbrev pub owner_of_pieces : List (List ℕ) → Option Owner
owner_of_pieces [] = None
owner_of_pieces (kind ∷ []) = if bytes_eq kind (codes "map") then Some owners.Map else None
owner_of_pieces (kind ∷ id ∷ []) = option_and_then (owner_with kind) (number_of id)
owner_of_pieces (kind ∷ id ∷ piece ∷ pieces) = None

-- the owner that a word is: `map`, or `layer` or `object`, a colon and an id
abbrev pub owner_of : List ℕ → Option Owner
owner_of word = owner_of_pieces (slice_split (λ b. b == 58) word)

-- what has properties has own members
abbrev pub owner_of_members : Owner → MemberOwner
owner_of_members owners.Map = members.Map
owner_of_members (owners.Layer id) = members.Layer id
owner_of_members (owners.Object id) = members.Object id

-- the first id that pieces name: `tileset` and an id
abbrev pub tileset_of_pieces : List (List ℕ) → Option ℕ
tileset_of_pieces [] = None
tileset_of_pieces (kind ∷ []) = None
tileset_of_pieces (kind ∷ id ∷ []) = if bytes_eq kind (codes "tileset") then number_of id else None
tileset_of_pieces (kind ∷ id ∷ piece ∷ pieces) = None

-- the first id of the tileset that a word is: `tileset`, a colon and an id
abbrev pub tileset_of : List ℕ → Option ℕ
tileset_of word = tileset_of_pieces (slice_split (λ b. b == 58) word)

-- what has properties, or else a tileset
abbrev pub either_owner : Option Owner → Option ℕ → Option MemberOwner
either_owner (Some owner) tileset = Some (owner_of_members owner)
either_owner None (Some first_id) = Some (members.Tileset first_id)
either_owner None None = None

-- the owner of members that a word is
abbrev pub member_owner_of : List ℕ → Option MemberOwner
member_owner_of word = either_owner (owner_of word) (tileset_of word)

-- the words of what is left of a line
abbrev pub words_left : Option (Bor (List ℕ)) → List (List ℕ)
words_left rest = pieces_left 32 rest

-- the bytes that are left, and one for their separator
abbrev pub size_left : Option (Bor (List ℕ)) → ℕ
size_left None = 0
size_left (Some text) = length text.now + 1

-- what was found of pieces: what the first of them is, and the pieces behind it, or nothing, where it is none
abbrev pub IsFirst : {A : Type 0} → (List ℕ → Option A) → List (List ℕ) → ℕ → Option (A × Option (Bor (List ℕ))) → Type 0
IsFirst meaning [] separator found = ⊥
IsFirst meaning (w ∷ ws) separator None = meaning w ≡ None
IsFirst meaning (w ∷ ws) separator (Some x) = (meaning w ≡ Some x.0) × (ws ≡ pieces_left separator x.1)

-- the digits in front of other bytes are a number of that length and value
pub record IsLeadingNumber (bytes : List ℕ) (len value : ℕ) : Type 0 where
  pub digits : AreLeadingDigits bytes len value
  pub prefix : is_numeral_prefix (take len bytes) ≡ true

-- no number stands in front, whatever separates the pieces
abbrev pub HasNoNumber : List ℕ → Type 0
HasNoNumber bytes = (separator : ℕ) → is_ascii_digit separator ≡ false → IsFirst number_of (slice_split (λ b. b == separator) bytes) separator None
