-- What the characters of a text and of a value say.
use Rattle.std.specs.Prelude.{ℕ, ◌+◌, ◌*◌, ◌==◌, Bool, ◌||◌, ◌&&◌, nat_le, nat_lt, List, [], ◌∷◌, ◌++◌, length, codes}
use Rattle.std.specs.Prelude.{Option, Some, None, option_and_then, Result, Ok, if◌then◌else◌, ok_or}
use Rattle.std.specs.Char.{encode_utf8, digit_value}
use Rattle.std.specs.List.{list_all}
use Rattle.std.specs.Str.{bytes_eq}
use Rattle.xml_text.specs.declared.fault.Flaw.{Flaw}
use Rattle.xml_text.specs.declared.fault.Flaw.TheVariants.{BadReference}
use Rattle.xml_text.specs.Answers.{◌>>=◌, made_of, Turn, More, Done, turns}
use Rattle.xml_text.specs.Words.{after, first_is, up_to}

-- the characters that a text may hold: tab, line feed, carriage return, and from the space on all but U+FFFE and U+FFFF
abbrev pub is_character : ℕ → Bool
is_character c =
    c == 9 || c == 10 || c == 13
    || (nat_le 32 c && nat_lt c 0xD800) || (nat_le 0xE000 c && nat_lt c 0xFFFE) || (nat_le 0x10000 c && nat_lt c 0x110000)

-- a byte that says another: a carriage return a line feed; in the value of an attribute this, a tab and a line feed a space
abbrev pub is_changed : Bool → ℕ → Bool
is_changed is_value b = b == 13 || (is_value && (b == 9 || b == 10))

abbrev pub meant : Bool → ℕ → ℕ
meant is_value b = if is_changed is_value b then (if is_value then 32 else 10) else b

-- what bytes say that are no reference; a carriage return before a line feed says nothing
unfoldable pub plain : Bool → List ℕ → List ℕ
plain is_value [] = []
plain is_value (b ∷ bytes) =
    if b == 13 && first_is (λ c. c == 10) bytes then plain is_value bytes else meant is_value b ∷ plain is_value bytes

-- the number that digits of a base make, at least one
abbrev pub number_from : ℕ → ℕ → List ℕ → ℕ
number_from base n [] = n
number_from base n (b ∷ digits) = number_from base (n * base + digit_value b) digits

abbrev pub number : ℕ → List ℕ → Option ℕ
number base digits =
    if nat_lt 0 (length digits) && list_all (λ b. nat_lt (digit_value b) base) digits then Some (number_from base 0 digits) else None

-- the character of a number
abbrev pub numbered : ℕ → List ℕ → Option ℕ
numbered base digits = option_and_then (λ c. if is_character c then Some c else None) (number base digits)

-- the character that a reference names: one of the five, or one by its number
unfoldable pub character : List ℕ → Option ℕ
character name =
    if bytes_eq name (codes "lt") then Some 60
    else if bytes_eq name (codes "gt") then Some 62
    else if bytes_eq name (codes "amp") then Some 38
    else if bytes_eq name (codes "quot") then Some 34
    else if bytes_eq name (codes "apos") then Some 39
    else made_of (after (codes "#x") name) (numbered 16) (made_of (after (codes "#") name) (numbered 10) None)

-- a reference behind its `&`: the character, and what stands behind the `;`
unfoldable pub reference : List ℕ → Result (ℕ × List ℕ) Flaw
reference bytes =
    let parts = up_to 59 bytes in
    ok_or (after (codes ";") parts.1) BadReference >>= λ rest. ok_or (character parts.0) BadReference >>= λ c. Ok (c, rest)

-- characters up to a reference, and this one
unfoldable pub said_turn : Bool → List ℕ × List ℕ → Result (Turn (List ℕ × List ℕ)) Flaw
said_turn is_value so_far =
    let parts = up_to 38 so_far.1 in
    let said = so_far.0 ++ plain is_value parts.0 in
    made_of (after (codes "&") parts.1)
    (λ bytes. reference bytes >>= λ found. Ok (More (said ++ encode_utf8 found.0, found.1)))
    (Ok (Done (said, [])))

-- what the characters of a text say, or of the value of an attribute
unfoldable pub said : Bool → List ℕ → Result (List ℕ) Flaw
said is_value bytes = turns (length bytes + 1) (said_turn is_value) ([], bytes) >>= λ x. Ok x.0
