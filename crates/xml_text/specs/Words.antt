-- What stands at the front of a text.
use Rattle.std.specs.Prelude.{ℕ, ◌==◌, Bool, false, ◌||◌, ◌&&◌, nat_le, List, [], ◌∷◌, length, take, drop}
use Rattle.std.specs.Prelude.{Option, Some, None, option_map, Result, Ok, Err, if◌then◌else◌}
use Rattle.std.specs.List.{prefix_len, position_or_len}
use Rattle.std.specs.Str.{bytes_eq, str_to_ascii_lowercase}
use Rattle.xml_text.specs.declared.fault.Flaw.{Flaw}
use Rattle.xml_text.specs.declared.fault.Flaw.TheVariants.{NoName}

-- a blank: a space, a tab, a line feed or a carriage return
abbrev pub is_blank : ℕ → Bool
is_blank b = b == 32 || b == 9 || b == 10 || b == 13

abbrev pub is_letter : ℕ → Bool
is_letter b = (nat_le 65 b && nat_le b 90) || (nat_le 97 b && nat_le b 122)

-- a name begins with a letter, `:` or `_`; and goes on with these, digits, `-` and `.`
abbrev pub begins_name : ℕ → Bool
begins_name b = is_letter b || b == 58 || b == 95

abbrev pub is_of_name : ℕ → Bool
is_of_name b = begins_name b || (nat_le 48 b && nat_le b 57) || b == 45 || b == 46

-- whether a text begins with such a byte
abbrev pub first_is : (ℕ → Bool) → List ℕ → Bool
first_is test [] = false
first_is test (b ∷ bytes) = test b

-- the text behind the blanks at its front
unfoldable pub unblanked : List ℕ → List ℕ
unblanked bytes = drop (prefix_len is_blank bytes) bytes

-- the text behind a word at its front, if this stands there
unfoldable pub after : List ℕ → List ℕ → Option (List ℕ)
after word bytes = if bytes_eq (take (length word) bytes) word then Some (drop (length word) bytes) else None

abbrev pub onto : ℕ → List ℕ × List ℕ → List ℕ × List ℕ
onto b x = (b ∷ x.0, x.1)

-- what stands before the first such word, and what behind it
unfoldable pub cut : List ℕ → List ℕ → Option (List ℕ × List ℕ)
cut word [] = None
cut word (b ∷ bytes) =
    if bytes_eq (take (length word) (b ∷ bytes)) word then Some ([], drop (length word) (b ∷ bytes))
    else option_map (onto b) (cut word bytes)

-- what stands before the first such byte, or all, and this byte with what follows it
unfoldable pub up_to : ℕ → List ℕ → List ℕ × List ℕ
up_to byte bytes =
    let n = position_or_len (λ b. b == byte) bytes in (take n bytes, drop n bytes)

-- a name, and what stands behind it
unfoldable pub name : List ℕ → Result (List ℕ × List ℕ) Flaw
name bytes =
    let n = prefix_len is_of_name bytes in
    if first_is begins_name bytes then Ok (take n bytes, drop n bytes) else Err NoName

-- whether a text is a word, in small letters or large ones
abbrev pub is_word : List ℕ → List ℕ → Bool
is_word text word = bytes_eq (str_to_ascii_lowercase text) (str_to_ascii_lowercase word)
