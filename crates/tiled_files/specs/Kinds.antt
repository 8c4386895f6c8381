-- Which of two kinds a file is of, and is to be of.
use Rattle.std.specs.Prelude.{ℕ, ◌-◌, ◌==◌, nat_le, List, [], ◌∷◌, drop, length, codes, slice_index, Bool, false, ◌&&◌, if◌then◌else◌}
use Rattle.std.specs.Char.{is_ascii_whitespace}
use Rattle.std.specs.List.{prefix_len}
use Rattle.std.specs.Str.{bytes_eq, str_to_ascii_lowercase}
use Rattle.tiled_files.specs.declared.kind.Kind.{Kind}
use Rattle.tiled_files.specs.declared.kind.Kind.TheVariants.{Json, Tmx}

-- whether bytes begin with a byte order mark
abbrev pub has_mark : List ℕ → Bool
has_mark bytes =
    nat_le 3 (length bytes) && ((slice_index bytes 0 == 239) && ((slice_index bytes 1 == 187) && (slice_index bytes 2 == 191)))

-- the bytes behind it
abbrev pub unmarked : List ℕ → List ℕ
unmarked bytes = if has_mark bytes then drop 3 bytes else bytes

-- the bytes behind the blanks at their front
abbrev pub trimmed : List ℕ → List ℕ
trimmed bytes = drop (prefix_len is_ascii_whitespace bytes) bytes

-- whether bytes begin with `<`
abbrev pub begins_tag : List ℕ → Bool
begins_tag [] = false
begins_tag (b ∷ bytes) = b == 60

-- bytes are taken for XML by the first one that is no blank
unfoldable pub is_xml : List ℕ → Bool
is_xml bytes = begins_tag (trimmed (unmarked bytes))

abbrev pub kind_of_bytes : List ℕ → Kind
kind_of_bytes bytes = if is_xml bytes then Tmx else Json

-- whether a name ends in `.tmx`, in small letters or large ones
unfoldable pub is_tmx_name : List ℕ → Bool
is_tmx_name name = bytes_eq (str_to_ascii_lowercase (drop (length name - 4) name)) (codes ".tmx")

abbrev pub kind_of_name : List ℕ → Kind
kind_of_name name = if is_tmx_name name then Tmx else Json

-- the kind of a file that is saved under a name: that of the file that stands there; where there is none, the name's
abbrev pub kind_of : List ℕ → List ℕ → Kind
kind_of name [] = kind_of_name name
kind_of name (b ∷ file) = kind_of_bytes (b ∷ file)
