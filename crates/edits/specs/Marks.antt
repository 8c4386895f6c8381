-- Places that are marked.
use Rattle.std.specs.Prelude.{ℕ, ◌*◌, ◌/◌, ◌%◌, List, Bool, ◌&&◌, length, nat_eq, nat_le, nat_lt, slice_index}
use Rattle.std.specs.Int.{bit_at}
use Rattle.edits.specs.declared.marks.Marks.{Marks}

-- whether the words have the bit of a number, 64 in a word
unfoldable pub has_bit : List ℕ → ℕ → Bool
has_bit words number = nat_eq (bit_at (slice_index words (number / 64)) (number % 64)) 1

-- whether a number is marked
abbrev pub is_marked : Marks → ℕ → Bool
is_marked marks = has_bit marks.words.items

-- how many numbers there are
abbrev pub room : Marks → ℕ
room marks = 64 * length marks.words.items

-- whether a number lies from the first on and before the end
abbrev pub is_between : ℕ → ℕ → ℕ → Bool
is_between first end number = nat_le first number && nat_lt number end
