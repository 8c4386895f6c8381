-- Texts that are one of a few.
use Rattle.std.specs.Prelude.{ℕ, List, [], ◌∷◌, Bool, false, ◌||◌, if◌then◌else◌}
use Rattle.std.specs.Str.{bytes_eq}

abbrev pub is_one_of : List (List ℕ) → List ℕ → Bool
is_one_of [] s = false
is_one_of (k ∷ ks) s = bytes_eq s k || is_one_of ks s

-- one of these, else that
abbrev pub one_of : List (List ℕ) → List ℕ → List ℕ → List ℕ
one_of ks other s = if is_one_of ks s then s else other
