-- What stands in a caller's buffer.
use Rattle.std.specs.Prelude.{◌++◌, ℕ, nat_le, List, drop, length, Option, None, Some, if◌then◌else◌}

-- the buffer with these values at its front, where it has room for all of them, and else as it was
abbrev pub written : List ℕ → List ℕ → List ℕ
written values buffer = if nat_le (length values) (length buffer) then values ++ drop (length values) buffer else buffer

-- the same of values that may be absent
abbrev pub filled : Option (List ℕ) → List ℕ → List ℕ
filled None buffer = buffer
filled (Some values) buffer = written values buffer

-- how many values these are, where the buffer has room for all of them
abbrev pub size_within : List ℕ → List ℕ → Option ℕ
size_within values buffer = if nat_le (length values) (length buffer) then Some (length values) else None
