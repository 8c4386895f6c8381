-- What clauses see of the answers of the crate's calls.
use Rattle.std.specs.Prelude.{ℕ, ◌+◌, Bool, true, false, List, [], Option, Some, None}
use Rattle.std.specs.Borrow.{Bor}
use Rattle.xml_text.specs.Answers.{Turn, More, Done}
use Rattle.xml_text.specs.Said.{plain}

-- what is left to say
abbrev pub left_plain : Bool → Option (Bor (List ℕ)) → List ℕ
left_plain is_value None = []
left_plain is_value (Some rest) = plain is_value rest.now

-- what has been said, and what is left
abbrev pub said_state : List ℕ → Option (Bor (List ℕ)) → Turn (List ℕ × List ℕ)
said_state said None = Done (said, [])
said_state said (Some rest) = More (said, rest.now)

-- a turn that leaves s, and says whether it was the last
abbrev pub turn_of : {S : Type 0} → Bool → S → Turn S
turn_of true s = Done s
turn_of false s = More s

-- how many bytes are left: at an end tag, of which `</` was read, those with it
abbrev pub left_at : Bool → ℕ → ℕ
left_at true n = n + 2
left_at false n = n
