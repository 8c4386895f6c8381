-- Steps of which the first that refuses decides, as a question mark does in Rust.
use Rattle.std.specs.Prelude.{Bool, Result, Ok, Err, ⊤, if◌then◌else◌}

infixl 10 ◌>>=◌
abbrev pub ◌>>=◌ : {A B E : Type 0} → Result A E → (A → Result B E) → Result B E
Ok x >>= f = f x
Err e >>= f = Err e

infixl 10 ◌>>◌
abbrev pub ◌>>◌ : {A B E : Type 0} → Result A E → Result B E → Result B E
Ok x >> next = next
Err e >> next = Err e

-- a test, or this refusal where it fails
abbrev pub check : {E : Type 0} → Bool → E → Result ⊤ E
check passes e = if passes then Ok tt else Err e
