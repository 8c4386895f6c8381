-- Steps of which the first that refuses decides, and what code answers for them.
use Rattle.std.specs.Prelude.{◌≡◌, Bool, ⊤, Result, Ok, Err, if◌then◌else◌}
use Rattle.tmx_tree.specs.declared.fault.Refusal.{Refusal}
use Rattle.tmx_tree.specs.declared.fault.Fault.{Fault}
use Rattle.tmx_tree.specs.declared.fault.Fault.TheVariants.{Memory, Refused}

infixl 10 ◌>>=◌
abbrev pub ◌>>=◌ : {A B : Type 0} → Result A Refusal → (A → Result B Refusal) → Result B Refusal
Ok x >>= f = f x
Err e >>= f = Err e

-- a test, or this refusal where it fails
abbrev pub check : Bool → Refusal → Result ⊤ Refusal
check passes e = if passes then Ok tt else Err e

-- what code answered is what a definition gives, unless memory ran out
abbrev pub Fails : {A : Type 0} → Fault → Result A Refusal → Type 0
Fails Memory given = Unit {0}
Fails (Refused f) given = given ≡ Err f

abbrev pub Gives : {A : Type 0} → Result A Fault → Result A Refusal → Type 0
Gives (Ok x) given = given ≡ Ok x
Gives (Err e) given = Fails e given

-- the same, of a view of the answer
abbrev pub GivesBy : {A B : Type 0} → (A → B) → Result A Fault → Result B Refusal → Type 0
GivesBy view (Ok x) given = given ≡ Ok (view x)
GivesBy view (Err e) given = Fails e given

-- what code left, if it ran to its end, is what a definition gives
abbrev pub Leaves : {A : Type 0} → Result ⊤ Fault → A → Result A Refusal → Type 0
Leaves (Ok x) left given = given ≡ Ok left
Leaves (Err e) left given = Fails e given
