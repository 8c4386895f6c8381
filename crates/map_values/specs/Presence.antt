-- Steps of reading a map: a member that must be there or may be absent, and what code answers for a step.
use Rattle.std.specs.Prelude.{◌≡◌, Option, Some, None, Result, Ok, Err}
use Rattle.serde_json.specs.Data.{Data}
use Rattle.map_model.specs.Refusing.{◌>>=◌}
use Rattle.refusals.specs.declared.map_refusal.MapRefusal.{MapRefusal}
use Rattle.refusals.specs.declared.map_refusal.MapRefusal.TheVariants.{MemberMissing}
use Rattle.map_values.specs.declared.fault.MapFault.{MapFault}
use Rattle.map_values.specs.declared.fault.MapFault.TheVariants.{Memory, Refused}

-- a member that must be there
abbrev pub required : {A : Type 0} → (Data → Result A MapRefusal) → Option Data → Result A MapRefusal
required read None = Err MemberMissing
required read (Some d) = read d

-- a member that may be absent, and what that means
abbrev pub absent_means : {A : Type 0} → A → (Data → Result A MapRefusal) → Option Data → Result A MapRefusal
absent_means x read None = Ok x
absent_means x read (Some d) = read d

-- a member that may be absent, and is then none
abbrev pub optional : {A : Type 0} → (Data → Result A MapRefusal) → Option Data → Result (Option A) MapRefusal
optional read None = Ok None
optional read (Some d) = read d >>= λ x. Ok (Some x)

-- what code answered is what reading gives, unless memory ran out
abbrev pub Fails : {A : Type 0} → MapFault → Result A MapRefusal → Type 0
Fails Memory read = Unit {0}
Fails (Refused f) read = read ≡ Err f

abbrev pub Gives : {A : Type 0} → Result A MapFault → Result A MapRefusal → Type 0
Gives (Ok x) read = read ≡ Ok x
Gives (Err e) read = Fails e read

-- the same, of a view of the answer
abbrev pub GivesBy : {A B : Type 0} → (A → B) → Result A MapFault → Result B MapRefusal → Type 0
GivesBy view (Ok x) read = read ≡ Ok (view x)
GivesBy view (Err e) read = Fails e read
