-- What a call answers, beside what a definition does.
use Rattle.std.specs.Prelude.{◌≡◌, ℕ, zero, suc, Result, Ok, Err, Option, Some, None}
use Rattle.xml_text.specs.declared.fault.Flaw.{Flaw}
use Rattle.xml_text.specs.declared.fault.Flaw.TheVariants.{NoEnd}
use Rattle.xml_text.specs.declared.fault.Fault.{Fault}
use Rattle.xml_text.specs.declared.fault.Fault.TheVariants.{Memory, Flawed}

infixl 10 ◌>>=◌
abbrev pub ◌>>=◌ : {A B : Type 0} → Result A Flaw → (A → Result B Flaw) → Result B Flaw
(Ok x) >>= f = f x
(Err e) >>= f = Err e

-- a text has this flaw, or memory ran out
abbrev pub Fails : {Y : Type 0} → Fault → Result Y Flaw → Type 0
Fails Memory read = Unit {0}
Fails (Flawed flaw place) read = read ≡ Err flaw

-- The call answers what the definition does, unless memory ran out; `view` is what the definition sees of its answer.
abbrev pub Gives : {X Y : Type 0} → (X → Y) → Result X Fault → Result Y Flaw → Type 0
Gives view (Ok x) read = read ≡ Ok (view x)
Gives view (Err fault) read = Fails fault read

-- what f makes of it where there is one, else the other
abbrev pub made_of : {A B : Type 0} → Option A → (A → B) → B → B
made_of (Some x) f other = f x
made_of None f other = other

-- after one turn: from where to go on, or what has come out
pub data Turn (S : Type 0) : Type 0 where
  More : (state : S) → Turn S
  Done : (outcome : S) → Turn S

abbrev pub next : {S : Type 0} → (S → Result S Flaw) → Turn S → Result S Flaw
next go (More s) = go s
next go (Done s) = Ok s

-- Turns until one is the last; fewer than `most`, where each takes a byte of the text.
unfoldable pub turns : {S : Type 0} → ℕ → (S → Result (Turn S) Flaw) → S → Result S Flaw
turns zero turn s = Err NoEnd
turns (suc most) turn s = turn s >>= next (turns most turn)
