-- Loops whose turns are those of a definition.
use Rattle.std.proofs.Common.{◌≡◌, ℕ, zero, suc, ◌+◌, ◌<◌, Bool, true, false, Result, Ok, Err, refl, sym, ap, ◌∙◌, arith}
use Rattle.xml_text.specs.declared.fault.Flaw.{Flaw}
use Rattle.xml_text.specs.declared.fault.Fault.{Fault}
use Rattle.xml_text.specs.declared.fault.Fault.TheVariants.{Memory, Flawed}
use Rattle.xml_text.specs.Answers.{◌>>=◌, Fails, Turn, More, Done, next, turns}
use Rattle.xml_text.specs.Views.{turn_of}

-- the turns that are left give what all give; there are more of them than bytes
pub record Goes {S : Type 0} (turn : S → Result (Turn S) Flaw) (size : ℕ) (s : S) (all : Result S Flaw) : Type 0 where
  pub left : ℕ
  pub enough : size < left
  pub same : turns left turn s ≡ all

pub begins_to_go : {S : Type 0} (turn : S → Result (Turn S) Flaw) (size : ℕ) (s : S) → Goes turn size s (turns (size + 1) turn s)
begins_to_go turn size s = record { left = size + 1; enough = omega arith; same = refl }

one_left : {S : Type 0} (turn : S → Result (Turn S) Flaw) (left size : ℕ) (s : S) → size < left
    → (n : ℕ) × (left ≡ suc n) × (turns left turn s ≡ (turn s >>= next (turns n turn)))
unfolding turns
one_left turn zero size s h = absurd (omega arith)
one_left turn (suc n) size s h = (n, refl, refl)

pub goes_on : {S : Type 0} (turn : S → Result (Turn S) Flaw) (size after : ℕ) (s t : S) (all : Result S Flaw)
    → Goes turn size s all → after < size → turn s ≡ Ok (More t) → Goes turn after t all
goes_on turn size after s t all g h e =
    let o = one_left turn g.left size s g.enough in
    record {
      left = o.0;
      enough = (let x = o.1 in let y = g.enough in omega arith);
      same = sym (o.2 ∙ ap (λ r. r >>= next (turns o.0 turn)) e) ∙ g.same;
    }

pub ends_with : {S : Type 0} (turn : S → Result (Turn S) Flaw) (size : ℕ) (s t : S) (all : Result S Flaw)
    → Goes turn size s all → turn s ≡ Ok (Done t) → all ≡ Ok t
ends_with turn size s t all g e =
    let o = one_left turn g.left size s g.enough in
    sym g.same ∙ (o.2 ∙ ap (λ r. r >>= next (turns o.0 turn)) e)

fails_with : {S : Type 0} (turn : S → Result (Turn S) Flaw) (size : ℕ) (s : S) (flaw : Flaw) (all : Result S Flaw)
    → Goes turn size s all → turn s ≡ Err flaw → all ≡ Err flaw
fails_with turn size s flaw all g e =
    let o = one_left turn g.left size s g.enough in
    sym g.same ∙ (o.2 ∙ ap (λ r. r >>= next (turns o.0 turn)) e)

pub fails : {S : Type 0} (turn : S → Result (Turn S) Flaw) (size : ℕ) (s : S) (fault : Fault) (all : Result S Flaw)
    → Goes turn size s all → Fails fault (turn s) → Fails fault all
fails turn size s Memory all g h = tt
fails turn size s (Flawed flaw place) all g h = fails_with turn size s flaw all g h

-- a turn that says whether it was the last
pub more : {S : Type 0} (turn : S → Result (Turn S) Flaw) (size after : ℕ) (s t : S) (all : Result S Flaw) (is_last : Bool)
    → Goes turn size s all → is_last ≡ false → turn s ≡ Ok (turn_of is_last t) → after < size → Goes turn after t all
more turn size after s t all is_last g so e h = goes_on turn size after s t all g h (e ∙ ap (λ b. Ok (turn_of b t)) so)

pub last : {S : Type 0} (turn : S → Result (Turn S) Flaw) (size : ℕ) (s t : S) (all : Result S Flaw) (is_last : Bool)
    → Goes turn size s all → is_last ≡ true → turn s ≡ Ok (turn_of is_last t) → all ≡ Ok t
last turn size s t all is_last g so e = ends_with turn size s t all g (e ∙ ap (λ b. Ok (turn_of b t)) so)

-- what fails goes on to fail
pub fails_on : {A B : Type 0} (fault : Fault) (r : Result A Flaw) (f : A → Result B Flaw) → Fails fault r → Fails fault (r >>= f)
fails_on Memory r f h = tt
fails_on (Flawed flaw place) r f h = ap (λ x. x >>= f) h
