-- How many calls were refused that a save needs.
use Rattle.std.proofs.Common.{◌≡◌, ℕ, ◌≤◌, false, List, [], ◌∷◌, ◌++◌, Result, Ok, Err, IfErr, OnErr, is_ok, refl, subst, sym, arith}
use Rattle.atomic_save.specs.Crash.{Call, refusals}
use Rattle.atomic_save.specs.Saving.{LosesNothing, IsReason}
use Rattle.atomic_save.specs.declared.saves.SaveError.{SaveError}
use Rattle.atomic_save.specs.declared.saves.SaveError.TheVariants.{Refused, Memory}

more_refusals : (more old : List Call) → refusals old ≤ refusals (more ++ old)
more_refusals [] old = omega arith
more_refusals (call ∷ more) old = omega (arith, more_refusals more old)

-- no call takes a refusal back
pub refusals_stay : {IsBeside : List ℕ → Type 0} {path bytes : List ℕ} {old new : List Call} → LosesNothing IsBeside path bytes old new
    → refusals old ≤ refusals new
refusals_stay {old = old} loses = subst (λ (l : List Call). refusals old ≤ refusals l) (sym loses.calls.1) (more_refusals loses.calls.0 old)

-- nor does one call more
pub more_refused : {call : Call} {old new : List Call} → new ≡ call ∷ old → refusals old ≤ refusals new
more_refused {call = call} {old = old} e = subst (λ (l : List Call). refusals old ≤ refusals l) (sym e) (omega arith)

-- where a call was refused
pub on_refusal : {T E : Type 0} (r : Result T E) (P : Type 0) → (is_ok r ≡ false → P) → OnErr r P
on_refusal (Ok x) P p = tt
on_refusal (Err e) P p = p refl

-- a save that began later ends for a reason
pub later : (old middle new : List Call) → refusals old ≤ refusals middle → (r : Result (Unit {0}) SaveError)
    → IfErr r (λ e. IsReason e middle new) → IfErr r (λ e. IsReason e old new)
later old middle new stay (Ok done) reason = tt
later old middle new stay (Err (Refused error)) reason = omega (arith, stay, reason)
later old middle new stay (Err (Memory error)) reason = tt
