-- What is sure of files after some calls.
use Rattle.std.proofs.Common.{◌≡◌, ℕ, ◌≤◌, ◌==◌, Bool, true, false, cond, List, [], ◌∷◌, ◌++◌, length, Option, Some, None, option_map, refl, sym, ap, ◌∙◌}
use Rattle.std.proofs.Common.{arith}
use Rattle.std.proofs.lemmas.Bool.{cond-false, false_from_ne_true}
use Rattle.std.proofs.lemmas.Bool.Decides.{Decides-eqb}
use Rattle.atomic_save.specs.Crash.{Call, made, wrote, synced}
use Rattle.atomic_save.specs.Crash.{newest, written, kept}

pub itself : (number : ℕ) → (number == number) ≡ true
itself number = (Decides-eqb number number).1 refl

wrote_none : (b ok : Bool) (bytes : List ℕ) (w : Option (List ℕ)) → w ≡ None → cond b (cond ok (option_map (λ before. before ++ bytes) w) None) w ≡ None
wrote_none true true bytes w e = ap (option_map (λ before. before ++ bytes)) e
wrote_none true false bytes w e = refl
wrote_none false ok bytes w e = e

synced_none : (b ok : Bool) (w u : Option (List ℕ)) → w ≡ None → u ≡ None → cond b (cond ok w None) u ≡ None
synced_none true true w u e f = e
synced_none true false w u e f = refl
synced_none false ok w u e f = f

kept_wrote_none : (b : Bool) (u : Option (List ℕ)) → u ≡ None → cond b None u ≡ None
kept_wrote_none true u e = refl
kept_wrote_none false u e = e

before : (call : Call) (calls : List Call) (number : ℕ) → length (call ∷ calls) ≤ number → length calls ≤ number
before call calls number long = omega (arith, long)

made_elsewhere : (path : List ℕ) (ok : Bool) (calls : List Call) (number : ℕ) → length (made path ok ∷ calls) ≤ number → (length calls == number) ≡ false
made_elsewhere path ok calls number long = false_from_ne_true (length calls == number)
    (λ e. let same = (Decides-eqb (length calls) number).0 e in omega (arith, long))

-- nothing was written to a file that no call has made yet
written_none : (number : ℕ) (calls : List Call) → length calls ≤ number → written number calls ≡ None
written_none number [] long = refl
written_none number (made path ok ∷ calls) long = cond-false _ _ _ (made_elsewhere path ok calls number long)
    ∙ written_none number calls (before (made path ok) calls number long)
written_none number (wrote bytes ok ∷ calls) long = wrote_none (newest calls == number) ok bytes (written number calls)
    (written_none number calls (before (wrote bytes ok) calls number long))
written_none number (synced ok ∷ calls) long =
    let none = written_none number calls (before (synced ok) calls number long) in
    synced_none (newest calls == number) ok (written number calls) (written number calls) none none
written_none number (call ∷ calls) long = written_none number calls (before call calls number long)

-- nothing is sure of a file that no call has made yet
pub kept_none : (number : ℕ) (calls : List Call) → length calls ≤ number → kept number calls ≡ None
kept_none number [] long = refl
kept_none number (wrote bytes ok ∷ calls) long = kept_wrote_none (newest calls == number) (kept number calls)
    (kept_none number calls (before (wrote bytes ok) calls number long))
kept_none number (synced ok ∷ calls) long =
    let short = before (synced ok) calls number long in
    synced_none (newest calls == number) ok (written number calls) (kept number calls) (written_none number calls short) (kept_none number calls short)
kept_none number (call ∷ calls) long = kept_none number calls (before call calls number long)

-- what is sure of each file stays so
abbrev pub StaysSure : List Call → List Call → Type 0
StaysSure calls more = (number : ℕ) (sure : List ℕ) → kept number calls ≡ Some sure → kept number more ≡ Some sure

other_file : (calls : List Call) → kept (newest calls) calls ≡ None → (number : ℕ) (sure : List ℕ) → kept number calls ≡ Some sure
    → (newest calls == number) ≡ false
other_file calls none number sure e = false_from_ne_true (newest calls == number) (λ h.
    let same : newest calls ≡ number = (Decides-eqb (newest calls) number).0 h in
    let both : None ≡ Some sure = sym none ∙ ap (λ (n : ℕ). kept n calls) same ∙ e in
    absurd (cc))

-- a write to a file of which nothing is sure
pub wrote_stays : (bytes : List ℕ) (ok : Bool) (calls : List Call) → kept (newest calls) calls ≡ None → StaysSure calls (wrote bytes ok ∷ calls)
wrote_stays bytes ok calls none number sure e = cond-false _ _ _ (other_file calls none number sure e) ∙ e

pub synced_stays : (ok : Bool) (calls : List Call) → kept (newest calls) calls ≡ None → StaysSure calls (synced ok ∷ calls)
synced_stays ok calls none number sure e = cond-false _ _ _ (other_file calls none number sure e) ∙ e
