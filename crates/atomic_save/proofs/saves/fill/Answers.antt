-- Each exit, by the calls that were made up to it.
use Rattle.std.proofs.Common.{◌≡◌, List, ◌∷◌, is_ok, refl, sym, ap, subst, ◌∙◌, Result, Ok, Err, OnOk, true}
use Rattle.atomic_save.specs.Crash.{Call}
use Rattle.atomic_save.specs.Saving.{LosesNothing, IsInPlace, Only}
use Rattle.atomic_save.proofs.Filled.{not_claimed, not_given, not_written, not_synced, renamed_or_not, placed}
use Rattle.atomic_save.specs.TwoRuns.{StaysCareful}
use Rattle.atomic_save.proofs.Careful.{filled_careful, filled_put}
use Rattle.atomic_save.proofs.saves.fill.Goals as goal

on_ok : {T E : Type 0} (P : Type 0) (r : Result T E) → (is_ok r ≡ true → P) → OnOk r P
on_ok P (Ok x) p = p refl
on_ok P (Err e) p = tt

-- one call more
also : {calls so_far next : List Call} {call : Call} → so_far ≡ calls → next ≡ call ∷ so_far → next ≡ call ∷ calls
also {call = call} e f = f ∙ ap (λ (l : List Call). call ∷ l) e

pub returns-in_err-claim-clause-safe : goal.returns-in_err-claim-clause-safe
returns-in_err-claim-clause-safe g c =
    let old = g.F.SaveFolder.log c.args.folder.now in
    subst (λ (l : List Call). LosesNothing (Only c.args.beside.now) c.args.path.now c.args.bytes.now old l) (sym c.in_err-claim.ensures)
    (not_claimed c.args.beside.now c.args.path.now c.args.bytes.now c.requires.apart old)

pub returns-in_err-set_access-clause-safe : goal.returns-in_err-set_access-clause-safe
returns-in_err-set_access-clause-safe g c =
    let old = g.F.SaveFolder.log c.args.folder.now in
    subst (λ (l : List Call). LosesNothing (Only c.args.beside.now) c.args.path.now c.args.bytes.now old l)
    (sym (also c.in_ok-claim.ensures c.in_err-set_access.ensures))
    (not_given c.args.beside.now c.args.path.now c.args.bytes.now c.requires.apart old c.requires.made)

pub returns-in_err-write-clause-safe : goal.returns-in_err-write-clause-safe
returns-in_err-write-clause-safe g c =
    let old = g.F.SaveFolder.log c.args.folder.now in
    subst (λ (l : List Call). LosesNothing (Only c.args.beside.now) c.args.path.now c.args.bytes.now old l)
    (sym (also (also c.in_ok-claim.ensures c.in_ok-set_access.ensures) c.in_err-write.ensures))
    (not_written c.args.beside.now c.args.path.now c.args.bytes.now c.requires.apart old c.requires.made)

pub returns-in_err-sync-clause-safe : goal.returns-in_err-sync-clause-safe
returns-in_err-sync-clause-safe g c =
    let old = g.F.SaveFolder.log c.args.folder.now in
    subst (λ (l : List Call). LosesNothing (Only c.args.beside.now) c.args.path.now c.args.bytes.now old l)
    (sym (also (also (also c.in_ok-claim.ensures c.in_ok-set_access.ensures) c.in_ok-write.ensures) c.in_err-sync.ensures))
    (not_synced c.args.beside.now c.args.path.now c.args.bytes.now c.requires.apart old c.requires.made)

pub returns-clause-safe : goal.returns-clause-safe
returns-clause-safe g c =
    let old = g.F.SaveFolder.log c.args.folder.now in
    subst (λ (l : List Call). LosesNothing (Only c.args.beside.now) c.args.path.now c.args.bytes.now old l)
    (sym (also (also (also (also c.in_ok-claim.ensures c.in_ok-set_access.ensures) c.in_ok-write.ensures) c.in_ok-sync.ensures) c.rename.ensures))
    (renamed_or_not c.args.beside.now c.args.path.now c.args.bytes.now c.requires.apart (is_ok c.rename.result) old c.requires.made)

pub returns-clause-placed : goal.returns-clause-placed
returns-clause-placed g c =
    let old = g.F.SaveFolder.log c.args.folder.now in
    on_ok _ c.rename.result (λ ok. subst (λ (l : List Call). IsInPlace c.args.path.now c.args.bytes.now l)
    (sym (also (also (also (also c.in_ok-claim.ensures c.in_ok-set_access.ensures) c.in_ok-write.ensures) c.in_ok-sync.ensures) c.rename.ensures))
    (placed c.args.beside.now c.args.path.now c.args.bytes.now c.requires.apart (is_ok c.rename.result) ok old c.requires.made))

pub returns-clause-careful : goal.returns-clause-careful
returns-clause-careful g c =
    let old = g.F.SaveFolder.log c.args.folder.now in
    subst (λ (l : List Call). StaysCareful (Only c.args.beside.now) c.args.path.now old l)
    (sym (also (also (also (also c.in_ok-claim.ensures c.in_ok-set_access.ensures) c.in_ok-write.ensures) c.in_ok-sync.ensures) c.rename.ensures))
    (filled_careful c.args.beside.now c.args.path.now c.args.bytes.now (is_ok c.rename.result) old c.requires.made)

pub returns-clause-put : goal.returns-clause-put
returns-clause-put g c =
    on_ok _ c.rename.result (λ ok. filled_put c.args.beside.now c.args.path.now c.args.bytes.now (is_ok c.rename.result) ok
    (g.F.SaveFolder.log c.args.folder.now) _
    (also (also (also (also c.in_ok-claim.ensures c.in_ok-set_access.ensures) c.in_ok-write.ensures) c.in_ok-sync.ensures) c.rename.ensures)
    c.requires.made)
