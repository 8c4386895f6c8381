-- Each exit, by the calls that were made up to it.
use Rattle.std.proofs.Common.{◌≡◌, ◌+◌, ◌<◌, Bool, List, is_ok, refl, sym, subst, Result, Ok, Err, OnOk, true, arith}
use Rattle.atomic_save.specs.Crash.{Call, folder_synced, refusal, refusals}
use Rattle.atomic_save.specs.Saving.{LosesNothing, IsKept, Only}
use Rattle.atomic_save.proofs.Calls.{both}
use Rattle.atomic_save.proofs.Refusals.{refusals_stay, more_refused, on_refusal}
use Rattle.atomic_save.proofs.Filled.{made_exit, folder_exit, folder_kept}
use Rattle.atomic_save.proofs.Careful.{careful_both, made_careful, put_new}
use Rattle.atomic_save.proofs.saves.save_beside.Goals as goal

on_ok : {T E : Type 0} (P : Type 0) (r : Result T E) → (is_ok r ≡ true → P) → OnOk r P
on_ok P (Ok x) p = p refl
on_ok P (Err e) p = tt

pub returns-in_err-create-clause-safe : goal.returns-in_err-create-clause-safe
returns-in_err-create-clause-safe g c =
    let old = g.F.SaveFolder.log c.args.folder.now in
    subst (λ (l : List Call). LosesNothing (Only c.args.beside.now) c.args.path.now c.args.bytes.now old l) (sym c.create.ensures)
    (made_exit c.args.beside.now c.args.path.now c.args.bytes.now c.requires (is_ok c.create.result) old)

pub returns-in-Err-clause-safe : goal.returns-in-Err-clause-safe
returns-in-Err-clause-safe g c =
    let log = g.F.SaveFolder.log in let old = log c.args.folder.now in
    let beside = c.args.beside.now in let path = c.args.path.now in let bytes = c.args.bytes.now in
    let created : LosesNothing (Only beside) path bytes old (log c.create.new.self) =
    subst (λ (l : List Call). LosesNothing (Only beside) path bytes old l) (sym c.create.ensures)
    (made_exit beside path bytes c.requires (is_ok c.create.result) old) in
    both (Only beside) path bytes old (log c.fill.new.folder) (log c.take_back.new.folder)
    (both (Only beside) path bytes old (log c.create.new.self) (log c.fill.new.folder) created c.fill.ensures.safe)
    (c.take_back.ensures.safe path bytes c.requires)

pub returns-clause-safe : goal.returns-clause-safe
returns-clause-safe g c =
    let log = g.F.SaveFolder.log in let old = log c.args.folder.now in
    let beside = c.args.beside.now in let path = c.args.path.now in let bytes = c.args.bytes.now in
    let created : LosesNothing (Only beside) path bytes old (log c.create.new.self) =
    subst (λ (l : List Call). LosesNothing (Only beside) path bytes old l) (sym c.create.ensures)
    (made_exit beside path bytes c.requires (is_ok c.create.result) old) in
    subst (λ (l : List Call). LosesNothing (Only beside) path bytes old l) (sym c.sync_folder.ensures)
    (folder_exit beside path bytes c.requires (is_ok c.sync_folder.result) old (log c.fill.new.folder)
    (both (Only beside) path bytes old (log c.create.new.self) (log c.fill.new.folder) created c.fill.ensures.safe))

pub returns-clause-kept : goal.returns-clause-kept
returns-clause-kept g c =
    on_ok _ c.sync_folder.result (λ ok. subst (λ (l : List Call). IsKept c.args.path.now c.args.bytes.now l) (sym c.sync_folder.ensures)
    (folder_kept c.args.path.now c.args.bytes.now (is_ok c.sync_folder.result) (g.F.SaveFolder.log c.fill.new.folder) ok c.in_default.ensures.placed))

pub returns-in-Err-clause-reason : goal.returns-in-Err-clause-reason
returns-in-Err-clause-reason g c =
    let created = more_refused c.create.ensures in
    let filled = c.in-Err.ensures.reason in
    let taken_back = refusals_stay (c.take_back.ensures.safe c.args.path.now c.args.bytes.now c.requires) in
    omega (arith, created, filled, taken_back)

pub returns-clause-reason : goal.returns-clause-reason
returns-clause-reason g c =
    let log = g.F.SaveFolder.log in let old = refusals (log c.args.folder.now) in let filled = log c.fill.new.folder in
    let stay = refusals_stay c.fill.ensures.safe in
    on_refusal c.sync_folder.result _ (λ failed. subst (λ (l : List Call). old < refusals l) (sym c.sync_folder.ensures)
    (subst (λ (ok : Bool). old < refusal (folder_synced ok) + refusals filled) (sym failed) (omega (arith, more_refused c.create.ensures, stay))))

pub returns-in-Err-clause-careful : goal.returns-in-Err-clause-careful
returns-in-Err-clause-careful g c =
    let created = made_careful c.args.beside.now c.args.path.now (is_ok c.create.result) _ _ c.create.ensures in
    careful_both _ _ _ _ _ (careful_both _ _ _ _ _ created c.fill.ensures.careful) (c.take_back.ensures.careful c.args.path.now)

pub returns-clause-put : goal.returns-clause-put
returns-clause-put g c =
    on_ok _ c.sync_folder.result (λ ok. put_new c.args.path.now c.args.bytes.now (is_ok c.sync_folder.result) ok _ _ c.sync_folder.ensures
    c.in_default.ensures.put)
