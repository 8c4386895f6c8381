-- The lock of the name is one call more, and to close changes no list of calls.
use Rattle.std.proofs.Common.{List, sym, subst, IfErr, OnOk}
use Rattle.atomic_save.specs.Crash.{Call}
use Rattle.atomic_save.specs.Saving.{LosesNothing, IsKept, IsBeside, IsReason}
use Rattle.atomic_save.proofs.Calls.{both}
use Rattle.atomic_save.proofs.Refusals.{more_refused, later}
use Rattle.atomic_save.proofs.Filled.{locked_exit}
use Rattle.atomic_save.specs.TwoRuns.{IsPut}
use Rattle.atomic_save.proofs.saves.save.Goals as goal

pub returns-clause-safe : goal.returns-clause-safe
returns-clause-safe g c =
    let log = g.F.SaveFolder.log in let old = log c.args.folder.now in
    let front = c.args.front.now in let path = c.args.path.now in let bytes = c.args.bytes.now in
    subst (λ (l : List Call). LosesNothing (IsBeside front) path bytes old l) (sym c.close.ensures)
    (both (IsBeside front) path bytes old (log c.lock_name.new.self) (log c.save_open-result.new.folder)
    (subst (λ (l : List Call). LosesNothing (IsBeside front) path bytes old l) (sym c.lock_name.ensures)
    (locked_exit front path bytes c.requires path c.lock_name.result old))
    c.save_open-result.ensures.safe)

pub returns-clause-kept : goal.returns-clause-kept
returns-clause-kept g c = subst (λ (l : List Call). OnOk c.save_open-result.result (IsKept c.args.path.now c.args.bytes.now l))
    (sym c.close.ensures) c.save_open-result.ensures.kept

pub returns-clause-reason : goal.returns-clause-reason
returns-clause-reason g c =
    let log = g.F.SaveFolder.log in
    subst (λ (l : List Call). IfErr c.save_open-result.result (λ e. IsReason e (log c.args.folder.now) l)) (sym c.close.ensures)
    (later (log c.args.folder.now) (log c.lock_name.new.self) (log c.save_open-result.new.folder) (more_refused c.lock_name.ensures) c.save_open-result.result
    c.save_open-result.ensures.reason)

pub returns-clause-put : goal.returns-clause-put
returns-clause-put g c = subst (λ (l : List Call). OnOk c.save_open-result.result (IsPut c.args.path.now c.args.bytes.now l))
    (sym c.close.ensures) c.save_open-result.ensures.put
