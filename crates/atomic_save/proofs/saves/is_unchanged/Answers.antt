-- Each exit, by the calls that were made up to it.
use Rattle.std.proofs.Common.{◌≡◌, List, ◌∷◌, is_ok, sym, ap, subst, ◌∙◌}
use Rattle.atomic_save.specs.Crash.{Call}
use Rattle.atomic_save.specs.Saving.{LosesNothing, NoPath}
use Rattle.atomic_save.proofs.Calls.{none}
use Rattle.atomic_save.proofs.Filled.{compared_exit, compared_synced_exit, compared_kept_exit}
use Rattle.atomic_save.proofs.saves.is_unchanged.Goals as goal

-- one call more
also : {calls so_far next : List Call} {call : Call} → so_far ≡ calls → next ≡ call ∷ so_far → next ≡ call ∷ calls
also {call = call} e f = f ∙ ap (λ (l : List Call). call ∷ l) e

pub returns-then-not-compare-clause-safe : goal.returns-then-not-compare-clause-safe
returns-then-not-compare-clause-safe g c =
    let old = g.F.SaveFolder.log c.args.folder.now in
    subst (λ (l : List Call). LosesNothing NoPath c.args.path.now c.args.bytes.now old l) (sym c.compare.ensures.noted)
    (compared_exit c.args.path.now c.args.bytes.now c.compare.result old)

pub returns-then-is_err-clause-safe : goal.returns-then-is_err-clause-safe
returns-then-is_err-clause-safe g c =
    let old = g.F.SaveFolder.log c.args.folder.now in
    subst (λ (l : List Call). LosesNothing NoPath c.args.path.now c.args.bytes.now old l) (sym (also c.compare.ensures.noted c.sync.ensures))
    (compared_synced_exit c.args.path.now c.args.bytes.now c.compare.result (is_ok c.sync.result) old)

pub returns-clause-safe : goal.returns-clause-safe
returns-clause-safe g c =
    let old = g.F.SaveFolder.log c.args.folder.now in
    subst (λ (l : List Call). LosesNothing NoPath c.args.path.now c.args.bytes.now old l)
    (sym (also (also c.compare.ensures.noted c.sync.ensures) c.sync_folder.ensures))
    (compared_kept_exit c.args.path.now c.args.bytes.now c.compare.result (is_ok c.sync.result) (is_ok c.sync_folder.result) old)

pub returns-then-is_none-clause-safe : goal.returns-then-is_none-clause-safe
returns-then-is_none-clause-safe g c = none NoPath c.args.path.now c.args.bytes.now (g.F.SaveFolder.log c.args.folder.now)
