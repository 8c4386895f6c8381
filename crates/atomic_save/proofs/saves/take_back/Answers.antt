-- Each exit, by the calls that were made up to it.
use Rattle.std.proofs.Common.{◌≡◌, List, ◌∷◌, is_ok, sym, ap, subst, ◌∙◌}
use Rattle.atomic_save.specs.Crash.{Call}
use Rattle.atomic_save.specs.Saving.{LosesNothing, Only}
use Rattle.atomic_save.proofs.Filled.{claimed_exit, removed_exit}
use Rattle.atomic_save.proofs.saves.take_back.Goals as goal

-- one call more
also : {calls so_far next : List Call} {call : Call} → so_far ≡ calls → next ≡ call ∷ so_far → next ≡ call ∷ calls
also {call = call} e f = f ∙ ap (λ (l : List Call). call ∷ l) e

pub returns-then-is_err-clause-safe : goal.returns-then-is_err-clause-safe
returns-then-is_err-clause-safe g c = λ path bytes apart.
    let old = g.F.SaveFolder.log c.args.folder.now in
    subst (λ (l : List Call). LosesNothing (Only c.args.beside.now) path bytes old l) (sym c.claim.ensures)
    (claimed_exit c.args.beside.now path bytes apart (is_ok c.claim.result) old)

pub returns-clause-safe : goal.returns-clause-safe
returns-clause-safe g c = λ path bytes apart.
    let old = g.F.SaveFolder.log c.args.folder.now in
    subst (λ (l : List Call). LosesNothing (Only c.args.beside.now) path bytes old l) (sym (also c.claim.ensures c.remove.ensures))
    (removed_exit c.args.beside.now path bytes apart (is_ok c.claim.result) (is_ok c.remove.result) old)
