-- Each exit, by the calls that were made up to it.
use Rattle.std.proofs.Common.{◌≡◌, List, ◌∷◌, is_ok, sym, ap, subst, ◌∙◌}
use Rattle.atomic_save.specs.Crash.{Call}
use Rattle.atomic_save.specs.Saving.{LosesNothing, IsBeside}
use Rattle.atomic_save.proofs.Filled.{seized_exit, cleared_exit}
use Rattle.atomic_save.proofs.saves.clear_one.Goals as goal

-- one call more
also : {calls so_far next : List Call} {call : Call} → so_far ≡ calls → next ≡ call ∷ so_far → next ≡ call ∷ calls
also {call = call} e f = f ∙ ap (λ (l : List Call). call ∷ l) e

pub returns-then-not-seize-clause-safe : goal.returns-then-not-seize-clause-safe
returns-then-not-seize-clause-safe g c = λ path bytes apart.
    let old = g.F.SaveFolder.log c.args.folder.now in
    subst (λ (l : List Call). LosesNothing (IsBeside c.args.front.now) path bytes old l) (sym c.seize.ensures)
    (seized_exit c.args.front.now path bytes apart c.as_str-beside.result.now c.seize.result old)

pub returns-clause-safe : goal.returns-clause-safe
returns-clause-safe g c = λ path bytes apart.
    let old = g.F.SaveFolder.log c.args.folder.now in
    subst (λ (l : List Call). LosesNothing (IsBeside c.args.front.now) path bytes old l) (sym (also c.seize.ensures c.remove.ensures))
    (cleared_exit c.args.front.now path bytes apart c.as_str-beside.result.now c.seize.result (is_ok c.remove.result) old
    (subst (IsBeside c.args.front.now) (sym c.as_str-beside.ensures.value) c.in-Ok.ensures))
