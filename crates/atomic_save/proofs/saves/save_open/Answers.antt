-- What was lost by the calls so far: nothing.
use Rattle.std.proofs.Common.{◌≡◌, ℕ, Bool, List, ◌∷◌, is_ok, sym, ap, subst, ◌∙◌, arith}
use Rattle.atomic_save.specs.Crash.{Call, looked, folder_opened}
use Rattle.atomic_save.specs.Saving.{LosesNothing, IsBeside, NoPath}
use Rattle.atomic_save.proofs.Calls.{both, weaken}
use Rattle.atomic_save.proofs.Refusals.{refusals_stay, more_refused, later}
use Rattle.atomic_save.proofs.Filled.{looked_exit, opened_exit}
use Rattle.atomic_save.specs.TwoRuns.{AreCareful, StaysCareful}
use Rattle.atomic_save.proofs.Careful.{careful_both, careful_weaken}
use Rattle.atomic_save.proofs.saves.save_open.Goals as goal

-- one call more
also : {calls so_far next : List Call} {call : Call} → so_far ≡ calls → next ≡ call ∷ so_far → next ≡ call ∷ calls
also {call = call} e f = f ∙ ap (λ (l : List Call). call ∷ l) e

pub returns-in_err-access-clause-safe : goal.returns-in_err-access-clause-safe
returns-in_err-access-clause-safe g c =
    let old = g.F.SaveFolder.log c.args.folder.now in
    subst (λ (l : List Call). LosesNothing (IsBeside c.args.front.now) c.args.path.now c.args.bytes.now old l) (sym c.access.ensures)
    (looked_exit c.args.front.now c.args.path.now c.args.bytes.now c.requires c.args.path.now (is_ok c.access.result) old)

pub returns-in_err-open_folder-clause-safe : goal.returns-in_err-open_folder-clause-safe
returns-in_err-open_folder-clause-safe g c =
    let old = g.F.SaveFolder.log c.args.folder.now in
    subst (λ (l : List Call). LosesNothing (IsBeside c.args.front.now) c.args.path.now c.args.bytes.now old l)
    (sym (also c.access.ensures c.open_folder.ensures))
    (opened_exit c.args.front.now c.args.path.now c.args.bytes.now c.requires c.args.path.now (is_ok c.access.result) (is_ok c.open_folder.result) old)

pub returns-then-is_unchanged-clause-safe : goal.returns-then-is_unchanged-clause-safe
returns-then-is_unchanged-clause-safe g c =
    let log = g.F.SaveFolder.log in let old = log c.args.folder.now in
    let front = c.args.front.now in let path = c.args.path.now in let bytes = c.args.bytes.now in
    let opened : LosesNothing (IsBeside front) path bytes old (log c.open_folder.new.self) =
    subst (λ (l : List Call). LosesNothing (IsBeside front) path bytes old l) (sym (also c.access.ensures c.open_folder.ensures))
    (opened_exit front path bytes c.requires path (is_ok c.access.result) (is_ok c.open_folder.result) old) in
    both (IsBeside front) path bytes old (log c.clear.new.folder) (log c.is_unchanged.new.folder)
    (both (IsBeside front) path bytes old (log c.open_folder.new.self) (log c.clear.new.folder) opened (c.clear.ensures.safe path bytes c.requires))
    (weaken NoPath (IsBeside front) path bytes (log c.clear.new.folder) (log c.is_unchanged.new.folder) (λ other q. absurd q) c.is_unchanged.ensures.safe)

pub returns-clause-safe : goal.returns-clause-safe
returns-clause-safe g c =
    let log = g.F.SaveFolder.log in let old = log c.args.folder.now in
    let front = c.args.front.now in let path = c.args.path.now in let bytes = c.args.bytes.now in
    let opened : LosesNothing (IsBeside front) path bytes old (log c.open_folder.new.self) =
    subst (λ (l : List Call). LosesNothing (IsBeside front) path bytes old l) (sym (also c.access.ensures c.open_folder.ensures))
    (opened_exit front path bytes c.requires path (is_ok c.access.result) (is_ok c.open_folder.result) old) in
    both (IsBeside front) path bytes old (log c.is_unchanged.new.folder) (log c.replace.new.folder)
    (both (IsBeside front) path bytes old (log c.clear.new.folder) (log c.is_unchanged.new.folder)
    (both (IsBeside front) path bytes old (log c.open_folder.new.self) (log c.clear.new.folder) opened (c.clear.ensures.safe path bytes c.requires))
    (weaken NoPath (IsBeside front) path bytes (log c.clear.new.folder) (log c.is_unchanged.new.folder) (λ other q. absurd q) c.is_unchanged.ensures.safe))
    c.replace.ensures.safe

pub returns-then-is_unchanged-clause-kept : goal.returns-then-is_unchanged-clause-kept
returns-then-is_unchanged-clause-kept g c = c.is_unchanged.ensures.kept c.if-is_unchanged.true

-- what came before the new file took no refusal back
pub returns-clause-reason : goal.returns-clause-reason
returns-clause-reason g c =
    let log = g.F.SaveFolder.log in
    let opened = more_refused c.open_folder.ensures in
    let looked = more_refused c.access.ensures in
    let cleared = refusals_stay (c.clear.ensures.safe c.args.path.now c.args.bytes.now c.requires) in
    let compared = refusals_stay c.is_unchanged.ensures.safe in
    later (log c.args.folder.now) (log c.is_unchanged.new.folder) (log c.replace.new.folder)
    (omega (arith, looked, opened, cleared, compared)) c.replace.result c.replace.ensures.reason

-- the calls before a comparison
begun : (front path at : List ℕ) (look ok : Bool) (old opened cleared : List Call) → opened ≡ folder_opened ok ∷ looked at look ∷ old
    → StaysCareful (IsBeside front) path opened cleared → StaysCareful (IsBeside front) path old cleared
begun front path at look ok old opened cleared_calls e cleared =
    λ is_new beside apart careful. cleared is_new beside apart (subst (AreCareful is_new) (sym e) (tt, (tt, careful)))

pub returns-then-is_unchanged-clause-careful : goal.returns-then-is_unchanged-clause-careful
returns-then-is_unchanged-clause-careful g c =
    careful_both _ _ _ _ _ (begun _ _ _ _ _ _ _ _ (also c.access.ensures c.open_folder.ensures) (c.clear.ensures.careful c.args.path.now))
    (careful_weaken _ _ _ _ _ (λ at q. absurd q) c.is_unchanged.ensures.careful)

pub returns-clause-careful : goal.returns-clause-careful
returns-clause-careful g c =
    careful_both _ _ _ _ _ (careful_both _ _ _ _ _
    (begun _ _ _ _ _ _ _ _ (also c.access.ensures c.open_folder.ensures) (c.clear.ensures.careful c.args.path.now))
    (careful_weaken _ _ _ _ _ (λ at q. absurd q) c.is_unchanged.ensures.careful)) c.replace.ensures.careful

pub returns-then-is_unchanged-clause-put : goal.returns-then-is_unchanged-clause-put
returns-then-is_unchanged-clause-put g c = c.is_unchanged.ensures.put c.if-is_unchanged.true
