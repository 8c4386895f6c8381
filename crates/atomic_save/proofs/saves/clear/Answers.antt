-- One file after another.
use Rattle.std.proofs.Common.{List, is_ok, sym, subst}
use Rattle.atomic_save.specs.Crash.{Call}
use Rattle.atomic_save.specs.Saving.{LosesNothing, IsBeside}
use Rattle.atomic_save.proofs.Calls.{both}
use Rattle.atomic_save.proofs.Filled.{listed_exit}
use Rattle.atomic_save.specs.TwoRuns.{AreCareful}
use Rattle.atomic_save.proofs.Careful.{careful_both}
use Rattle.atomic_save.proofs.saves.clear.Goals as goal

pub returns-in_default-clause-safe : goal.returns-in_default-clause-safe
returns-in_default-clause-safe g c = λ path bytes apart.
    let old = g.F.SaveFolder.log c.args.folder.now in
    subst (λ (l : List Call). LosesNothing (IsBeside c.args.front.now) path bytes old l) (sym c.left_overs.ensures)
    (listed_exit c.args.front.now path bytes apart (is_ok c.left_overs.result) old)

pub loop-number-init : goal.loop-number-init
loop-number-init g c =
    let old = g.F.SaveFolder.log c.args.folder.now in
    record {
      safe = λ path bytes apart. subst (λ (l : List Call). LosesNothing (IsBeside c.args.front.now) path bytes old l) (sym c.left_overs.ensures)
          (listed_exit c.args.front.now path bytes apart (is_ok c.left_overs.result) old);
      careful = λ path is_new beside apart careful. subst (AreCareful is_new) (sym c.left_overs.ensures) (tt, careful);
    }

pub loop-number-preserved : goal.loop-number-preserved
loop-number-preserved g c =
    let log = g.F.SaveFolder.log in
    record {
      safe = λ path bytes apart. both (IsBeside c.args.front.now) path bytes (log c.args.folder.now) (log c.loop-number.folder) (log c.clear_one.new.folder)
          (c.loop-number.invariant.safe path bytes apart) (c.clear_one.ensures.safe path bytes apart);
      careful = λ path. careful_both _ _ _ _ _ (c.loop-number.invariant.careful path) (c.clear_one.ensures.careful path);
    }
