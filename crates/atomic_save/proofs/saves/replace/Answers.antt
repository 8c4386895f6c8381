-- One attempt after another loses nothing.
use Rattle.std.proofs.Common.{ℕ, List, sym, subst, arith}
use Rattle.atomic_save.specs.Crash.{Call}
use Rattle.atomic_save.specs.Saving.{IsBeside, Only}
use Rattle.atomic_save.proofs.Calls.{both, none, weaken}
use Rattle.atomic_save.proofs.Refusals.{refusals_stay}
use Rattle.atomic_save.specs.TwoRuns.{StaysCareful}
use Rattle.atomic_save.proofs.Careful.{careful_both, careful_weaken}
use Rattle.atomic_save.proofs.saves.replace.Goals as goal

-- one attempt more
tried : (front path beside : List ℕ) (old middle new : List Call) → StaysCareful (IsBeside front) path old middle → IsBeside front beside
    → StaysCareful (Only beside) path middle new → StaysCareful (IsBeside front) path old new
tried front path beside old middle new sofar is more = careful_both _ _ _ _ _ sofar (careful_weaken _ _ _ _ _ (λ at q. subst (IsBeside front) (sym q) is) more)

pub returns-in-Ok-clause-safe : goal.returns-in-Ok-clause-safe
returns-in-Ok-clause-safe g c =
    let log = g.F.SaveFolder.log in let front = c.args.front.now in let path = c.args.path.now in let bytes = c.args.bytes.now in
    let beside = subst (IsBeside front) (sym c.as_str.ensures.value) c.in_ok-beside.ensures in
    both (IsBeside front) path bytes (log c.args.folder.now) (log c.loop-number.folder) (log c.save_beside.new.folder) c.loop-number.invariant.safe
    (weaken (Only c.as_str.result.now) (IsBeside front) path bytes (log c.loop-number.folder) (log c.save_beside.new.folder)
    (λ other q. subst (IsBeside front) (sym q) beside) c.save_beside.ensures.safe)

pub returns-in-Err-2-clause-safe : goal.returns-in-Err-2-clause-safe
returns-in-Err-2-clause-safe g c =
    let log = g.F.SaveFolder.log in let front = c.args.front.now in let path = c.args.path.now in let bytes = c.args.bytes.now in
    let beside = subst (IsBeside front) (sym c.as_str.ensures.value) c.in_ok-beside.ensures in
    both (IsBeside front) path bytes (log c.args.folder.now) (log c.loop-number.folder) (log c.save_beside.new.folder) c.loop-number.invariant.safe
    (weaken (Only c.as_str.result.now) (IsBeside front) path bytes (log c.loop-number.folder) (log c.save_beside.new.folder)
    (λ other q. subst (IsBeside front) (sym q) beside) c.save_beside.ensures.safe)

pub loop-number-preserved : goal.loop-number-preserved
loop-number-preserved g c =
    let log = g.F.SaveFolder.log in let front = c.args.front.now in let path = c.args.path.now in let bytes = c.args.bytes.now in
    let beside = subst (IsBeside front) (sym c.as_str.ensures.value) c.in_ok-beside.ensures in
    let stay = refusals_stay c.loop-number.invariant.safe in
    record {
      reason = λ late. omega (arith, stay, c.in-Err.ensures.reason);
      careful = tried _ _ _ _ _ _ c.loop-number.invariant.careful beside c.save_beside.ensures.careful;
      safe = both (IsBeside front) path bytes (log c.args.folder.now) (log c.loop-number.folder) (log c.save_beside.new.folder) c.loop-number.invariant.safe
          (weaken (Only c.as_str.result.now) (IsBeside front) path bytes (log c.loop-number.folder) (log c.save_beside.new.folder)
          (λ other q. subst (IsBeside front) (sym q) beside) c.save_beside.ensures.safe);
    }

pub loop-number-init : goal.loop-number-init
loop-number-init g c = record {
  safe = none (IsBeside c.args.front.now) c.args.path.now c.args.bytes.now (g.F.SaveFolder.log c.args.folder.now);
  reason = λ late. absurd (omega (arith, late));
  careful = λ is_new beside apart careful. careful;
}

pub returns-in-Err-2-clause-reason : goal.returns-in-Err-2-clause-reason
returns-in-Err-2-clause-reason g c =
    let stay = refusals_stay c.loop-number.invariant.safe in
    omega (arith, stay, c.in-Err.ensures.reason)

pub returns-clause-reason : goal.returns-clause-reason
returns-clause-reason g c = c.loop-number.invariant.reason (omega (arith, c.loop-number-test.false))

pub returns-in-Ok-clause-careful : goal.returns-in-Ok-clause-careful
returns-in-Ok-clause-careful g c =
    let beside = subst (IsBeside c.args.front.now) (sym c.as_str.ensures.value) c.in_ok-beside.ensures in
    tried _ _ _ _ _ _ c.loop-number.invariant.careful beside c.save_beside.ensures.careful

pub returns-in-Err-2-clause-careful : goal.returns-in-Err-2-clause-careful
returns-in-Err-2-clause-careful g c =
    let beside = subst (IsBeside c.args.front.now) (sym c.as_str.ensures.value) c.in_ok-beside.ensures in
    tried _ _ _ _ _ _ c.loop-number.invariant.careful beside c.save_beside.ensures.careful

pub returns-in_err-beside-clause-careful : goal.returns-in_err-beside-clause-careful
returns-in_err-beside-clause-careful g c = c.loop-number.invariant.careful

pub returns-clause-careful : goal.returns-clause-careful
returns-clause-careful g c = c.loop-number.invariant.careful
