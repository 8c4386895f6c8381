use Rattle.std.proofs.Common.{◌≡◌, ◌<◌, ◌≤◌, ◌+◌, ◌^◌, false, true, ap, refl, subst, sym, ◌∙◌, lit≤, arith}
use Rattle.lines.specs.Reading.{Reading, budget, fresh}
use Rattle.session_run.proofs.Progress.{goes_none, goes_replied, goes_quiet, goes_unwritten, goes_keeps, goes_all, goes_refused, goes_unflushed, goes_unread}
use Rattle.session_run.proofs.Progress.{refusal_of-Some}
use Rattle.session_run.proofs.Dialects.{refuses_long}
use Rattle.session_run.proofs.Appending.{at_ok, at_err}
use Rattle.session_run.proofs.running.step_all.Goals as goal

pub session-init : goal.session-init
session-init g c =
    let is : c.in-Ok.lines ≡ fresh = c.in-Ok.ensures in
    let P : Reading → Type 0 = λ r. 0 + budget r ≤ 2 ^ 48 in
    record {
      sound = c.requires.sound;
      ended = λ h. absurd (let bad : false ≡ true = sym (ap (λ (r : Reading). r.ended) is) ∙ h in cc);
      goes = goes_none _ _ _ _ _ _ is;
      bounded = subst P (sym is) (lit≤ tt);
      few = omega arith;
    }

pub session-preserved-in_default-step_found : goal.session-preserved-in_default-step_found
session-preserved-in_default-step_found g c =
    let spends : budget c.next.new.self < budget c.session.lines = rw c.in-Ok-Some.field-0-is at c.in-Ok-Some.ensures.spends in
    record {
      sound = c.in_default-step_found.ensures.sound;
      ended = c.in-Ok-Some.ensures.ended;
      goes = goes_quiet _ _ _ _ _ _ _ _ _ _ _ _ _ _ (goes_keeps _ _ _ _ _ _ _ _ _ _ _ c.session.invariant.goes c.flush_before_read.ensures.bytes)
          (rw c.in-Ok-Some.field-0-is at c.in-Ok-Some.ensures.found)
          (rw c.line.ensures at c.in_default-step_found.ensures.step);
      bounded = omega (arith, c.session.invariant.bounded);
      few = omega (arith, c.session.invariant.few);
    }

pub session-preserved : goal.session-preserved
session-preserved g c =
    let spends : budget c.next.new.self < budget c.session.lines = rw c.in-Ok-Some.field-0-is at c.in-Ok-Some.ensures.spends in
    record {
      sound = c.in-Some.ensures.sound;
      ended = c.in-Ok-Some.ensures.ended;
      goes = goes_replied _ _ _ _ _ _ _ _ _ _ _ _ _ _ _ _ (goes_keeps _ _ _ _ _ _ _ _ _ _ _ c.session.invariant.goes c.flush_before_read.ensures.bytes)
          (rw c.in-Ok-Some.field-0-is at c.in-Ok-Some.ensures.found)
          (rw c.line.ensures at c.in-Some.ensures.step) (at_ok _ (sym c.is_err-in-session.ensures.value ∙ c.if-is_err-2.false) c.write_reply.ensures.ok)
          (λ e. sym c.refusal-refusal.ensures ∙ c.in_default-ending.ensures.none e);
      bounded = omega (arith, c.session.invariant.bounded);
      few = omega (arith, c.session.invariant.few);
    }

pub returns-then-is_err-2-clause-write : goal.returns-then-is_err-2-clause-write
returns-then-is_err-2-clause-write g c = λ e. goes_unwritten _ _ _ _ _ _ _ _ _ _ _ _ _ _ _ _ _
    (goes_keeps _ _ _ _ _ _ _ _ _ _ _ c.session.invariant.goes c.flush_before_read.ensures.bytes)
    (rw c.in-Ok-Some.field-0-is at c.in-Ok-Some.ensures.found) (rw c.line.ensures at c.in-Some.ensures.step)
    (at_err _ (sym c.is_err-in-session.ensures.value ∙ c.if-is_err-2.true) c.write_reply.ensures.err)

-- a flush is needed where no whole line is at hand
pub returns-then-is_err-clause-write : goal.returns-then-is_err-clause-write
returns-then-is_err-clause-write g c = λ e.
    goes_unflushed _ _ _ _ _ _ _ _ _ _ _ _ (goes_keeps _ _ _ _ _ _ _ _ _ _ _ c.session.invariant.goes c.flush_before_read.ensures.bytes) refl
    (at_err _ (sym c.is_err.ensures.value ∙ c.if-is_err.true) c.flush_before_read.ensures.needed)

pub returns-in-Ok-None-clause-ok : goal.returns-in-Ok-None-clause-ok
returns-in-Ok-None-clause-ok g c =
    goes_all _ _ _ _ _ _ _ _ _ _ _ _ (goes_keeps _ _ _ _ _ _ _ _ _ _ _ c.session.invariant.goes c.flush_before_read.ensures.bytes)
    (rw c.in-Ok-None.field-0-is at c.in-Ok-None.ensures.found)

pub returns-in-Some-ending-clause-ok : goal.returns-in-Some-ending-clause-ok
returns-in-Some-ending-clause-ok g c =
    let is = refusal_of-Some _ _ (sym c.refusal-refusal.ensures ∙ c.in-Some-ending.ensures.some) in
    goes_refused _ _ _ _ _ _ _ _ _ _ _ _ _ _ _ _ (refuses_long c.args.dialect)
    (goes_keeps _ _ _ _ _ _ _ _ _ _ _ c.session.invariant.goes c.flush_before_read.ensures.bytes)
    (rw c.in-Ok-Some.field-0-is at c.in-Ok-Some.ensures.found)
    (rw (c.line.ensures, is) at c.in-Some.ensures.step)
    (rw is at (at_ok _ (sym c.is_err-in-session.ensures.value ∙ c.if-is_err-2.false) c.write_reply.ensures.ok))
    c.in-Some-ending.ensures.strict

pub returns-in-Err-clause-read : goal.returns-in-Err-clause-read
returns-in-Err-clause-read g c = λ e. goes_unread _ _ _ _ _ _ _ _ _ _ _ _ _
    (goes_keeps _ _ _ _ _ _ _ _ _ _ _ c.session.invariant.goes c.flush_before_read.ensures.bytes) c.in-Err.ensures.unfinished refl c.in-Err.ensures.within_line
