use Rattle.std.proofs.Common.{◌≡◌, rules, Ok, Err, refl, sym}
use Rattle.document_lines.specs.declared.planned.Planned.TheVariants as planned
use Rattle.session.specs.MoreGrammar.{more_line_of}
use Rattle.session.specs.declared.reply.Reply.TheVariants.{Refused}
use Rattle.session_run.proofs.Bytes.{more_plan, more_plan_kinds}
use Rattle.session_run.proofs.Dialects.{unread_kinds, unread_step}
use Rattle.session_run.proofs.running.plan_refused.Goals as goal

pub returns-in-Plain-clause-plans : goal.returns-in-Plain-clause-plans
returns-in-Plain-clause-plans g c = λ stored. rw c.in-Plain.is (rw c.requires.unread (refl, refl))

pub returns-in-Plain-clause-kinds : goal.returns-in-Plain-clause-kinds
returns-in-Plain-clause-kinds g c = rw c.in-Plain.is (rw c.requires.unread refl)

pub returns-in-Push-clause-plans : goal.returns-in-Push-clause-plans
returns-in-Push-clause-plans g c = λ stored.
    let read : more_line_of c.args.line.now ≡ Ok c.in-Ok.own = rw c.in-Ok.is at c.parse_more_line.ensures.value in
    rw c.in-AllEdits.is (more_plan g.C.Command.change c.in-AllEdits.fractions c.args.line.now c.args.fault c.in-Ok.own c.requires.unread read _ _ stored
    (planned.Push c.in-Push.edit) c.in-Push.ensures.machine c.in-Push.ensures.plans)

pub returns-in-Push-clause-kinds : goal.returns-in-Push-clause-kinds
returns-in-Push-clause-kinds g c =
    let read : more_line_of c.args.line.now ≡ Ok c.in-Ok.own = rw c.in-Ok.is at c.parse_more_line.ensures.value in
    rw c.in-AllEdits.is (more_plan_kinds g.C.Command.change c.in-AllEdits.fractions c.args.line.now c.args.fault c.in-Ok.own c.requires.unread read _ _
    (planned.Push c.in-Push.edit) _ _ c.in-Push.ensures.machine c.in-Push.ensures.kinds c.in-Push.ensures.plans)

pub returns-in-Reply-Refused-clause-plans : goal.returns-in-Reply-Refused-clause-plans
returns-in-Reply-Refused-clause-plans g c = λ stored.
    let read : more_line_of c.args.line.now ≡ Ok c.in-Ok.own = rw c.in-Ok.is at c.parse_more_line.ensures.value in
    let is : c.in-Reply-Refused.field-0 ≡ Refused c.in-Reply-Refused.refusal = search rules in
    rw (c.in-AllEdits.is, sym is) (more_plan g.C.Command.change c.in-AllEdits.fractions c.args.line.now c.args.fault c.in-Ok.own c.requires.unread read _ _ stored
    (planned.Reply c.in-Reply-Refused.field-0) c.in-Reply-Refused.ensures.machine c.in-Reply-Refused.ensures.plans)

pub returns-in-Reply-Refused-clause-kinds : goal.returns-in-Reply-Refused-clause-kinds
returns-in-Reply-Refused-clause-kinds g c =
    let read : more_line_of c.args.line.now ≡ Ok c.in-Ok.own = rw c.in-Ok.is at c.parse_more_line.ensures.value in
    let is : c.in-Reply-Refused.field-0 ≡ Refused c.in-Reply-Refused.refusal = search rules in
    rw (c.in-AllEdits.is, sym is) (more_plan_kinds g.C.Command.change c.in-AllEdits.fractions c.args.line.now c.args.fault c.in-Ok.own c.requires.unread read _ _
    (planned.Reply c.in-Reply-Refused.field-0) _ _ c.in-Reply-Refused.ensures.machine c.in-Reply-Refused.ensures.kinds
    c.in-Reply-Refused.ensures.plans)

pub returns-clause-plans : goal.returns-clause-plans
returns-clause-plans g c = λ stored.
    let also : more_line_of c.args.line.now ≡ Err c.in-Err.more = rw c.in-Err.is at c.parse_more_line.ensures.value in
    rw (c.in-AllEdits.is, c.fault_of_both.ensures) (unread_step c.in-AllEdits.fractions c.args.line.now c.args.fault c.in-Err.more _ c.requires.unread also)

pub returns-clause-kinds : goal.returns-clause-kinds
returns-clause-kinds g c =
    let also : more_line_of c.args.line.now ≡ Err c.in-Err.more = rw c.in-Err.is at c.parse_more_line.ensures.value in
    rw c.in-AllEdits.is (unread_kinds c.in-AllEdits.fractions c.args.line.now c.args.fault c.in-Err.more _ _ _ _ c.requires.unread also)
