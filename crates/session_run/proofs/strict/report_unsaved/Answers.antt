use Rattle.std.proofs.Common.{rules, Some, None}
use Rattle.undo_stack.specs.Stacks.{history}
use Rattle.session_run.proofs.Endings.{all-IsReported, all-told, clean-IsReported, none-IsReported, unsaved-IsReported}
use Rattle.session_run.proofs.strict.report_unsaved.Goals as goal

pub loop-name-init : goal.loop-name-init
loop-name-init g c = none-IsReported _ _ _ (search rules)

pub loop-name-preserved-in-Some-unsaved_in : goal.loop-name-preserved-in-Some-unsaved_in
loop-name-preserved-in-Some-unsaved_in g c =
    unsaved-IsReported _ _ _ _ c.in-Some.name.now (history g.C.Command.change c.in-Some-get.stack.now) _ _ _ _ c.loop-name.invariant
    (search rules) c.in-Some-get.ensures.named (search rules) c.unsaved.ensures

pub loop-name-preserved-in_default-unsaved_in : goal.loop-name-preserved-in_default-unsaved_in
loop-name-preserved-in_default-unsaved_in g c =
    clean-IsReported _ _ _ _ c.in-Some.name.now (Some (history g.C.Command.change c.in-Some-get.stack.now)) _ _ c.loop-name.invariant
    (search rules) c.in-Some-get.ensures.named (search rules)

pub loop-name-preserved : goal.loop-name-preserved
loop-name-preserved g c =
    clean-IsReported _ _ _ _ c.in-Some.name.now None _ _ c.loop-name.invariant (search rules) c.in_default.ensures.named tt

pub returns-clause-clean : goal.returns-clause-clean
returns-clause-clean g c = all-IsReported _ _ _ _ _ c.names-name-items.ensures.whole.distinct c.loop-name.invariant c.in-None.ensures.steps.0

pub returns-clause-told : goal.returns-clause-told
returns-clause-told g c = all-told _ _ _ _ _ c.names-name-items.ensures.whole.distinct c.loop-name.invariant c.in-None.ensures.steps.0
