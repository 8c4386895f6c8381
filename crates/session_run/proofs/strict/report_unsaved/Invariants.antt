use Rattle.undo_group.specs.Stacks.{group_of}
use Rattle.session_run.proofs.Endings.{IsReported}
use Rattle.session_run.proofs.strict.report_unsaved.Given as goal

abbrev pub invariant-loop-name : goal.invariant-loop-name
invariant-loop-name g l = IsReported (group_of g.C.Command.change l.group).documents l.is_unsaved l.name-iterator
    ((goal.Report-dyn g l.fn.report.now).told l.fn.report.now.1)
    ((goal.Report-dyn g l.report.now).told l.report.now.1)
