use Rattle.std.proofs.Common.{◌+◌, ◌^◌, ◌≤◌, IsTrue}
use Rattle.std.specs.Io.KnownBytes.{IsAtEnd}
use Rattle.lines.specs.Reading.{budget, input_left}
use Rattle.document_lines.specs.Machine.{workspace}
use Rattle.document_lines.specs.MoreRules.{MachineStepFor}
use Rattle.editor.specs.Editors.{IsSound, machine_of}
use Rattle.session_run.specs.WithinRuns.{Goes}
use Rattle.session_run.proofs.running.step_all.Given as goal

abbrev pub invariant-session : goal.invariant-session
invariant-session g l = record {
  sound : IsSound g.C.Command.change l.editor;
  ended : IsTrue l.lines.ended → IsAtEnd (g.R.Read.remaining l.reader);
  goes : Goes (MachineStepFor l.fn.dialect) l.fn.is_strict (workspace (machine_of g.C.Command.change l.fn.editor) (g.S.MapStore.stored l.fn.store))
      (g.R.Read.remaining l.fn.reader) (input_left l.lines (g.R.Read.remaining l.reader))
      (workspace (machine_of g.C.Command.change l.editor) (g.S.MapStore.stored l.store)) (g.W.Write.contents l.fn.writer)
      (g.W.Write.contents l.writer) l.summary.lines l.summary.replies;
  bounded : l.summary.lines + budget l.lines ≤ 2 ^ 48;
  few : l.summary.replies ≤ l.summary.lines;
}

abbrev pub decreases-session : goal.decreases-session
decreases-session g l = budget l.lines
