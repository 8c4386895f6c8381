use Rattle.std.proofs.Common.{sym, ◌∙◌}
use Rattle.session_run.proofs.Appending.{at_ok}
use Rattle.session_run.proofs.Ends.{known_all, known_refused, known_unread, known_unshown, known_unwritten, same_error}
use Rattle.session_run.proofs.running.run_lines.Goals as goal

pub returns-in-Err-clause-read : goal.returns-in-Err-clause-read
returns-in-Err-clause-read g c = λ e. known_unread _ _ _ _ _ _ c.new-editor.ensures.machine _ _ _ _ (c.in-Err.ensures.read (same_error _ _ e))

pub returns-in-Err-clause-write : goal.returns-in-Err-clause-write
returns-in-Err-clause-write g c = λ e. known_unwritten _ _ _ _ _ _ c.new-editor.ensures.machine _ _ _ _ (c.in-Err.ensures.write (same_error _ _ e))

pub returns-in_default-clause-ok : goal.returns-in_default-clause-ok
returns-in_default-clause-ok g c =
    known_all _ _ _ _ _ _ c.new-editor.ensures.machine _ _ _ _ _ _ _ _ _ (rw c.in_default.is at c.in-Ok.ensures.ok) c.group.ensures.group c.end_over-end.ensures

pub returns-then-is_err-clause-write : goal.returns-then-is_err-clause-write
returns-then-is_err-clause-write g c = λ e. known_unshown _ _ _ _ _ _ c.new-editor.ensures.machine _ _ _ _ _ _ _ _
    (rw c.in-Some.is at c.in-Ok.ensures.ok) c.end_refused.ensures.bytes

pub returns-clause-ok : goal.returns-clause-ok
returns-clause-ok g c =
    known_refused _ _ _ _ _ _ c.new-editor.ensures.machine _ _ _ _ _ _ _ _ _ (rw c.in-Some.is at c.in-Ok.ensures.ok) c.end_refused.ensures.bytes
    (at_ok _ (sym c.is_err.ensures.value ∙ c.if-is_err.false) c.end_refused.ensures.told)
