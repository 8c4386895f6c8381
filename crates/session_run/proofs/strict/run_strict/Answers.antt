use Rattle.session_run.proofs.Ends.{same_fault, strict_all, strict_unread, strict_unwritten}
use Rattle.session_run.proofs.strict.run_strict.Goals as goal

pub returns-in-Input-clause-ok : goal.returns-in-Input-clause-ok
returns-in-Input-clause-ok g c = strict_all _ _ _ _ _ _ _ _ (rw c.in-Input.is at c.in-Ok.ensures.ok)

pub returns-in-Err-clause-read : goal.returns-in-Err-clause-read
returns-in-Err-clause-read g c = λ e. strict_unread _ _ _ _ _ _ _ (c.in-Err.ensures.read (same_fault _ _ e))

pub returns-in-Err-clause-write : goal.returns-in-Err-clause-write
returns-in-Err-clause-write g c = λ e. strict_unwritten _ _ _ _ _ _ _ (c.in-Err.ensures.write (same_fault _ _ e))
