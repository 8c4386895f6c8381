use Rattle.undo_stack.proofs.stack.Stack.push.Goals as goal

pub returns-in-Ok-clause-pushed : goal.returns-in-Ok-clause-pushed
returns-in-Ok-clause-pushed g c = rw c.in-Ok.is at c.push_told.ensures.pushed

pub returns-in-Ok-clause-reported : goal.returns-in-Ok-clause-reported
returns-in-Ok-clause-reported g c = rw c.in-Ok.is at c.push_told.ensures.reported

pub returns-in-Err-clause-unchanged : goal.returns-in-Err-clause-unchanged
returns-in-Err-clause-unchanged g c = rw c.in-Err.is at c.push_told.ensures.unchanged

pub returns-in-Err-clause-kept : goal.returns-in-Err-clause-kept
returns-in-Err-clause-kept g c = rw c.in-Err.is at c.push_told.ensures.kept
