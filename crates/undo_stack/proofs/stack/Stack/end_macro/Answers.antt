use Rattle.undo_stack.proofs.stack.Stack.end_macro.Goals as goal

pub returns-in-Ok-clause-step : goal.returns-in-Ok-clause-step
returns-in-Ok-clause-step g c = rw c.in-Ok.is at c.end_macro_told.ensures.step

pub returns-in-Ok-clause-nests : goal.returns-in-Ok-clause-nests
returns-in-Ok-clause-nests g c = rw c.in-Ok.is at c.end_macro_told.ensures.nests

pub returns-in-Err-clause-step : goal.returns-in-Err-clause-step
returns-in-Err-clause-step g c = rw c.in-Err.is at c.end_macro_told.ensures.step

pub returns-in-Err-clause-nests : goal.returns-in-Err-clause-nests
returns-in-Err-clause-nests g c = rw c.in-Err.is at c.end_macro_told.ensures.nests
