use Rattle.session_run.proofs.Dialects.{long_step}
use Rattle.session_run.proofs.running.step_found.Goals as goal

pub returns-in-TooLong-clause-step : goal.returns-in-TooLong-clause-step
returns-in-TooLong-clause-step g c = rw c.in-TooLong.is (λ long size. long_step c.args.dialect long _ size)

pub returns-in-Line-clause-step : goal.returns-in-Line-clause-step
returns-in-Line-clause-step g c = rw c.in-Line.is c.step.ensures.step
