use Rattle.session_run.proofs.Journals.{runs_are_one}
use Rattle.session_run.proofs.laws.runs_are_one.Goals as goal

pub returns : goal.returns
returns c = runs_are_one
