use Rattle.session_run.proofs.Journals.{have_journals}
use Rattle.session_run.proofs.laws.runs_have_journals.Goals as goal

pub returns : goal.returns
returns c = have_journals
