use Rattle.session_run.proofs.Journals.{journals_lead}
use Rattle.session_run.proofs.laws.journals_lead_to_the_same_documents.Goals as goal

pub returns : goal.returns
returns c = journals_lead
