use Rattle.session.proofs.MoreForms.{more_spelled_is_read}
use Rattle.session.proofs.more_spelling.more_spelled_is_read.Goals as goal

pub returns : goal.returns
returns c = more_spelled_is_read
