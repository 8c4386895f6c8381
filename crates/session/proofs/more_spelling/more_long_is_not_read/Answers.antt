use Rattle.session.proofs.MoreForms.{more_long_is_not_read}
use Rattle.session.proofs.more_spelling.more_long_is_not_read.Goals as goal

pub returns : goal.returns
returns c = more_long_is_not_read
