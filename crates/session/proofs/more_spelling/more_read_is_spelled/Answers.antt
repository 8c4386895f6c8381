use Rattle.session.proofs.MoreForms.{more_read_is_spelled}
use Rattle.session.proofs.more_spelling.more_read_is_spelled.Goals as goal

pub returns : goal.returns
returns c = more_read_is_spelled
