use Rattle.session.proofs.Laws.{quiet_is_read}
use Rattle.session.proofs.spelling.quiet_is_read.Goals as goal

pub returns : goal.returns
returns c = quiet_is_read
