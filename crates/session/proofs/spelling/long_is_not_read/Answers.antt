use Rattle.session.proofs.Laws.{long_is_not_read}
use Rattle.session.proofs.spelling.long_is_not_read.Goals as goal

pub returns : goal.returns
returns c = long_is_not_read
