use Rattle.session.proofs.Laws.{spelled_is_read}
use Rattle.session.proofs.spelling.spelled_is_read.Goals as goal

pub returns : goal.returns
returns c = spelled_is_read
